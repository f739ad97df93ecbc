-- The digits of a number, one at a time from the last.
use mathlib.Core.Path.{◌≡◌, refl, sym, ap, ◌∙◌}
use mathlib.Core.List.{[], ◌∷◌, ◌++◌, append_assoc}
use Prim.Native.Nat.{ℕ, zero, suc, ◌+◌, ◌*◌, ◌/◌, ◌%◌, ◌≤◌, ◌<◌, max}
use native.Mathlib.Nat.{lt_of_lt_of_le, mul_assoc, mul-pos, mul-le-mul, mod-lt, mod-eq_of_lt, div-eq_of_lt, div-add-mod, div-div-eq-div-mul, mul-add-div, mul-add-mod_self_left}
use native.Mathlib.Numerals.{add-one}
use native.Mathlib.Decide.{dec_lt}
use native.Mathlib.Omega.{arith}
use lib.ListN.{length, length-append}
use borrow.Author.Tests.{lt-ltb}
use Rattle.text.specs.Numbers.{digit, digits, significant, decimal}

pub length_digits : (b k n : ℕ) → length (digits b k n) ≡ k
unfolding digits
length_digits b zero n = refl
length_digits b (suc k) n = simp (length-append, length_digits b k (n / b), add-one)

pub digit_small : {b : ℕ} (n : ℕ) → (0 < b) × (b ≤ 16) → n % b < 16
digit_small n h = lt_of_lt_of_le (mod-lt n h.0) h.1

-- ---- two digits at once

-- a base's square is a number to divide by
pub square : {b : ℕ} → (0 < b) × (b ≤ 16) → (0 < b * b) × (b * b ≤ 256)
square h = (mul-pos h.0 h.0, mul-le-mul h.1 h.1)

-- what a division by it leaves, divided by the base
module _ (b n : ℕ) (hb : 0 < b) where
  abbrev pair : ℕ
  pair = n % (b * b)

  in_parts : b * (b * (n / (b * b))) + pair ≡ n
  in_parts = rw (← mul_assoc) (div-add-mod n (b * b))

  pair_mod : pair % b ≡ n % b
  pair_mod = sym (mul-add-mod_self_left b (b * (n / (b * b))) pair) ∙ ap (λ (x : ℕ). x % b) in_parts

  pair_div : pair / b % b ≡ n / b % b
  pair_div =
      sym (mul-add-mod_self_left b (n / (b * b)) (pair / b))
      ∙ ap (λ (x : ℕ). x % b) (sym (mul-add-div hb (b * (n / (b * b))) pair) ∙ ap (λ (x : ℕ). x / b) in_parts)

-- so the last two digits are those of what is left
pub two_of : (b n : ℕ) → 0 < b → digits b 2 (n % (b * b)) ≡ digits b 2 n
unfolding digits
two_of b n hb = rw (pair_div b n hb, pair_mod b n hb) refl

-- and stand after those before them
pub two_more : (b k n : ℕ) → digits b k (n / (b * b)) ++ digits b 2 n ≡ digits b (suc (suc k)) n
unfolding digits
two_more b k n = simp (← div-div-eq-div-mul, append_assoc)

decimal_digit : (d : ℕ) → d < 10 → digit d ≡ 48 + d
unfolding digit
decimal_digit d h = rw (lt-ltb d 10 h)

no_significant : (m : ℕ) → significant m 0 ≡ 0
unfolding significant
no_significant zero = refl
no_significant (suc m) = refl

-- n of the first number is enough, and more is the same
significant_agree : (m k n : ℕ) → n ≤ m → n ≤ k → significant m n ≡ significant k n
unfolding significant
significant_agree zero k zero hm hk = sym (no_significant k)
significant_agree zero k (suc n) hm hk = absurd (omega arith)
significant_agree (suc m) k zero hm hk = sym (no_significant k)
significant_agree (suc m) zero (suc n) hm hk = absurd (omega arith)
significant_agree (suc m) (suc k) (suc n) hm hk = ap suc (significant_agree m k (suc n / 10) (omega arith) (omega arith))

one_more : (n : ℕ) → 1 ≤ n → significant n n ≡ suc (significant (n / 10) (n / 10))
unfolding significant
one_more zero h = absurd (omega arith)
one_more (suc n) h = ap suc (significant_agree n (suc n / 10) (suc n / 10) (omega arith) (omega arith))

pub decimal_is_digits : (n : ℕ) → digits 10 (length (decimal n)) n ≡ decimal n
unfolding decimal
decimal_is_digits n = rw length_digits

places_small : (n : ℕ) → n < 10 → max 1 (significant n n) ≡ 1
unfolding significant
places_small zero h = refl
places_small (suc n) h = rw (one_more (suc n) (omega arith), div-eq_of_lt h)

places_large : (n : ℕ) → 10 ≤ n → max 1 (significant n n) ≡ suc (max 1 (significant (n / 10) (n / 10)))
places_large n h = omega (arith, one_more n (omega arith), one_more (n / 10) (omega arith))

pub decimal_small : (n : ℕ) → n < 10 → decimal n ≡ (48 + n) ∷ []
unfolding decimal digits
decimal_small n h = rw (places_small n h, mod-eq_of_lt h, decimal_digit n h)

pub decimal_large : (n : ℕ) → 10 ≤ n → decimal n ≡ decimal (n / 10) ++ ((48 + n % 10) ∷ [])
unfolding decimal digits
decimal_large n h = rw (places_large n h, decimal_digit (n % 10) (omega arith))

pub longer : (n : ℕ) → 10 ≤ n → length (decimal n) ≡ length (decimal (n / 10)) + 1
longer n h = ap length (decimal_large n h) ∙ length-append (decimal (n / 10)) ((48 + n % 10) ∷ [])

pub longer_by_four : (n : ℕ) → 10000 ≤ n → length (decimal n) ≡ length (decimal (n / 10000)) + 4
longer_by_four n h =
    let e : n / 10 / 10 / 10 / 10 ≡ n / 10000 = omega arith in
    rw (← e)
    (omega (
      arith,
      longer n (omega arith),
      longer (n / 10) (omega arith),
      longer (n / 10 / 10) (omega arith),
      longer (n / 10 / 10 / 10) (omega arith),
    ))

-- what holds of one digit, and of a number where of its tenth, holds of each number
module _ (P : ℕ → Type 0) (small : (n : ℕ) → n < 10 → P n) (large : (n : ℕ) → 10 ≤ n → P (n / 10) → P n) where
  by_size : (n : ℕ) → Dec (n < 10) → P (n / 10) → P n
  by_size n (yes s) p = small n s
  by_size n (no l) p = large n (omega arith) p

  below : (m n : ℕ) → n ≤ m → P n
  below zero n h = small n (omega arith)
  below (suc m) n h = by_size n (dec_lt n 10) (below m (n / 10) (omega arith))

  pub decimal_induction : (n : ℕ) → P n
  decimal_induction n = below n n (omega arith)
