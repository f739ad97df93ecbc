-- Digits as they are read: one digit, a number of digits, and the digits of a number that is put.
use mathlib.Core.Path.{◌≡◌, refl, sym, ap, ◌∙◌}
use mathlib.Core.Bool.{Bool, true, false, not, ◌&&◌, and-true, and-false, and_assoc, and-eq-true_iff, cond, false≢true}
use mathlib.Core.List.{List, [], ◌∷◌, ◌++◌, append_assoc, append-nil}
use Prim.Native.Nat.{ℕ, zero, suc, ◌+◌, ◌-◌, ◌*◌, ◌/◌, ◌%◌, ◌^◌, ◌≤◌, ◌<◌}
use native.Mathlib.Nat.{le_trans, lt_of_lt_of_le, le-mul_of_pos_right, mul-le-mul_right, mul_assoc, mul-one, add-zero, pow-zero, pow-succ', mod-lt}
use native.Mathlib.Decide.{dec_lt, dec_le}
use native.Mathlib.Omega.{arith}
use lib.Dec.{leb, ltb, eqb}
use lib.ListN.{length, get_or}
use borrow.Author.Tests.{lt-ltb, le-ltb, le-leb, lt-leb, eq-eqb, ne_eqb, ltb-true, eqb-true, eqb-false, not-true}
use Rattle.text.specs.Numbers.{digit, digits, decimal}
use Rattle.text.specs.Fields.{line_length, digit_in, are_digits, number_spelt, is_decimal, number_in, bits_in}
use Rattle.std.specs.Prelude.{Option, Some, None}
use Rattle.text.proofs.Digits.{decimal_small, decimal_large}

-- ---- one digit

module _ (b : ℕ) where
  pub digit_ten : 48 ≤ b → b ≤ 57 → digit_in b ≡ b - 48
  unfolding digit_in
  digit_ten h g = rw (le-leb 48 b h, le-leb b 57 g)

  pub digit_letter : 65 ≤ b → b ≤ 70 → digit_in b ≡ b - 65 + 10
  unfolding digit_in
  digit_letter h g = rw (lt-leb b 57 (omega arith), and-false, le-leb 65 b h, le-leb b 70 g)

  pub digit_below : b < 48 → digit_in b ≡ 16
  unfolding digit_in
  digit_below h = rw (lt-leb 48 b h, lt-leb 65 b (omega arith))

  pub digit_between : 57 < b → b < 65 → digit_in b ≡ 16
  unfolding digit_in
  digit_between h g = rw (lt-leb b 57 h, and-false, lt-leb 65 b g)

  pub digit_above : 70 < b → digit_in b ≡ 16
  unfolding digit_in
  digit_above h = simp (lt-leb b 57 (omega arith), lt-leb b 70 h, and-false)

  -- what holds of decimal digits and of letters holds of each digit
  by_digit : {P : Type 0} → digit_in b < 16 → (48 ≤ b → b ≤ 57 → P) → (65 ≤ b → b ≤ 70 → P) → P
  by_digit {P} h f g = from (dec_lt b 48) (dec_le b 57) (dec_lt b 65) (dec_le b 70)
    where
      from : Dec (b < 48) → Dec (b ≤ 57) → Dec (b < 65) → Dec (b ≤ 70) → P
      from (yes s) t u v = absurd (omega (arith, digit_below s))
      from (no s) (yes t) u v = f (omega arith) t
      from (no s) (no t) (yes u) v = absurd (omega (arith, digit_between (omega arith) u))
      from (no s) (no t) (no u) (yes v) = g (omega arith) v
      from (no s) (no t) (no u) (no v) = absurd (omega (arith, digit_above (omega arith)))

  pub decimal_range : digit_in b < 10 → (48 ≤ b) × (b ≤ 57)
  decimal_range h = by_digit (omega arith) (λ l r. (l, r)) (λ l r. absurd (omega (arith, digit_letter l r)))

  put_digit : digit_in b < 16 → digit (digit_in b) ≡ b
  unfolding digit
  put_digit h =
      by_digit h (λ l r. rw (digit_ten l r, lt-ltb (b - 48) 10 (omega arith)) (omega arith))
      (λ l r. rw (digit_letter l r, le-ltb (b - 65 + 10) 10 (omega arith)) (omega arith))

read_digit : (d : ℕ) → d < 16 → digit_in (digit d) ≡ d
unfolding digit
read_digit d h = by_size (dec_lt d 10)
  where
    by_size : Dec (d < 10) → digit_in (cond (ltb d 10) (48 + d) (65 + (d - 10))) ≡ d
    by_size (yes s) = rw (lt-ltb d 10 s) (digit_ten (48 + d) (omega arith) (omega arith) ∙ omega arith)
    by_size (no l) = rw (le-ltb d 10 (omega arith)) (digit_letter (65 + (d - 10)) (omega arith) (omega arith) ∙ omega arith)

-- ---- several digits

-- what a test for no byte tells
pub none_there : (ds : List ℕ) {b : Bool} → b ≡ eqb (length ds) 0 → b ≡ true → length ds ≡ 0
none_there ds e t = eqb-true (length ds) 0 (sym e ∙ t)

pub some_there : (ds : List ℕ) {b : Bool} → b ≡ eqb (length ds) 0 → b ≡ false → 1 ≤ length ds
some_there ds e f = let n = eqb-false (length ds) 0 (sym e ∙ f) in omega arith

pub both : (x y : Bool) → x && y ≡ true → (x ≡ true) × (y ≡ true)
both x y e = (and-eq-true_iff x y).0 e

pub digits_cons : (b d : ℕ) (ds : List ℕ) → are_digits b (d ∷ ds) ≡ true → (digit_in d < b) × (are_digits b ds ≡ true)
unfolding are_digits
digits_cons b d ds e = let t = both (ltb (digit_in d) b) (are_digits b ds) e in (ltb-true (digit_in d) b t.0, t.1)

digits_last : (b d : ℕ) (ds : List ℕ) → are_digits b (ds ++ (d ∷ [])) ≡ are_digits b ds && ltb (digit_in d) b
unfolding are_digits
digits_last b d [] = and-true (ltb (digit_in d) b)
digits_last b d (e ∷ ds) = rw (digits_last b d ds, and_assoc)

pub number_last : (b a d : ℕ) (ds : List ℕ) → number_spelt b a (ds ++ (d ∷ [])) ≡ number_spelt b a ds * b + digit_in d
unfolding number_spelt
number_last b a d [] = refl
number_last b a d (e ∷ ds) = number_last b (a * b + digit_in e) d ds

-- more digits make no number less
at_least : (b a : ℕ) (ds : List ℕ) → 0 < b → a ≤ number_spelt b a ds
unfolding number_spelt
at_least b a [] h = omega arith
at_least b a (d ∷ ds) h =
    le_trans (le-mul_of_pos_right a h) (le_trans (omega arith) (at_least b (a * b + digit_in d) ds h))

-- k digits make a number below the k-th power of the base
below_power : (b a : ℕ) (ds : List ℕ) → are_digits b ds ≡ true → number_spelt b a ds < suc a * b ^ length ds
unfolding number_spelt
below_power b a [] e = rw (pow-zero, mul-one) (omega arith)
below_power b a (d ∷ ds) e =
    let t = digits_cons b d ds e in
    lt_of_lt_of_le (below_power b (a * b + digit_in d) ds t.1) (rw (pow-succ', ← mul_assoc) (mul-le-mul_right (b ^ length ds) (omega (arith, t.0))))

-- ---- a number of at most a bound

-- what `read_digits` ensures, with digits before these that stand for a
unfoldable pub within_in : (base most a : ℕ) → List ℕ → Option ℕ
within_in base most a ds = cond (are_digits base ds && leb (number_spelt base a ds) most) (Some (number_spelt base a ds)) None

module _ (b most a : ℕ) where
  pub within_end : a ≤ most → within_in b most a [] ≡ Some a
  unfolding within_in are_digits number_spelt
  within_end h = rw (le-leb a most h)

  pub within_over : (ds : List ℕ) → 0 < b → most < a → within_in b most a ds ≡ None
  unfolding within_in
  within_over ds p h = rw (lt-leb (number_spelt b a ds) most (omega (arith, at_least b a ds p)), and-false)

  pub within_next : (d : ℕ) (ds : List ℕ) → digit_in d < b → within_in b most a (d ∷ ds) ≡ within_in b most (a * b + digit_in d) ds
  unfolding within_in are_digits number_spelt
  within_next d ds h = rw (lt-ltb (digit_in d) b h)

  pub within_none : (d : ℕ) (ds : List ℕ) → b ≤ digit_in d → within_in b most a (d ∷ ds) ≡ None
  unfolding within_in are_digits
  within_none d ds h = rw (le-ltb (digit_in d) b h)

-- a number without a leading zero is read as such
pub decimal_is : (ds : List ℕ) → 1 ≤ length ds → (1 < length ds → get_or ds 0 0 ≡ 48 → ⊥) → is_decimal ds ≡ are_digits 10 ds
unfolding is_decimal
decimal_is [] h z = absurd (omega arith)
decimal_is (d ∷ []) h z = refl
decimal_is (d ∷ e ∷ ds) h z = rw (ne_eqb d 48 (z (omega arith)))

module _ (most : ℕ) where
  pub number_within : (ds : List ℕ) → 1 ≤ length ds → (1 < length ds → get_or ds 0 0 ≡ 48 → ⊥) → within_in 10 most 0 ds ≡ number_in most ds
  unfolding within_in number_in
  number_within ds h z = rw (decimal_is ds h z)

  pub number_empty : (ds : List ℕ) → length ds ≡ 0 → number_in most ds ≡ None
  unfolding number_in is_decimal
  number_empty [] h = refl
  number_empty (d ∷ ds) h = absurd (omega arith)

  pub number_leading : (ds : List ℕ) → 1 < length ds → get_or ds 0 0 ≡ 48 → number_in most ds ≡ None
  unfolding number_in is_decimal
  number_leading [] h z = absurd (omega arith)
  number_leading (d ∷ []) h z = absurd (omega arith)
  number_leading (d ∷ e ∷ ds) h z = rw (eq-eqb d 48 z)

-- eight hexadecimal digits make a number below 2 ^ 32
pub bits_below : (ds : List ℕ) → length ds ≡ 8 → are_digits 16 ds ≡ true → number_spelt 16 0 ds < 2 ^ 32
bits_below ds h e = rw h at (below_power 16 0 ds e)

pub bits_within : (ds : List ℕ) → length ds ≡ 8 → within_in 16 0xffff_ffff 0 ds ≡ bits_in ds
unfolding within_in bits_in
bits_within ds h = rw (eq-eqb (length ds) 8 h) (by_digits (are_digits 16 ds) refl)
  where
    by_digits : (t : Bool) → are_digits 16 ds ≡ t
        → cond (t && leb (number_spelt 16 0 ds) 0xffff_ffff) (Some (number_spelt 16 0 ds)) None ≡ cond t (Some (number_spelt 16 0 ds)) None
    by_digits true e = rw (le-leb (number_spelt 16 0 ds) 0xffff_ffff (omega (arith, bits_below ds h e)))
    by_digits false e = refl

-- ---- the digits of a number that is put, read again

module _ (b : ℕ) (h : 0 < b) (g : b ≤ 16) where
  pub put_are_digits : (k n : ℕ) → are_digits b (digits b k n) ≡ true
  unfolding digits are_digits
  put_are_digits zero n = refl
  put_are_digits (suc k) n =
      rw (digits_last, put_are_digits k (n / b), read_digit (n % b) (lt_of_lt_of_le (mod-lt n h) g)) (lt-ltb (n % b) b (mod-lt n h))

-- no digit is a newline
pub digits_no_newline : (b : ℕ) (ds : List ℕ) → b ≤ 16 → are_digits b ds ≡ true → line_length ds ≡ length ds
unfolding line_length
digits_no_newline b [] g e = refl
digits_no_newline b (d ∷ ds) g e =
    let t = digits_cons b d ds e in
    rw (ne_eqb d 10 (λ q. absurd (omega (arith, digit_below d (omega arith))))) (ap suc (digits_no_newline b ds g t.1))

-- ---- digits that are read, put again

decimal_again : (a : ℕ) (ds : List ℕ) → 1 ≤ a → are_digits 10 ds ≡ true → decimal (number_spelt 10 a ds) ≡ decimal a ++ ds
unfolding number_spelt
decimal_again a [] h e = sym (append-nil (decimal a))
decimal_again a (d ∷ ds) h e =
    let t = digits_cons 10 d ds e in
    let r = decimal_range d t.0 in
    let n : ℕ = a * 10 + digit_in d in
    let q : n / 10 ≡ a = omega arith in
    let m : 48 + n % 10 ≡ d = omega (arith, digit_ten d r.0 r.1) in
    decimal_again n ds (omega arith) t.1
    ∙ ap (λ (l : List ℕ). l ++ ds) (rw (q, m) at (decimal_large n (omega arith)))
    ∙ append_assoc (decimal a) (d ∷ []) ds

pub hexadecimal_again : (k a : ℕ) (ds : List ℕ) → are_digits 16 ds ≡ true → digits 16 (k + length ds) (number_spelt 16 a ds) ≡ digits 16 k a ++ ds
unfolding number_spelt digits
hexadecimal_again k a [] e = rw add-zero (sym (append-nil (digits 16 k a)))
hexadecimal_again k a (d ∷ ds) e =
    let t = digits_cons 16 d ds e in
    let n : ℕ = a * 16 + digit_in d in
    let q : n / 16 ≡ a = omega arith in
    let m : n % 16 ≡ digit_in d = omega arith in
    let s : k + suc (length ds) ≡ suc k + length ds = omega arith in
    ap (λ (j : ℕ). digits 16 j (number_spelt 16 n ds)) s
    ∙ hexadecimal_again (suc k) n ds t.1
    ∙ rw (q, m, put_digit d t.0) (append_assoc (digits 16 k a) (d ∷ []) ds)

first_digit : (d : ℕ) → digit_in d < 10 → decimal (0 + digit_in d) ≡ d ∷ []
first_digit d h =
    let r = decimal_range d h in
    let m : 48 + (0 + digit_in d) ≡ d = omega (arith, digit_ten d r.0 r.1) in
    rw m at (decimal_small (0 + digit_in d) (omega arith))

pub decimal_whole : (ds : List ℕ) → is_decimal ds ≡ true → ds ≡ decimal (number_spelt 10 0 ds)
unfolding is_decimal number_spelt
decimal_whole [] e = absurd (false≢true e)
decimal_whole (d ∷ []) e = sym (first_digit d (digits_cons 10 d [] e).0)
decimal_whole (d ∷ f ∷ ds) e =
    let t = both (not (eqb d 48)) (are_digits 10 (d ∷ f ∷ ds)) e in
    let u = digits_cons 10 d (f ∷ ds) t.1 in
    let r = decimal_range d u.0 in
    let z : d ≡ 48 → ⊥ = eqb-false d 48 (not-true (eqb d 48) t.0) in
    sym (decimal_again (0 + digit_in d) (f ∷ ds) (omega (arith, digit_ten d r.0 r.1)) u.1 ∙ ap (λ (l : List ℕ). l ++ (f ∷ ds)) (first_digit d u.0))
