-- Rounding to the nearest, by where the rest lies (`rounded_by`): that it sees only the value of its fraction (`rounded_same`) and stays within a whole bound on it (`rounded_le`). The laws of shifts are for `rounded_size`. Assumes nothing.
use mathlib.Core.Path.{◌≡◌, sym, ap, ◌∙◌, subst}
use mathlib.Core.Logic.{by_cases}
use Prim.Native.Nat.{ℕ, suc, ◌+◌, ◌-◌, ◌*◌, ◌/◌, ◌%◌, ◌^◌, ◌≤◌, ◌<◌, min, compare, Ordering}
use native.Mathlib.Nat.{lt_of_not-le, lt_of_lt_of_le, mul-le-mul_right, le_of_mul-le-mul_right, suc-mul, div-add-mod', mod-le, mod-lt, div-eq_of_lt, div-eq_of_lt-le}
use native.Mathlib.Numerals.{add-one}
use native.Mathlib.Decide.{dec_lt, ℕ_discrete}
use native.Mathlib.Omega.{arith}
use mathlib.Core.Bool.{not}
use lib.Dec.{T, is_le, compare_is_eq, eqb, leb→le, nleb→lt, eqb→eq, eqb_refl}
use lib.Ieee.Nearest.{closest_same}
use lib.Pow.{pow_mono}
use Rattle.wish.specs.Rounding.{nearest_to, rounded_size}

-- ---- what holds of the whole part where the rest is below half or the half of an even one, and of the next where it is above half or the half of an odd one, holds of the rounded number
module _ (P : ℕ → Type 0) (n d : ℕ)
    (stay : n % d * 2 ≤ d → (n % d * 2 ≡ d → n / d % 2 ≡ 0) → P (n / d))
    (next : d ≤ n % d * 2 → (n % d * 2 ≡ d → n / d % 2 ≡ 1) → P (suc (n / d))) where
  halfway : n % d * 2 ≡ d → P (n / d + n / d % 2)
  halfway e = by_cases (ℕ_discrete (n / d % 2) 0)
      (λ (z : n / d % 2 ≡ 0). subst P (kept (n / d) z) (stay (omega arith) (λ _. z)))
      (λ (o : n / d % 2 ≡ 0 → ⊥). subst P (moved (n / d) o) (next (omega arith) (λ _. omega arith)))
    where
      kept : (w : ℕ) → w % 2 ≡ 0 → w ≡ w + w % 2
      kept w z = omega arith

      moved : (w : ℕ) → (w % 2 ≡ 0 → ⊥) → suc w ≡ w + w % 2
      moved w o = omega arith

  pub rounded_by : P (rounded_size n d)
  unfolding rounded_size
  rounded_by =
      go (compare (n % d * 2) d) (leb→le (n % d * 2) d) (nleb→lt (n % d * 2) d) (eqb→eq (n % d * 2) d)
      (λ (e : n % d * 2 ≡ d). subst (λ (x : ℕ). T (eqb (n % d * 2) x)) e (eqb_refl (n % d * 2)))
    where
      go : (o : Ordering) → (T (is_le o) → n % d * 2 ≤ d) → (T (not (is_le o)) → d < n % d * 2) → (T (compare_is_eq o) → n % d * 2 ≡ d) → (n % d * 2 ≡ d → T (compare_is_eq o)) → P (nearest_to (n / d) o)
      go Ordering.lt le gt eq ne = stay (le tt) (λ (e : n % d * 2 ≡ d). absurd (ne e))
      go Ordering.eq le gt eq ne = halfway (eq tt)
      go Ordering.gt le gt eq ne = let h = gt tt in next (omega arith) (λ (e : n % d * 2 ≡ d). omega arith)

-- n / d is rounded to k at most, where it is k at most, and to 0 below a half
pub rounded_le : (n d : ℕ) → 0 < d → (k : ℕ) → n ≤ k * d → rounded_size n d ≤ k
rounded_le n d D k h =
    let e = div-add-mod' n d in
    rounded_by (λ (q : ℕ). q ≤ k) n d
    (λ (_ : n % d * 2 ≤ d) _. le_of_mul-le-mul_right (omega arith) D)
    (λ (g : d ≤ n % d * 2) _. lt_of_not-le (λ (l : k ≤ n / d). let f = mul-le-mul_right d l in omega arith))

pub rounded_none : (n d : ℕ) → n * 2 < d → rounded_size n d ≡ 0
rounded_none n d h =
    let m = mod-le n d in
    rounded_by (λ (q : ℕ). q ≡ 0) n d (λ _ _. div-eq_of_lt (omega arith)) (λ (g : d ≤ n % d * 2) _. omega arith)

-- less than half of the divisor added before the cut, and exactly half where the whole part is odd
pub rounded_cut : (n h : ℕ) → 0 < h → (n + (h - 1) + n / (h * 2) % 2) / (h * 2) ≡ rounded_size n (h * 2)
rounded_cut n h H =
    let d = h * 2 in
    let e = div-add-mod' n d in
    let l = mod-lt n {m = d} (omega arith) in
    let m = suc-mul (n / d) d in
    rounded_by (λ (q : ℕ). (n + (h - 1) + n / d % 2) / d ≡ q) n d
    (λ r even. div-eq_of_lt-le d (omega arith) (rw (add-one (n / d)) (by_cases (ℕ_discrete (n % d * 2) d) (λ t. let p = even t in omega arith) (λ t. omega arith))))
    (λ r odd. div-eq_of_lt-le d (by_cases (ℕ_discrete (n % d * 2) d) (λ t. let p = odd t in omega arith) (λ t. omega arith)) (rw (add-one (suc (n / d)), suc-mul (suc (n / d)) d) (omega arith)))

-- ---- equal fractions are rounded alike
pub rounded_same : (a c b d : ℕ) → 0 < c → 0 < d → a * d ≡ b * c → rounded_size a c ≡ rounded_size b d
unfolding rounded_size
rounded_same a c b d C D e = closest_same a c b d C D e

-- ---- no power past 2 ^ 25 counts for a number below 2 ^ 24
pub rounded_enough : (n k : ℕ) → n < 16777216 → rounded_size n (2 ^ min k 25) ≡ rounded_size n (2 ^ k)
rounded_enough n k h = go (dec_lt k 25)
  where
    small : (j : ℕ) → 25 ≤ j → rounded_size n (2 ^ j) ≡ 0
    small j g = rounded_none n (2 ^ j) (lt_of_lt_of_le (omega arith) (pow_mono {i = 25} g))

    go : Dec (k < 25) → rounded_size n (2 ^ min k 25) ≡ rounded_size n (2 ^ k)
    go (yes l) = let e : min k 25 ≡ k = omega arith in ap (λ (x : ℕ). rounded_size n (2 ^ x)) e
    go (no l) = small (min k 25) (omega arith) ∙ sym (small k (omega arith))
