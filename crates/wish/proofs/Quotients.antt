-- A whole number below 2 ^ 53 divided by a power of two is a double. Assumes nothing.
use mathlib.Core.Path.{◌≡◌, refl, sym, ap, ◌∙◌}
use Prim.Native.Nat.{ℕ, zero, suc, ◌+◌, ◌-◌, ◌*◌, ◌^◌, ◌≤◌, ◌<◌}
use native.Mathlib.Nat.{le_of_lt, sub-le, lt_of_lt_of_le, zero-lt-suc, one-mul, zero-mul, mul_comm, mul_assoc, mul-pos}
use native.Mathlib.Omega.{arith}
use mathlib.Core.Bool.{true, false, true≢false, cond}
use mathlib.Core.Logic.{by_cases}
use native.Mathlib.Decide.{ℕ_discrete}
use borrow.Author.Tests.{lt-ltb}
use lib.IntN.{pos}
use lib.Pow.{pow-add, pow_pos, pow_mono, shl_lt}
use lib.Ieee.{Float, nan, inf, fin, binary64, up, down, round, div, lt, of_int}
use lib.Ieee.Digits.{back}
use lib.Ieee.Fits.{down_pos}
use lib.Ieee.Exact.{HasValue, round_exact}
use lib.Ieee.Scale.{round_same}
use lib.Ieee.Back.{round_whole}
use Rattle.wish.specs.Reading.{double_of}

module _ (p j : ℕ) (few : p < 2 ^ 53) (deep : j ≤ 1074) where
  pub double_of_exact : HasValue (double_of p (2 ^ j)) false p (2 ^ j)
  unfolding double_of
  double_of_exact = round_exact binary64 false p (2 ^ j) p (1074 - j) (pow_pos j) few
      (lt_of_lt_of_le (shl_lt 53 (1074 - j) few) (pow_mono (within_range (1074 - j) (sub-le 1074 j))))
      (ap (λ (x : ℕ). p * 2 ^ x) (sym (back 1074 j deep)) ∙ ap (λ (x : ℕ). p * x) (pow-add 2 (1074 - j) j) ∙ sym (mul_assoc p (2 ^ (1074 - j)) (2 ^ j)))
    where
      within_range : (x : ℕ) → x ≤ 1074 → 53 + x ≤ 1074 + 1024
      within_range x h = omega arith

  div_is : (z : Float) → HasValue z false p 1 → div binary64 z (fin false 1 (pos j)) ≡ double_of p (2 ^ j)
  unfolding div double_of
  div_is nan v = absurd v
  div_is (inf t) v = absurd v
  div_is (fin true m e) v = absurd (true≢false v.0)
  div_is (fin false m e) v = round_same binary64 false (m * up e * 1) (1 * 2 ^ j * down e) p (2 ^ j) (mul-pos (mul-pos (zero-lt-suc 0) (pow_pos j)) (down_pos e)) (pow_pos j)
      (ap (λ (x : ℕ). x * 2 ^ j) v.1 ∙ mul_assoc p (down e) (2 ^ j) ∙ ap (λ (x : ℕ). p * x) (mul_comm (down e) (2 ^ j) ∙ ap (λ (x : ℕ). x * down e) (sym (one-mul (2 ^ j)))))

  quotient_is : div binary64 (of_int binary64 (pos p)) (fin false 1 (pos j)) ≡ double_of p (2 ^ j)
  unfolding of_int
  quotient_is = div_is (round binary64 false p 1) (round_whole binary64 false p (le_of_lt few))

  -- a number that is above 0 as a fraction is so as a double
  above : 0 < p → (x : Float) → HasValue x false p (2 ^ j) → lt (fin false 0 (pos 0)) x ≡ true
  unfolding lt
  above h nan v = absurd v
  above h (inf t) v = absurd v
  above h (fin true m e) v = absurd (true≢false v.0)
  above h (fin false m e) v = lt-ltb (0 * 2 ^ 0 * down e) (m * up e * 1) (some (m * up e) v.1)
    where
      some : (n : ℕ) → n * 2 ^ j ≡ p * down e → 0 * 2 ^ 0 * down e < n * 1
      some zero q = let g = mul-pos h (down_pos e) in omega (arith, zero-mul (2 ^ j))
      some (suc n) q = omega arith

  abbrev quotient : Float
  quotient = div binary64 (of_int binary64 (pos p)) (fin false 1 (pos j))

  -- so a quotient is what is above 0 of it, and 0 where nothing is
  pub quotient_kept : double_of 0 (2 ^ j) ≡ fin false 0 (pos 0) → cond (lt (fin false 0 (pos 0)) quotient) quotient (fin false 0 (pos 0)) ≡ double_of p (2 ^ j)
  unfolding lt
  quotient_kept none =
      rw quotient_is
      (by_cases (ℕ_discrete p 0)
      (λ (z : p ≡ 0). rw (z, none) refl)
      (λ (n : p ≡ 0 → ⊥). rw (above (omega arith) (double_of p (2 ^ j)) double_of_exact) refl))
