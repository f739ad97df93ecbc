-- `wish::Fraction::rounded_size` meets its contract: shifted up the fraction is one of 2 ^ 25ths, and a shift past 25 as that one. Assumes nothing.
use mathlib.Core.Path.{◌≡◌, sym, ap, ◌∙◌}
use Prim.Native.Nat.{ℕ, ◌+◌, ◌-◌, ◌*◌, ◌/◌, ◌%◌, ◌^◌, ◌<◌, ◌≤◌, min}
use native.Mathlib.Nat.{lt_of_le_of_lt, mul_assoc, mul-le-mul, mod-eq_of_lt}
use native.Mathlib.Omega.{arith}
use lib.Dec.{lit<}
use lib.Pow.{pow-add, pow_pos, pow_mono}
use Rattle.wish.specs.Rounding.{rounded_size}
use Rattle.wish.proofs.Rounding.{rounded_cut, rounded_same, rounded_enough}
use Rattle.wish.proofs.Fraction.rounded_size.Goals as goal

module _ (n k by : ℕ) (h : n < 16777216) (b : by ≡ min k 25) where
  abbrev parts : ℕ
  parts = n * 2 ^ (25 - by)

  few : parts ≤ 16777216 * 2 ^ 25
  few = mul-le-mul {n₂ = 16777216} (omega arith) (pow_mono {j = 25} (omega arith))

  nothing_lost : parts % 2 ^ 64 ≡ parts
  nothing_lost = mod-eq_of_lt (lt_of_le_of_lt few (lit< tt))

  same_value : parts * 2 ^ by ≡ n * 2 ^ 25
  same_value = mul_assoc n (2 ^ (25 - by)) (2 ^ by) ∙ ap (λ (x : ℕ). n * x) (sym (pow-add 2 (25 - by) by) ∙ ap (λ (x : ℕ). 2 ^ x) (whole by (omega arith)))
    where
      whole : (x : ℕ) → x ≤ 25 → 25 - x + x ≡ 25
      whole x g = omega arith

  cut_is : (parts % 2 ^ 64 + 16777215 + parts % 2 ^ 64 / 2 ^ 25 % 2) / 2 ^ 25 ≡ rounded_size n (2 ^ k)
  cut_is =
      ap (λ (x : ℕ). (x + 16777215 + x / 2 ^ 25 % 2) / 2 ^ 25) nothing_lost
      ∙ rounded_cut parts 16777216 (lit< tt)
      ∙ rounded_same parts (2 ^ 25) n (2 ^ by) (pow_pos 25) (pow_pos by) same_value
      ∙ ap (λ (x : ℕ). rounded_size n (2 ^ x)) b
      ∙ rounded_enough n k h

pub returns : goal.returns
returns c = cut_is _ _ _ c.requires c.min.ensures
