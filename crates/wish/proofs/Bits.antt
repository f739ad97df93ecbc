-- A float's fraction, from its bit pattern. Assumes nothing.
use mathlib.Core.Path.{◌≡◌, refl, sym, ap, ◌∙◌, subst}
use Prim.Native.Nat.{ℕ, zero, suc, ◌+◌, ◌-◌, ◌*◌, ◌/◌, ◌%◌, ◌^◌, ◌≤◌}
use native.Mathlib.Nat.{le_trans, le_of_eq, le-add_right, mul-one, mul_comm, mul_assoc, mul-le-mul_right}
use native.Mathlib.Omega.{arith}
use mathlib.Core.Bool.{Bool, true, false, cond}
use lib.Dec.{T, leb, eqb, lit≤}
use lib.Pow.{pow-add, pow_pos}
use lib.Ieee.{Float, nan, inf, binary32, odd, fits, of_fields, of_bits, to_bits}
use lib.Ieee.Bits.{of_bits-to_bits}
use lib.Ieee.Exact.{HasValue, odd_sign}
use Rattle.wish.proofs.Values.{pow_le_back, AtMost, rescale, value_at_most}

pub of_bits_is : (b : ℕ) → of_bits binary32 b ≡ of_fields binary32 (leb 2147483648 b) (b % 2147483648 / 8388608) (b % 8388608)
unfolding of_bits
of_bits_is b = refl

pub low_field : (s : Bool) (t : ℕ) → HasValue (of_fields binary32 s 0 t) s t (2 ^ 149)
unfolding of_fields
low_field s t = subst (λ (x : ℕ). HasValue (odd 24 s t 0 149) s x (2 ^ 149)) (mul-one t) (odd_sign 24 s t 0 149)

-- the field of an infinity or a NaN has no number for its value
high_field : (s : Bool) (x t n : ℕ) → AtMost n (of_fields binary32 s (suc x) t) → HasValue (of_fields binary32 s (suc x) t) s ((8388608 + t) * 2 ^ x) (2 ^ 149)
unfolding of_fields
high_field s x t n h = go (eqb (suc x) 255) (eqb t 0) h
  where
    go : (a b : Bool) → AtMost n (cond a (cond b (inf s) nan) (odd 24 s (8388608 + t) x 149)) → HasValue (cond a (cond b (inf s) nan) (odd 24 s (8388608 + t) x 149)) s ((8388608 + t) * 2 ^ x) (2 ^ 149)
    go true true g = absurd g
    go true false g = absurd g
    go false b g = odd_sign 24 s (8388608 + t) x 149

field_le : (x t : ℕ) → (8388608 + t) * 2 ^ x ≤ 8192 * 2 ^ 149 → x ≤ 139
field_le x t h = few x (pow_le_back (23 + x) 162 (le_trans (le_of_eq (pow-add 2 23 x)) (le_trans (mul-le-mul_right (2 ^ x) (le-add_right 8388608 t)) h)))
  where
    few : (y : ℕ) → 23 + y ≤ 162 → y ≤ 139
    few y g = omega arith

module _ (y : Float) (good : T (fits binary32 y)) (bound : AtMost 8192 y) where
  abbrev b : ℕ
  b = to_bits binary32 y

  abbrev negative : Bool
  negative = leb 2147483648 b

  abbrev exponent : ℕ
  exponent = b % 2147483648 / 8388608

  abbrev significand : ℕ
  significand = b % 8388608

  read : of_fields binary32 negative exponent significand ≡ y
  read = sym (of_bits_is b) ∙ of_bits-to_bits binary32 y good

  at_field : (x : ℕ) → exponent ≡ x → of_fields binary32 negative x significand ≡ y
  at_field x e = ap (λ (z : ℕ). of_fields binary32 negative z significand) (sym e) ∙ read

  pub low_value : exponent ≡ 0 → HasValue y negative significand (2 ^ 149)
  low_value e = subst (λ (z : Float). HasValue z negative significand (2 ^ 149)) (at_field 0 e) (low_field negative significand)

  at_suc : (x : ℕ) → exponent ≡ suc x → HasValue y negative ((8388608 + significand) * 2 ^ x) (2 ^ 149)
  at_suc x e = subst (λ (z : Float). HasValue z negative ((8388608 + significand) * 2 ^ x) (2 ^ 149)) (at_field (suc x) e)
      (high_field negative x significand 8192 (subst (AtMost 8192) (sym (at_field (suc x) e)) bound))

  suc_le : (x : ℕ) → exponent ≡ suc x → x ≤ 139
  suc_le x e = field_le x significand (value_at_most 8192 y negative ((8388608 + significand) * 2 ^ x) (2 ^ 149) (at_suc x e) bound)

  pub exponent_at_most : exponent ≤ 140
  exponent_at_most = go exponent refl
    where
      one_up : (x : ℕ) → x ≤ 139 → suc x ≤ 140
      one_up x h = omega arith

      go : (x : ℕ) → exponent ≡ x → x ≤ 140
      go zero e = lit≤ tt
      go (suc x) e = one_up x (suc_le x e)

  pub high_value : (exponent ≡ 0 → ⊥) → HasValue y negative (8388608 + significand) (2 ^ (150 - exponent))
  high_value n = go exponent refl
    where
      left : (x : ℕ) → x ≤ 139 → 150 - suc x + x ≡ 149
      left x h = omega arith

      go : (x : ℕ) → exponent ≡ x → HasValue y negative (8388608 + significand) (2 ^ (150 - x))
      go zero e = absurd (n e)
      go (suc x) e =
          let d = 8388608 + significand in
          let k = 150 - suc x in
          rescale y negative (d * 2 ^ x) (2 ^ 149) d (2 ^ k) (pow_pos 149)
          (ap (λ (z : ℕ). d * 2 ^ z) (sym (left x (suc_le x e))) ∙ ap (λ (z : ℕ). d * z) (pow-add 2 k x ∙ mul_comm (2 ^ k) (2 ^ x)) ∙ sym (mul_assoc d (2 ^ x) (2 ^ k)))
          (at_suc x e)
