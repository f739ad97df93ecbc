-- The least normal number asks for what each subnormal one of its sign does, in both sorts of wish. Assumes nothing.
use mathlib.Core.Path.{◌≡◌, refl, sym, ap, ap₂, ◌∙◌, subst}
use mathlib.Core.Bool.{Bool, true, false, not, ◌&&◌, ◌||◌, cond}
use Prim.Native.Nat.{ℕ, ◌*◌, ◌/◌, ◌%◌, ◌^◌, ◌≤◌, ◌<◌}
use native.Mathlib.Nat.{lt_of_lt_of_le, mul-pos}
use native.Mathlib.Omega.{arith}
use borrow.Author.Tests.{le-leb, ne_eqb}
use lib.Dec.{leb, eqb, lit≤, lit<}
use lib.IntN.{ℤ, pos, negsuc, ◌-ℤ◌}
use lib.Ieee.{Float, nan, inf, fin, binary32, of_bits, of_fields, up, down}
use lib.Ieee.Fits.{down_pos}
use lib.Ieee.Exact.{HasValue}
use Rattle.wish.specs.Rounding.{signed, rounded_times}
use Rattle.wish.specs.Units.{lies_within, units_within, acceleration_units, target_units, units_of}
use Rattle.std.proofs.Common.{Some, None}
use Rattle.wish.specs.declared.Wish.TheVariants.{Acceleration, TargetSpeed}
use Rattle.wish.proofs.Rounding.{rounded_none}
use Rattle.wish.proofs.Values.{at_most_of_value, in_range, within_size_from_0, rounded_value}
use Rattle.wish.proofs.Bits.{of_bits_is, low_field}

-- ±a / c, not 0 and below 1/512 in size
record Tiny (x : Float) (s : Bool) (a c : ℕ) : Type 0 where
  value : HasValue x s a c
  some : 0 < a
  few : a * 512 < c

-- a number of either sign: of those below 0 none lies from 0 to 64
not_from_0 : (x : Float) (s : Bool) (a c : ℕ) → Tiny x s a c → lies_within (fin false 0 (pos 0)) (fin false 1 (pos 6)) x ≡ not s
not_from_0 nan s a c t = absurd t.value
not_from_0 (inf u) s a c t = absurd t.value
not_from_0 (fin u m e) s a c t = ap (λ (w : Bool). lies_within (fin false 0 (pos 0)) (fin false 1 (pos 6)) (fin w m e)) t.value.0 ∙ within_size_from_0 6 s m e ∙ by_sign s
  where
    few : m * up e ≤ 2 ^ 6 * down e
    few = let f = t.few in at_most_of_value 64 (fin u m e) s a c (omega arith) t.value (omega arith)

    no_zero : m * up e ≡ 0 → ⊥
    no_zero z =
        let g = mul-pos t.some (down_pos e) in
        let v : 0 * c ≡ a * down e = rw z at t.value.1 in
        omega arith

    by_sign : (w : Bool) → (not w || eqb (m * up e) 0) && leb (m * up e) (2 ^ 6 * down e) ≡ not w
    by_sign false = le-leb _ _ few
    by_sign true = rw (ne_eqb (m * up e) 0 no_zero) refl

module _ {x : Float} {s : Bool} {a c : ℕ} (t : Tiny x s a c) where
  positive : 0 < c
  positive = let f = t.few in omega arith

  rounds : (k : ℕ) → a * k * 2 < c → rounded_times k x ≡ signed s 0
  rounds k few = rounded_value k x s a c positive t.value ∙ ap (signed s) (rounded_none (a * k) c few)

  tiny_acceleration : acceleration_units x ≡ Some (signed s 0)
  unfolding acceleration_units units_within
  tiny_acceleration =
      let f = t.few in
      let inside = in_range 4 x (at_most_of_value 16 x s a c positive t.value (omega arith)) in
      rw inside (ap Some (rounds 16 (omega arith)))

  tiny_target : (v : ℕ) → target_units x v ≡ cond (not s) (Some (signed s 0 -ℤ pos v)) None
  unfolding target_units units_within
  tiny_target v =
      let f = t.few in
      ap₂ (λ (u : Bool) (z : ℤ). cond u (Some (z -ℤ pos v)) None) (not_from_0 x s a c t) (rounds 128 (omega arith))

-- a pattern of a subnormal number: the exponent's field is 0, and not all of the rest
module _ (bits : ℕ) (some : 0 < bits % 0x8000_0000) (small : bits % 0x8000_0000 < 0x80_0000) where
  given : Tiny (of_bits binary32 bits) (leb 0x8000_0000 bits) (bits % 0x80_0000) (2 ^ 149)
  given =
      let field : bits % 0x8000_0000 / 0x80_0000 ≡ 0 = omega arith in
      record {
        value = subst (λ (y : Float). HasValue y (leb 0x8000_0000 bits) (bits % 0x80_0000) (2 ^ 149))
            (sym (of_bits_is bits ∙ ap (λ (x : ℕ). of_fields binary32 (leb 0x8000_0000 bits) x (bits % 0x80_0000)) field))
            (low_field (leb 0x8000_0000 bits) (bits % 0x80_0000));
        some = omega arith;
        few = let f : bits % 0x80_0000 * 512 < 2 ^ 32 = omega arith in lt_of_lt_of_le f (lit≤ tt);
      }

  -- ±2 ^ −126, the least number of the sign that is none
  stands : Tiny (fin (leb 0x8000_0000 bits) 1 (negsuc 125)) (leb 0x8000_0000 bits) (2 ^ 23) (2 ^ 149)
  stands = record { value = (refl, refl); some = lit< tt; few = lit< tt }

  pub least_acceleration : (v : ℕ) → units_of (Acceleration (fin (leb 0x8000_0000 bits) 1 (negsuc 125))) v ≡ units_of (Acceleration (of_bits binary32 bits)) v
  unfolding units_of
  least_acceleration v = tiny_acceleration stands ∙ sym (tiny_acceleration given)

  pub least_target : (v : ℕ) → units_of (TargetSpeed (fin (leb 0x8000_0000 bits) 1 (negsuc 125))) v ≡ units_of (TargetSpeed (of_bits binary32 bits)) v
  unfolding units_of
  least_target v = tiny_target stands v ∙ sym (tiny_target given v)
