-- `wish::float_of` meets its contract: its tests are those of a NaN's bits, all of which are the one NaN, and of a subnormal number's. Assumes nothing.
use borrow.Author.Tests.{lt-ltb, le-ltb}
use mathlib.Core.Path.{◌≡◌, refl, sym, ap, ◌∙◌}
use mathlib.Core.Bool.{true, false≢true}
use Prim.Native.Nat.{ℕ, ◌%◌}
use native.Mathlib.Omega.{arith}
use lib.Dec.{ltb, ltb→lt}
use lib.Ieee.Fits.{and_l, and_r}
use lib.Ieee.{Float, nan, inf, fin, binary32, div, is_nan, of_bits}
use lib.Ieee.Bits.{nan_bits_is, nan_bits_above}
use Rattle.wish.specs.Units.{units_of}
use Rattle.wish.specs.declared.Wish.TheVariants.{Acceleration, TargetSpeed}
use Rattle.wish.proofs.Values.{holds}
use Rattle.wish.proofs.Patterns.{least_acceleration, least_target}
use Rattle.wish.proofs.float_of.Goals as goal

only_nan : (x : Float) → is_nan x ≡ true → x ≡ nan
unfolding is_nan
only_nan nan e = refl
only_nan (inf s) e = absurd (false≢true e)
only_nan (fin s m k) e = absurd (false≢true e)

-- where it is the float itself
same : (x y : Float) → x ≡ y → ((v : ℕ) → units_of (Acceleration x) v ≡ units_of (Acceleration y) v) × ((v : ℕ) → units_of (TargetSpeed x) v ≡ units_of (TargetSpeed y) v)
same x y e = (λ v. ap (λ (z : Float). units_of (Acceleration z) v) e, λ v. ap (λ (z : Float). units_of (TargetSpeed z) v) e)

pub returns-then-size-gt2139095040 : goal.returns-then-size-gt2139095040
unfolding div of_bits
returns-then-size-gt2139095040 c =
    let bits = c.args.bits in
    record { acceleration = (same _ _ (sym (only_nan (of_bits binary32 bits) (sym (nan_bits_is binary32 bits) ∙ nan_bits_above binary32 bits ∙ lt-ltb 0x7f80_0000 (bits % 0x8000_0000) (omega arith))))).0; target = (same _ _ (sym (only_nan (of_bits binary32 bits) (sym (nan_bits_is binary32 bits) ∙ nan_bits_above binary32 bits ∙ lt-ltb 0x7f80_0000 (bits % 0x8000_0000) (omega arith))))).1 }

pub returns-then-size : goal.returns-then-size
returns-then-size c =
    let bits = c.args.bits in
    let low = ltb 0 (bits % 0x8000_0000) in
    let high = ltb (bits % 0x8000_0000) 0x80_0000 in
    let some = ltb→lt 0 (bits % 0x8000_0000) (and_l low high (holds c.if-size.true)) in
    let small = ltb→lt (bits % 0x8000_0000) 0x80_0000 (and_r low high (holds c.if-size.true)) in
    record { acceleration = rw c.least_normal.ensures (least_acceleration bits some small); target = rw c.least_normal.ensures (least_target bits some small) }

pub float_from_bits-result : goal.float_from_bits-result
float_from_bits-result c = rw (nan_bits_above, le-ltb 0x7f80_0000 (c.args.bits % 0x8000_0000) (omega arith)) tt
