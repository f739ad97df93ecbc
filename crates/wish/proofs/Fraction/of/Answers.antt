-- `wish::Fraction::of` meets its contract, by the laws of `Bits` on a float's bit pattern. Assumes nothing.
use mathlib.Core.Bool.{true}
use Prim.Native.Nat.{ℕ, ◌+◌, ◌%◌, ◌<◌}
use native.Mathlib.Nat.{le_trans}
use native.Mathlib.Omega.{arith}
use lib.Dec.{lit≤}
use lib.Ieee.{binary32, to_bits}
use Rattle.wish.proofs.Values.{holds, AtMost, no_nan, range}
use Rattle.wish.proofs.Bits.{low_value, high_value, exponent_at_most}
use Rattle.wish.proofs.Fraction.of.Goals.{Start}
use Rattle.wish.proofs.Fraction.of.Goals as goal

bounded : (c : Start) → AtMost 8192 c.args.y
bounded c = range true 1 13 13 (lit≤ tt) c.args.y c.requires

low_lt : (n : ℕ) → n % 8388608 < 16777216
low_lt n = omega arith

high_lt : (n : ℕ) → 8388608 + n % 8388608 < 16777216
high_lt n = omega arith

pub float_to_bits-bits : goal.float_to_bits-bits
float_to_bits-bits c = no_nan 8192 c.args.y (bounded (goal.at.float_to_bits-bits c).Start)

pub overflow_sub-result : goal.overflow_sub-result
overflow_sub-result c = le_trans (exponent_at_most c.args.y (holds c.well_formed.0.1) (bounded (goal.at.overflow_sub-result c).Start)) (lit≤ tt)

pub returns-then-exponent-eq0 : goal.returns-then-exponent-eq0
returns-then-exponent-eq0 c = (low_value c.args.y (holds c.well_formed.0.1) (bounded (goal.at.returns-then-exponent-eq0 c).Start) c.if-exponent-eq0.true, low_lt (to_bits binary32 c.args.y))

pub returns-else-exponent-eq0 : goal.returns-else-exponent-eq0
returns-else-exponent-eq0 c = (high_value c.args.y (holds c.well_formed.0.1) (bounded (goal.at.returns-else-exponent-eq0 c).Start) c.if-exponent-eq0.false, high_lt (to_bits binary32 c.args.y))
