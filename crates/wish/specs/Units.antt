-- Document 01, Wishes: "A wish is of one of four sorts". The type `Wish` is the source's.
use Rattle.std.specs.Prelude.{ℕ, Bool, true, false, ◌&&◌, cond, ℤ, pos, ◌-ℤ◌, Float, Option, Some, None}
use Rattle.std.specs.Float.{fin}
use Rattle.std.specs.Float.Ieee.{le}
use Rattle.std.specs.Int.Signed.{mag}
use Rattle.wish.specs.Rounding.{rounded_times}
use Rattle.wish.specs.declared.Wish.{Wish}
use Rattle.wish.specs.declared.Wish.TheVariants.{Units, Acceleration, TargetSpeed, Hold}

-- "ends included; not-a-number and infinities are outside, negative zero counts as zero": so IEEE 754's order has it
unfoldable pub lies_within : Float → Float → Float → Bool
unfolding le
lies_within low high x = le low x && le x high

-- "must lie from" low to high: the units z of the float x, or none outside
unfoldable pub units_within : Float → Float → Float → ℤ → Option ℤ
unfolding lies_within
units_within low high x z = cond (lies_within low high x) (Some z) None

-- "An acceleration must lie from −16 to 16", which are ±1 * 2 ^ 4; "the exact value of 16 times it"
unfoldable pub acceleration_units : Float → Option ℤ
unfolding units_within rounded_times
acceleration_units x = units_within (fin true 1 (pos 4)) (fin false 1 (pos 4)) x (rounded_times 16 x)

-- "a speed from 0 to 64", which is 1 * 2 ^ 6; "or of 128 times it less the present speed", and by document 02, T-04: "Rounding is of the exact product, then the present speed is subtracted."
unfoldable pub target_units : Float → ℕ → Option ℤ
unfolding units_within rounded_times
target_units x v = units_within (fin false 0 (pos 0)) (fin false 1 (pos 6)) x (rounded_times 128 x -ℤ pos v)

-- "whole units (16 bits, signed), an acceleration in m/s² as a 32-bit float, a target speed in m/s as a 32-bit float, or hold (0 units)"
unfoldable pub units_of : Wish → ℕ → Option ℤ
unfolding acceleration_units target_units
units_of (Units u) v = Some u
units_of (Acceleration x) v = acceleration_units x
units_of (TargetSpeed x) v = target_units x v
units_of Hold v = Some (pos 0)

-- how large units are: n for n and for −(n + 1)
abbrev pub size_in : Option ℤ → ℕ
size_in (Some z) = mag z
size_in None = 0
