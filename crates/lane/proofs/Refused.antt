-- No refusal has the number 0: an outcome of number 0 is no refusal.
use mathlib.Core.Path.{◌≡◌, refl, ap}
use mathlib.Core.Bool.{true, false, true≢false, false≢true}
use Prim.Native.Nat.{◌≤◌}
use native.Mathlib.Omega.{arith}
use Rattle.std.specs.Prelude.{Result, Ok, Err}
use Rattle.std.specs.Result.{is_err, IsErrAnd}
use Rattle.lane.specs.declared.refusal.Refusal.{Refusal}
use Rattle.lane.specs.declared.refusal.Refusal.TheVariants.{SurfaceUnknown, EndOutOfRange, LimitOutOfRange, NumberOutOfRange, PositionPastEnd, SpeedAboveLimit, FloatOutOfRange, TextBufferTooShort, WishUnknown, WishesTooFew, LaneUnsound, LaneFull, NumberPresent, NumberAbsent, UnsafeBehindLeader, FollowerUnsafe, CountDiffers, CyclesExhausted, TableUnsound, LaneOccupied, LengthTooLarge, SurfaceUnsafe, RateOutOfRange, HandoverMalformed, HandoverUnsafe}
use Rattle.lane.specs.Refusals.{number_of, outcome_no}

pub positive : (r : Refusal) → 1 ≤ number_of r
positive SurfaceUnknown = omega arith
positive EndOutOfRange = omega arith
positive LimitOutOfRange = omega arith
positive NumberOutOfRange = omega arith
positive PositionPastEnd = omega arith
positive SpeedAboveLimit = omega arith
positive FloatOutOfRange = omega arith
positive TextBufferTooShort = omega arith
positive WishUnknown = omega arith
positive WishesTooFew = omega arith
positive LaneUnsound = omega arith
positive LaneFull = omega arith
positive NumberPresent = omega arith
positive NumberAbsent = omega arith
positive UnsafeBehindLeader = omega arith
positive FollowerUnsafe = omega arith
positive CountDiffers = omega arith
positive CyclesExhausted = omega arith
positive TableUnsound = omega arith
positive LaneOccupied = omega arith
positive LengthTooLarge = omega arith
positive SurfaceUnsafe = omega arith
positive RateOutOfRange = omega arith
positive HandoverMalformed = omega arith
positive HandoverUnsafe = omega arith

pub number_is : (r : Refusal) → ¬ (number_of r ≡ 0)
number_is r e = omega (arith, positive r)

pub refused_number : {A : Type 0} (r : Result A Refusal) → is_err r ≡ true → ¬ (outcome_no r ≡ 0)
refused_number (Ok value) e = absurd (false≢true e)
refused_number (Err refusal) e = number_is refusal

pub accepted_zero : {A : Type 0} (r : Result A Refusal) → is_err r ≡ false → outcome_no r ≡ 0
accepted_zero (Ok value) e = refl
accepted_zero (Err refusal) e = absurd (true≢false e)

-- `?` passes a refusal up as it is
pub passed_up : {A : Type 0} {refusal : Refusal} (r : Result A Refusal) → IsErrAnd r (λ e. e ≡ refusal) → r ≡ Err refusal
passed_up (Ok value) h = absurd h
passed_up (Err e) h = ap Err h
