-- The refusals and their numbers in the documents, and the number that an outcome has.
use Rattle.std.specs.Prelude.{ℕ, Result, Ok, Err}
use Rattle.lane.specs.declared.refusal.Refusal.{Refusal}
use Rattle.lane.specs.declared.refusal.Refusal.TheVariants.{SurfaceUnknown, EndOutOfRange, LimitOutOfRange, NumberOutOfRange, PositionPastEnd, SpeedAboveLimit, FloatOutOfRange, TextBufferTooShort, WishUnknown, WishesTooFew, LaneUnsound, LaneFull, NumberPresent, NumberAbsent, UnsafeBehindLeader, FollowerUnsafe, CountDiffers, CyclesExhausted, TableUnsound, LaneOccupied, LengthTooLarge, SurfaceUnsafe, RateOutOfRange, HandoverMalformed, HandoverUnsafe}

-- document 01, "Calls, with their checks in order": "From the input: 1 surface above 7; 2 lane end outside its range; 3 limit outside its range; 4
-- carrier number 0; 5 position at or past the end; 6 speed above the limit; 7 a float outside its range; .. 9 lane text longer than the buffer"; "From
-- the state: 21 never started, or the lane handed in breaks a rule of this paper ..; 22 64 carriers present; 23 number present; 24 number absent; 25 not
-- safe behind the carrier ahead; 26 the carrier behind not safe; 27 count differs from the carriers present; 28 cycle number is 2⁶⁴ − 1"; document 02,
-- "Turned away": 31 and 32 of T-01, 33 of T-03, 34 of T-05, 35 of T-06, 36 and 37 of T-08; decided: 11 a wish that cannot be made, 12 too few of them
abbrev pub number_of : Refusal → ℕ
number_of SurfaceUnknown = 1
number_of EndOutOfRange = 2
number_of LimitOutOfRange = 3
number_of NumberOutOfRange = 4
number_of PositionPastEnd = 5
number_of SpeedAboveLimit = 6
number_of FloatOutOfRange = 7
number_of TextBufferTooShort = 9
number_of WishUnknown = 11
number_of WishesTooFew = 12
number_of LaneUnsound = 21
number_of LaneFull = 22
number_of NumberPresent = 23
number_of NumberAbsent = 24
number_of UnsafeBehindLeader = 25
number_of FollowerUnsafe = 26
number_of CountDiffers = 27
number_of CyclesExhausted = 28
number_of TableUnsound = 31
number_of LaneOccupied = 32
number_of LengthTooLarge = 33
number_of SurfaceUnsafe = 34
number_of RateOutOfRange = 35
number_of HandoverMalformed = 36
number_of HandoverUnsafe = 37

-- the number of an outcome: 0 where the call is accepted
abbrev pub outcome_no : {A : Type 0} → Result A Refusal → ℕ
outcome_no (Ok value) = 0
outcome_no (Err refusal) = number_of refusal
