-- The number that a call answers is 0 or that of a refusal.
use mathlib.Core.Path.{◌≡◌, refl}
use mathlib.Core.Bool.{Bool, true, false, cond}
use Prim.Native.Nat.{ℕ}
use lib.Dec.{eqb}
use Rattle.std.specs.Prelude.{Result, Ok, Err}
use Rattle.lane.specs.declared.Carrier.{Carrier}
use Rattle.lane.specs.declared.Gap.{Gap}
use Rattle.lane.specs.declared.Gap.TheVariants.{Behind, AheadOfAll}
use Rattle.lane.specs.declared.Road.{Road}
use Rattle.lane.specs.declared.refusal.Refusal.{Refusal}
use Rattle.lane.specs.declared.refusal.Refusal.TheVariants.{SurfaceUnknown, EndOutOfRange, LimitOutOfRange, NumberOutOfRange, PositionPastEnd, SpeedAboveLimit, FloatOutOfRange, TextBufferTooShort, LaneUnsound, LaneFull, NumberPresent, NumberAbsent, UnsafeBehindLeader, FollowerUnsafe, CountDiffers, CyclesExhausted, TableUnsound, LaneOccupied, LengthTooLarge, SurfaceUnsafe, RateOutOfRange}
use Rattle.lane.specs.Refusals.{number_of, outcome_no}
use Rattle.lane.specs.State.{State}
use Rattle.lane.specs.Rules.{road_no, values_no, newcomer_no}
use Rattle.lane.specs.Table.{load_no}
use Rattle.lane.specs.Calls.{if_accepted, start_no, gap_no, place_no, enter_no, named_no, ready_no, cycle_no, surface_no}
use Rattle.lane.specs.Opening.{newcomer_at, gap_named_no, opening_no}
use Rattle.lane.specs.Listing.{text_no}
use Rattle.lane.specs.Handover.{handover_no}
use Rattle.lane.specs.Call.{Call, start_call, load_call, enter_call, leave_call, surface_call, cycle_call, read_call, opening_call, text_call, handover_call, call_no}

abbrev pub Coded : ℕ → Type 0
Coded n = (r : Result (Unit {0}) Refusal) × (outcome_no r ≡ n)

passes : Coded 0
passes = (Ok tt, refl)

by : (refusal : Refusal) → Coded (number_of refusal)
by refusal = (Err refusal, refl)

either : (t : Bool) {n m : ℕ} → Coded n → Coded m → Coded (cond t n m)
either true a b = a
either false a b = b

-- checks after others
both : {n m : ℕ} → Coded n → Coded m → Coded (if_accepted n m n)
both {n} a b = either (eqb n 0) b a

road_coded : (road : Road) → Coded (road_no road)
unfolding road_no
road_coded road = either _ (by SurfaceUnknown) (either _ (by EndOutOfRange) (either _ (by LimitOutOfRange) passes))

values_coded : (road : Road) (c : Carrier) → Coded (values_no road c)
values_coded road c = either _ (by SpeedAboveLimit) (either _ (by LengthTooLarge) (either _ (by RateOutOfRange) passes))

newcomer_coded : (road : Road) (c : Carrier) → Coded (newcomer_no road c)
unfolding newcomer_no
newcomer_coded road c = either _ (by NumberOutOfRange) (either _ (by PositionPastEnd) (values_coded road c))

place_coded : (s : State) (c : Carrier) → Coded (place_no s c)
unfolding place_no gap_no
place_coded s c =
    either _ (by LaneFull) (either _ (by NumberPresent) (either _ (by UnsafeBehindLeader) (either _ (by FollowerUnsafe) passes)))

named_coded : (s : State) (number : ℕ) → Coded (named_no s number)
unfolding named_no
named_coded s number = either _ (by LaneUnsound) (either _ (by NumberOutOfRange) (either _ passes (by NumberAbsent)))

ready_coded : (s : State) (count : ℕ) → Coded (ready_no s count)
unfolding ready_no
ready_coded s count = either _ (by LaneUnsound) (either _ (by CountDiffers) (either _ (by CyclesExhausted) passes))

gap_coded : (s : State) (g : Gap) → Coded (gap_named_no s g)
unfolding gap_named_no
gap_coded s (Behind number) = named_coded s number
gap_coded s AheadOfAll = either _ (by LaneUnsound) passes

pub coded : (x : Call) (s : State) → Coded (call_no x s)
unfolding start_no load_no enter_no surface_no cycle_no opening_no text_no handover_no
coded (start_call road first) s = either _ (by LaneUnsound) (road_coded road)
coded (load_call text) s = either _ (by LaneUnsound) (either _ (by TableUnsound) (either _ (by LaneOccupied) passes))
coded (enter_call c) s = either _ (by LaneUnsound) (both (newcomer_coded s.road c) (place_coded s c))
coded (leave_call number) s = named_coded s number
coded (surface_call code) s = either _ (by LaneUnsound) (either _ (by SurfaceUnknown) (either _ passes (by SurfaceUnsafe)))
coded (cycle_call count ws) s = both (ready_coded s count) (either _ (by FloatOutOfRange) passes)
coded (read_call number) s = named_coded s number
coded (opening_call g n) s = both (gap_coded s g) (values_coded s.road (newcomer_at n 0))
coded (text_call buffer) s = either _ (by LaneUnsound) (either _ (by TextBufferTooShort) passes)
coded (handover_call buffer) s = either _ (by LaneUnsound) (either _ (by TextBufferTooShort) passes)
