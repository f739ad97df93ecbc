-- Document 01, "Edges (M: proved)": all its marked cases in one table, accelerations as document 02, T-04, has them, which `proofs/Cases.antt` computes as a whole.
use Rattle.std.specs.Prelude.{Bool, true, false, List, [], ◌∷◌, map, ℕ, pos}
use Rattle.std.specs.Float.{binary32}
use Rattle.std.specs.Float.Ieee.{of_bits}
use Rattle.headway.specs.Stopping.{stopping_distance, safe_behind}
use Rattle.wish.specs.Units.{units_of}
use Rattle.wish.specs.Cases as Accelerations
use Rattle.wish.specs.Cases.{acceleration_cases}
use Rattle.std.specs.Prelude.{Option, ℤ}
use Rattle.wish.specs.declared.Wish.TheVariants.{Units, Acceleration, Hold}
use Rattle.lane.specs.declared.Carrier.{Carrier}
use Rattle.lane.specs.State.{State}
use Rattle.lane.specs.Layout.{state_of, empty_words}
use Rattle.lane.specs.Call.{Call, start_call, enter_call, cycle_call, call_answer, call_state}

-- what a case gives
pub data Value : Type 0 where
  distance : ℕ → Value
  safe : Bool → Value
  -- a cycle's word, and the carriers after it
  cycled : ℕ → List Carrier → Value
  units : Option ℤ → Value

pub data Case : Type 0 where
  -- S(c, v)
  stop : (c v : ℕ) → Case
  -- rates b and B, both speeds v, and the gap
  gap : (b B v apart : ℕ) → Case
  -- the example's cycle, with carrier 7 standing at a position
  example : (position : ℕ) → Case
  -- an acceleration's bits
  acceleration : (bits : ℕ) → Case

pub record Entry : Type 0 where
  pub shown : Case
  pub gives : Value

abbrev pub entry : Case → Value → Entry
entry c v = record { shown = c; gives = v }

-- document 02, T-03: "01's example gets the lines that this and later requests add, with values that keep its figures": no length,
-- and an own rate of at least b
abbrev pub carrier : (number position speed : ℕ) → Carrier
carrier number position speed = record { number = number; position = position; speed = speed; length = 0; rate = 255 }

-- "start 0, 10000, 1000, 0; enter 7 at .. speed 0; enter 8 at 700 speed 64", from the empty lane
abbrev pub example_lane : ℕ → State
example_lane position =
    call_state (enter_call (carrier 8 700 64))
    (call_state (enter_call (carrier 7 position 0))
    (call_state (start_call (record { surface = 0; end = 10000; limit = 1000 }) 0) (state_of empty_words)))

-- "cycle of 2 with `hold` and `units:32`"
abbrev pub example_cycle : Call
example_cycle = cycle_call 2 (Hold ∷ Units (pos 32) ∷ [])

unfoldable pub value : Case → Value
value (stop c v) = distance (stopping_distance c v)
value (gap b B v apart) = safe (safe_behind b B 0 v apart v)
value (example position) =
    cycled (call_answer example_cycle (example_lane position)).word (call_state example_cycle (example_lane position)).carriers
value (acceleration bits) = units (units_of (Acceleration (of_bits binary32 bits)) 0)

abbrev pub first : Entry
first = entry (stop 3 7) (distance 17)

abbrev pub acceleration_entry : Accelerations.Case → Entry
acceleration_entry c = entry (acceleration c.bits) (units c.gives)

unfoldable pub table : List Entry
table =
    first
    ∷ entry (stop 5 7) (distance 11)
    ∷ entry (stop 255 100) (distance 100)
    ∷ entry (stop 1 8192) (distance 67108864)
    ∷ entry (stop 64 96) (distance 160)
    ∷ entry (stop 6 0) (distance 0)
    ∷ entry (gap 3 5 7 6) (safe false)
    ∷ entry (gap 3 5 7 7) (safe true)
    ∷ entry (example 1020) (cycled 2 (carrier 7 1020 0 ∷ carrier 8 764 0 ∷ []))
    ∷ entry (example 1021) (cycled 0 (carrier 7 1021 0 ∷ carrier 8 860 96 ∷ []))
    ∷ map acceleration_entry acceleration_cases
