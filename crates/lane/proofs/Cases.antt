-- The table of the marked cases, computed as a whole from the definitions of every layer: this file alone opens those of other crates. Each
-- row follows by name, so that none can be left out of the table.
use mathlib.Core.Path.{◌≡◌, refl, sym, ap, ◌∙◌}
use mathlib.Core.Bool.{true, false}
use mathlib.Core.List.{List, [], ◌∷◌, map}
use Prim.Native.Nat.{ℕ}
use lib.Ieee.{of_bits}
use lib.ListN.{drop, get_or, get_or-map}
use Rattle.headway.specs.Motion.{speed_after, position_after}
use Rattle.headway.specs.Stopping.{braking, gained, stopping_distance, safe_behind}
use Rattle.headway.specs.Wishes.{rests_behind}
use Rattle.wish.specs.Units.{units_of}
use Rattle.wish.specs.Trimming.{trimmed_to}
use Rattle.wish.specs.Cases.{acceleration_cases}
use Rattle.lane.specs.Surface.{house_rows, row_of, sound_row, unsound_below, unsound}
use Rattle.lane.specs.Layout.{table_from}
use Rattle.lane.specs.Safety.{safe_with, safe_from, lane_safe, any_of, first_place, repeats}
use Rattle.lane.specs.Rules.{road_no, unlawful, past_end, faulty, broken, newcomer_no}
use Rattle.lane.specs.Wishes.{wished_units, any_outside, trimmed, stands, drive, drives, moved, all_moved, word_of, remaining}
use Rattle.lane.specs.Calls.{start_no, walk, gap_no, place_no, enter_no, entered_state, cycle_drives, ready_no, cycle_no, cycle_word, cycle_carriers, cycled_state}
use Rattle.lane.specs.Call.{call_answer, call_state}
use Rattle.lane.specs.Cases.{Value, distance, Entry, carrier, example_lane, example_cycle, value, first, acceleration_entry, table}

-- the whole table, by one computation
computed : map (λ (e : Entry). value e.shown) table ≡ map (λ (e : Entry). e.gives) table
unfolding value table acceleration_cases stopping_distance gained braking speed_after position_after safe_behind rests_behind units_of of_bits trimmed_to house_rows row_of sound_row unsound_below unsound table_from safe_with safe_from lane_safe any_of first_place repeats road_no unlawful past_end faulty broken newcomer_no wished_units any_outside trimmed stands drive drives moved all_moved word_of remaining start_no walk gap_no place_no enter_no entered_state cycle_drives ready_no cycle_no cycle_word cycle_carriers cycled_state call_answer call_state
computed = refl

-- and so each of its entries
pub marked_cases : (i : ℕ) → value (get_or table i first).shown ≡ (get_or table i first).gives
unfolding value stopping_distance gained braking speed_after position_after
marked_cases i =
    sym (get_or-map (λ (e : Entry). value e.shown) table i first)
    ∙ ap (λ (vs : List Value). get_or vs i (distance 17)) computed
    ∙ get_or-map (λ (e : Entry). e.gives) table i first

-- ---- row by row

pub stop_3_7 : stopping_distance 3 7 ≡ 17
unfolding value table
stop_3_7 = cc (marked_cases 0)

pub stop_5_7 : stopping_distance 5 7 ≡ 11
unfolding value table
stop_5_7 = cc (marked_cases 1)

pub stop_255_100 : stopping_distance 255 100 ≡ 100
unfolding value table
stop_255_100 = cc (marked_cases 2)

pub stop_1_8192 : stopping_distance 1 8192 ≡ 67108864
unfolding value table
stop_1_8192 = cc (marked_cases 3)

pub stop_64_96 : stopping_distance 64 96 ≡ 160
unfolding value table
stop_64_96 = cc (marked_cases 4)

pub stop_6_0 : stopping_distance 6 0 ≡ 0
unfolding value table
stop_6_0 = cc (marked_cases 5)

-- b 3, B 5, both speeds 7
pub gap_6_unsafe : safe_behind 3 5 0 7 6 7 ≡ false
unfolding value table
gap_6_unsafe = cc (marked_cases 6)

pub gap_7_safe : safe_behind 3 5 0 7 7 7 ≡ true
unfolding value table
gap_7_safe = cc (marked_cases 7)

-- the example's cycle, with carrier 7 standing at 1020: carrier 8's wish is replaced, and it comes to rest
pub at_1020 : ((call_answer example_cycle (example_lane 1020)).word ≡ 2) × ((call_state example_cycle (example_lane 1020)).carriers ≡ carrier 7 1020 0 ∷ carrier 8 764 0 ∷ [])
unfolding value table
at_1020 = (cc (marked_cases 8), cc (marked_cases 8))

-- at 1021 it stands
pub at_1021 : ((call_answer example_cycle (example_lane 1021)).word ≡ 0) × ((call_state example_cycle (example_lane 1021)).carriers ≡ carrier 7 1021 0 ∷ carrier 8 860 96 ∷ [])
unfolding value table
at_1021 = (cc (marked_cases 9), cc (marked_cases 9))

-- and last all the accelerations, whose rows wish holds by name
pub accelerations_last : drop 10 table ≡ map acceleration_entry acceleration_cases
unfolding table
accelerations_last = refl
