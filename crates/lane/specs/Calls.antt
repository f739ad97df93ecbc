-- Document 01, "Calls, with their checks in order": for each call the number of its refusal, 0 where it is accepted, the values that
-- it gives, and the lane's state afterwards. "A refusal holds its number, with place, word, counts and both doubles zero."
use Rattle.std.specs.Prelude.{ℕ, suc, ◌+◌, ◌-◌, true, not, ◌&&◌, cond, List, [], ◌∷◌, ◌++◌, eqb, ltb, ℤ, length, get_or, take, drop}
use Rattle.wish.specs.Reading.{reading_of}
use Rattle.wish.specs.declared.Reading.{Reading}
use Rattle.wish.specs.declared.Wish.{Wish}
use Rattle.lane.specs.declared.Carrier.{Carrier}
use Rattle.lane.specs.declared.Drive.{Drive}
use Rattle.lane.specs.declared.Road.{Road}
use Rattle.lane.specs.declared.Row.{Row}
use Rattle.lane.specs.Limits.{last_surface, most_carriers, last_cycle}
use Rattle.lane.specs.Surface.{row_of, unsound, row_in}
use Rattle.lane.specs.State.{State}
use Rattle.lane.specs.Safety.{Ahead, nobody, leader, safe_with, lane_safe, any_of, first_place, numbered}
use Rattle.lane.specs.Rules.{bad_number, road_no, newcomer_no, broken}
use Rattle.lane.specs.Wishes.{wished_units, any_outside, drives, all_moved, replaced_in, word_of, count_of, remaining}

-- the state with other carriers
abbrev pub with_carriers : State → List Carrier → State
with_carriers s cs =
    record { started = s.started; road = s.road; tables = s.tables; cycle = s.cycle; count = length cs; carriers = cs }

-- the state with another cycle number
abbrev pub at_cycle : ℕ → State → State
at_cycle n s =
    record { started = s.started; road = s.road; tables = s.tables; cycle = n; count = s.count; carriers = s.carriers }

-- a value of an accepted call; a refused one has the other
abbrev pub if_accepted {ℓ} : {A : Type ℓ} → (number : ℕ) → A → A → A
if_accepted number x y = cond (eqb number 0) x y

-- ---- start: "Start (surface, lane end, limit, first cycle number): 1, 2, 3."

-- document 02, T-01, of 21: "a start gives it too, before 1, but only for a row of those that the start would put in force"
unfoldable pub start_no : State → Road → ℕ
start_no s road = cond (unsound s.tables.next) 21 (road_no road)

-- "It empties the lane": surface, end, limit and cycle number are those given; T-01: "a start puts them in force", the rows for the next start,
-- and they stay those of the start after it
abbrev pub begun_state : State → Road → (first : ℕ) → State
begun_state s road first =
    record {
      started = true;
      road = road;
      tables = record { in_force = s.tables.next; next = s.tables.next };
      cycle = first;
      count = 0;
      carriers = [];
    }

-- ---- enter: "21, 4, 5, 6, 22, 23, 25, 26."; document 02, T-03: 33 "after 6"; T-06: 35 "after 33"

-- "For the place, the walk goes front to back and ends at the first carrier whose position is lower."
unfoldable pub walk : (position : ℕ) → List Carrier → ℕ
walk position cs = first_place (λ c. ltb c.position position) cs

-- the record of no carrier
abbrev pub none : Carrier
none = record { number = 0; position = 0; speed = 0; length = 0; rate = 0 }

-- the carrier ahead of a place
abbrev pub ahead_of : ℕ → List Carrier → Ahead
ahead_of place cs = cond (eqb place 0) nobody (leader (get_or cs (place - 1) none))

-- "25 not safe behind the carrier ahead; 26 the carrier behind not safe": behind is who stands at the place until then
unfoldable pub gap_no : Row → (place : ℕ) → Carrier → List Carrier → ℕ
gap_no r place c cs =
    cond (not (safe_with r (ahead_of place cs) c)) 25
    (cond (ltb place (length cs) && not (safe_with r (leader c) (get_or cs place none))) 26 0)

-- "22 64 carriers present; 23 number present", then 25 and 26
unfoldable pub place_no : State → Carrier → ℕ
place_no s c =
    cond (eqb s.count most_carriers) 22
    (cond (any_of (numbered c.number) s.carriers) 23
    (gap_no (row_in s.tables s.road) (walk c.position s.carriers) c s.carriers))

-- "Enter (number, position, speed): 21, 4, 5, 6, 22, 23, 25, 26."; T-03: "Each entry gains a length"; T-06:
-- "Each entry names the carrier's own rate"
unfoldable pub enter_no : State → Carrier → ℕ
enter_no s c =
    cond (broken s) 21 (if_accepted (newcomer_no s.road c) (place_no s c) (newcomer_no s.road c))

-- a carrier at a place; those from there on stand one further back
abbrev pub insert_at : ℕ → Carrier → List Carrier → List Carrier
insert_at place c cs = take place cs ++ (c ∷ drop place cs)

-- the lane with the newcomer where the walk ends
unfoldable pub entered_state : State → Carrier → State
entered_state s c = with_carriers s (insert_at (walk c.position s.carriers) c s.carriers)

-- ---- leave: "21, 4, 24."; read has the same checks

-- "Leave (number): 21, 4, 24."; "Read (number): 21, 4, 24."
unfoldable pub named_no : State → (number : ℕ) → ℕ
named_no s number =
    cond (broken s) 21
    (cond (bad_number number) 4
    (cond (any_of (numbered number) s.carriers) 0 24))

-- where a number stands: "Places count from 0 at the front."
abbrev pub place_of : (number : ℕ) → List Carrier → ℕ
place_of number cs = first_place (numbered number) cs

-- the carrier at a place taken out
abbrev pub remove_at : ℕ → List Carrier → List Carrier
remove_at place cs = take place cs ++ drop (suc place) cs

-- the lane without the carrier named
unfoldable pub left_state : State → (number : ℕ) → State
left_state s number = with_carriers s (remove_at (place_of number s.carriers) s.carriers)

-- ---- read: "It gives a record of two doubles, position in metres and speed in m/s, both exact."

-- the carrier that a read names
abbrev pub named_carrier : State → (number : ℕ) → Carrier
named_carrier s number = get_or s.carriers (place_of number s.carriers) none

-- its position and speed as doubles
abbrev pub named_reading : State → (number : ℕ) → Reading
named_reading s number = reading_of (named_carrier s number).position (named_carrier s number).speed

-- ---- cycle: "21, 27, 28, 7."

-- what each carrier does, with wishes of so many units
abbrev pub drives_with : State → (units : List ℤ) → List Drive
drives_with s zs = drives (row_in s.tables s.road) s.road.limit nobody s.carriers zs

-- who is left of those that have moved
abbrev pub left_after : State → List Drive → List Carrier
left_after s ds = remaining s.road (all_moved s.carriers ds)

-- "64 wishes, of which the first count are looked at"
unfoldable pub cycle_drives : State → List Wish → List Drive
cycle_drives s ws = drives_with s (wished_units s.carriers (take s.count ws))

-- the checks before the wishes are looked at: "21, 27, 28"
unfoldable pub ready_no : State → (count : ℕ) → ℕ
ready_no s count =
    cond (broken s) 21 (cond (not (eqb count s.count)) 27 (cond (eqb s.cycle last_cycle) 28 0))

-- "Cycle (count, 64 wishes, of which the first count are looked at): 21, 27, 28, 7."
unfoldable pub cycle_no : State → (count : ℕ) → List Wish → ℕ
cycle_no s count ws = if_accepted (ready_no s count) (cond (any_outside s.carriers (take s.count ws)) 7 0) (ready_no s count)

-- "A cycle answers one 64-bit word in which bit i is set if the wish of place i was replaced"
unfoldable pub cycle_word : State → List Wish → ℕ
cycle_word s ws = word_of (replaced_in (cycle_drives s ws))

-- "and the number of replaced wishes"
unfoldable pub cycle_replaced : State → List Wish → ℕ
cycle_replaced s ws = count_of (replaced_in (cycle_drives s ws))

-- who is left
unfoldable pub cycle_carriers : State → List Wish → List Carrier
cycle_carriers s ws = left_after s (cycle_drives s ws)

-- the number gone
unfoldable pub cycle_gone : State → List Wish → ℕ
cycle_gone s ws = s.count - length (cycle_carriers s ws)

-- "a cycle raises it by one"
unfoldable pub cycled_state : State → List Wish → State
cycled_state s ws = at_cycle (s.cycle + 1) (with_carriers s (cycle_carriers s ws))

-- ---- surface: document 02, T-05, "to change the surface code between cycles"

-- the road with another surface code
abbrev pub on_surface : (code : ℕ) → Road → Road
on_surface code road = record { surface = code; end = road.end; limit = road.limit }

-- "The change is accepted if the whole lane is safe under the new row and refused otherwise."; "Turned away: 34 the lane wouldn't be safe, after
-- 21 and 1."; the new row is that of the code among those in force
unfoldable pub surface_no : State → (code : ℕ) → ℕ
surface_no s code =
    cond (broken s) 21
    (cond (ltb last_surface code) 1 (cond (lane_safe (row_of s.tables.in_force code) s.carriers) 0 34))

-- "Positions, speeds and the cycle number don't move."
unfoldable pub surfaced_state : State → (code : ℕ) → State
surfaced_state s code =
    record {
      started = s.started;
      road = on_surface code s.road;
      tables = s.tables;
      cycle = s.cycle;
      count = s.count;
      carriers = s.carriers;
    }
