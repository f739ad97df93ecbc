-- How a lane begins along a history: the first start, what tables are loaded for a start, and who enters where nobody is.
use Rattle.std.specs.Prelude.{ℕ, ◌≤◌, ◌<◌, ◌≡◌, Bool, true, false, ◌||◌, cond, List, [], ◌∷◌, ◌++◌, eqb, length}
use Rattle.lane.specs.declared.Carrier.{Carrier}
use Rattle.lane.specs.declared.Road.{Road}
use Rattle.lane.specs.declared.Row.{Row}
use Rattle.lane.specs.Surface.{unsound}
use Rattle.lane.specs.Layout.{Words, state_of, empty_words}
use Rattle.lane.specs.Rules.{road_no}
use Rattle.lane.specs.Table.{table_text, table_in, bad_table}
use Rattle.lane.specs.Call.{start_call, load_call, enter_call}
use Rattle.history.specs.Book.{Book}
use Rattle.history.specs.Claims.{kind_of}
use Rattle.history.specs.History.{Event, book_on, is_start, is_load, starts_lane, loads_rows, NoneOf, lane_after}

-- an accepted call
abbrev pub is_accepted : Event → Bool
is_accepted e = eqb e.answer.number 0

-- "Start (surface, lane end, limit, first cycle number): 1, 2, 3.": on the empty lane, and on it after calls that were all refused, a start is
-- answered by its road alone, since the house rows are sound
abbrev pub FirstStart : Words → List Event → Type 0
FirstStart l es =
    (before : List Event) (start : Event) (later : List Event) (road : Road) (first : ℕ)
    → es ≡ before ++ (start ∷ later)
    → l ≡ empty_words → NoneOf is_accepted before → start.call ≡ start_call road first
    → start.answer.number ≡ road_no road

-- document 02, T-01: "Loading gives 21 first, but a lane never started counts as empty and sound there, whatever it holds. Turned away: 31 ..; 32
-- carriers are on the lane": on a lane never started a load is answered by its text alone, and that of eight sound rows is accepted; on a started one
-- an accepted load found nobody in the book
abbrev pub LoadsAnswered : Words → Book → List Event → Type 0
LoadsAnswered l b es =
    (before : List Event) (load : Event) (later : List Event) (text : List ℕ)
    → es ≡ before ++ (load ∷ later)
    → load.call ≡ load_call text
    → let s = state_of (lane_after l before) in
    (s.started ≡ false → load.answer.number ≡ cond (bad_table (table_in text)) 31 0)
    × (s.started ≡ false → (rs : List Row) → length rs ≡ 8 → unsound rs ≡ false → text ≡ table_text rs → load.answer.number ≡ 0)
    × (s.started ≡ true → load.answer.number ≡ 0 → (book_on b before).carriers ≡ [])

-- T-01: "They load eight rows of three numbers (b, B, A), given as text of 24 lines"; "From the next start on, the codes mean the loaded rows": after
-- an accepted load, a list with no other, an accepted start and a list with no other, the text loaded is that of the rows in force, and they are the
-- eight sound rows that it was made of
abbrev pub LoadedTextServes : List Event → Type 0
LoadedTextServes es =
    (before : List Event) (load : Event) (between : List Event) (start : Event) (serving later : List Event) (text : List ℕ) (road : Road) (first : ℕ)
    → es ≡ before ++ (load ∷ (between ++ (start ∷ (serving ++ later))))
    → load.call ≡ load_call text → load.answer.number ≡ 0 → NoneOf loads_rows between
    → start.call ≡ start_call road first → start.answer.number ≡ 0 → NoneOf starts_lane serving
    → let in_force = (state_of (lane_after start.left serving)).tables.in_force in
    (text ≡ table_text in_force) × ((rs : List Row) → length rs ≡ 8 → unsound rs ≡ false → text ≡ table_text rs → in_force ≡ rs)

-- T-01, of 21: "a start gives it too, before 1, but only for a row of those that the start would put in force": a lane handed in as started, with an
-- unsound row for the next start, never starts and never loads, whatever is called
abbrev pub StuckForGood : Words → List Event → Type 0
StuckForGood l es =
    (state_of l).started ≡ true → unsound (state_of l).tables.next ≡ true
    → (before : List Event) (e : Event) (later : List Event)
    → es ≡ before ++ (e ∷ later)
    → is_start (kind_of e.call) || is_load (kind_of e.call) ≡ true
    → e.answer.number ≡ 21

-- "Enter (number, position, speed): 21, 4, 5, 6, 22, 23, 25, 26."; T-03: 33 "after 6"; T-06: 35 "after 33": on a lane that 21 passes, with nobody in
-- the book, every carrier whose own values are in range is let in, wherever its tail lies
abbrev pub EntersAlone : Book → List Event → Type 0
EntersAlone at_first es =
    (before : List Event) (enter : Event) (later : List Event) (c : Carrier)
    → es ≡ before ++ (enter ∷ later)
    → enter.call ≡ enter_call c → ¬ (enter.answer.number ≡ 21)
    → let b = book_on at_first before in
    b.carriers ≡ []
    → 1 ≤ c.number → c.number ≤ 65535 → c.position < b.road.end → c.speed ≤ b.road.limit → c.length ≤ 65535 → 1 ≤ c.rate → c.rate ≤ 255
    → enter.answer.number ≡ 0

-- all of a list
pub record Beginnings (l : Words) (b : Book) (es : List Event) : Type 0 where
  pub first_start : FirstStart l es
  pub loads : LoadsAnswered l b es
  pub served : LoadedTextServes es
  pub stuck : StuckForGood l es
  pub alone : EntersAlone b es
