-- A lane as it is lent: 89 rows of eight words of 64 bits, and each word is a number of the state as it stands. Row 0 holds started, surface,
-- end, limit, cycle number and the number of carriers present; rows 1 to 8 the surface rows in force, 9 to 16 those for the next start, code
-- after code, each b, B and A; rows 25 to 88 the records, front to back, each number, position, speed, length and own rate. Every other word is free:
-- no definition looks at it.
use Rattle.std.specs.Prelude.{ℕ, ◌+◌, List, [], ◌∷◌, ◌++◌, map, eqb, get_or, take, drop, set, replicate}
use Rattle.lane.specs.declared.Carrier.{Carrier}
use Rattle.lane.specs.declared.Row.{Row}
use Rattle.lane.specs.declared.layout.Figures.{Figures}
use Rattle.lane.specs.Surface.{row, house_rows, row_of, Tables}
use Rattle.lane.specs.State.{State}

abbrev pub Words : Type 0
Words = List (List ℕ)

-- a word of the first row
abbrev pub figure : Words → ℕ → ℕ
figure l k = get_or (get_or l 0 []) k 0

-- what the first row holds; started is 1, and every other word counts as never started
abbrev pub figures_in : Words → Figures
figures_in l =
    record {
      started = eqb (figure l 0) 1;
      road = record { surface = figure l 1; end = figure l 2; limit = figure l 3 };
      cycle = figure l 4;
      count = figure l 5;
    }

-- the surface row in a row
abbrev pub surface_in : List ℕ → Row
surface_in r = row (get_or r 0 0) (get_or r 1 0) (get_or r 2 0)

-- the surface codes
abbrev pub codes : List ℕ
codes = 0 ∷ 1 ∷ 2 ∷ 3 ∷ 4 ∷ 5 ∷ 6 ∷ 7 ∷ []

-- the eight surface rows from a row on
unfoldable pub table_from : (first : ℕ) → Words → List Row
table_from first l = map (λ code. surface_in (get_or l (first + code) [])) codes

-- those in force, and those for the next start
abbrev pub tables_in : Words → Tables
tables_in l = record { in_force = table_from 1 l; next = table_from 9 l }

-- the record in a row
abbrev pub record_in : List ℕ → Carrier
record_in r = record { number = get_or r 0 0; position = get_or r 1 0; speed = get_or r 2 0; length = get_or r 3 0; rate = get_or r 4 0 }

-- the sixty-four records
unfoldable pub records_in : Words → List Carrier
records_in l = map record_in (drop 25 l)

-- a state of these figures; the first `count` records are the carriers
abbrev pub state_with : Figures → Tables → List Carrier → State
state_with f tables records =
    record {
      started = f.started;
      road = f.road;
      tables = tables;
      cycle = f.cycle;
      count = f.count;
      carriers = take f.count records;
    }

-- the state of a lane
abbrev pub state_of : Words → State
state_of l = state_with (figures_in l) (tables_in l) (records_in l)

-- the lane with another surface code, and every other word as it was
abbrev pub with_code : (code : ℕ) → Words → Words
with_code code l = set l 0 (set (get_or l 0 []) 1 code)

-- the words of a surface row
abbrev pub surface_words : Row → List ℕ
surface_words r = r.guaranteed ∷ r.hardest ∷ r.most ∷ replicate 5 0

-- and of a table, code after code
abbrev pub table_words : List Row → Words
table_words rows = map (λ code. surface_words (row_of rows code)) codes

-- a lane that is empty and was never started, with the house rows in force and for the next start, and no other words but 0
abbrev pub empty_words : Words
empty_words = replicate 8 0 ∷ (table_words house_rows ++ (table_words house_rows ++ replicate 72 (replicate 8 0)))
