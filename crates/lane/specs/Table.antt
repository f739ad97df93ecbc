-- Document 02, T-01: "They load eight rows of three numbers (b, B, A), given as text of 24 lines `b=`, `B=`, `A=` row by row."
use Rattle.std.specs.Prelude.{ℕ, ◌≤◌, Bool, true, ◌&&◌, cond, List, [], ◌∷◌, ◌++◌, map, ltb}
use Rattle.text.specs.Ascii.{ascii}
use Rattle.text.specs.Groups.{Key, group_text, Got, got, missing, and_then, whole, groups_in}
use Rattle.lane.specs.declared.Row.{Row}
use Rattle.lane.specs.Limits.{surfaces}
use Rattle.lane.specs.Surface.{unsound}
use Rattle.lane.specs.State.{State}
use Rattle.lane.specs.Layout.{surface_in}
use Rattle.lane.specs.Rules.{broken}

-- the most that a line's number is; a number past it is malformed, and would else be unsound
abbrev pub number_most : ℕ
number_most = 18446744073709551615

-- the lines of a row, as they are written and as they are read
abbrev pub row_keys : List Key
row_keys =
    record { name = ascii "b="; most = number_most }
    ∷ record { name = ascii "B="; most = number_most }
    ∷ record { name = ascii "A="; most = number_most }
    ∷ []

-- a row whose numbers they can hold
abbrev pub RowFits : Row → Type 0
RowFits r = (r.guaranteed ≤ number_most) × (r.hardest ≤ number_most) × (r.most ≤ number_most)

-- the text of rows: the reader takes that of eight sound ones for them, by the law `table_text_is`, and no other text for any, by `table_taken`
unfoldable pub row_text : Row → List ℕ
row_text r = group_text row_keys (r.guaranteed ∷ r.hardest ∷ r.most ∷ [])

unfoldable pub table_text : List Row → List ℕ
table_text [] = []
table_text (r ∷ rs) = row_text r ++ table_text rs

-- "row by row": the eight rows with which a text begins
unfoldable pub rows_in : List ℕ → Got (List Row)
rows_in t = and_then (groups_in row_keys surfaces t) (λ rs t. got (map surface_in rs) t)

-- "text of 24 lines": the rows of a table text
unfoldable pub table_in : List ℕ → Got (List Row)
table_in text = whole (rows_in text)

-- "31 an unsound row or malformed table text"
unfoldable pub bad_table : Got (List Row) → Bool
bad_table (got rs rest) = unsound rs
bad_table missing = true

-- the rows of a text that is accepted
unfoldable pub rows_loaded : Got (List Row) → List Row
rows_loaded (got rs rest) = rs
rows_loaded missing = []

-- "Loading gives 21 first, but a lane never started counts as empty and sound there, whatever it holds. Turned away: 31 ..; 32 carriers are on
-- the lane, looked at after 31."
unfoldable pub load_no : State → (text : List ℕ) → ℕ
load_no s text =
    cond (s.started && broken s) 21
    (cond (bad_table (table_in text)) 31
    (cond (s.started && ltb 0 s.count) 32 0))

-- "From the next start on, the codes mean the loaded rows": a load replaces the rows for the next start
unfoldable pub loaded_state : State → (text : List ℕ) → State
loaded_state s text =
    record {
      started = s.started;
      road = s.road;
      tables = record { in_force = s.tables.in_force; next = rows_loaded (table_in text) };
      cycle = s.cycle;
      count = s.count;
      carriers = s.carriers;
    }
