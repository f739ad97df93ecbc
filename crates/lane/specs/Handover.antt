-- Document 02, T-08: "Write the whole lane as `key=value` lines in a fixed order: the eight rows in force and those for the next start, each as table
-- text, then `surface`, `end`, `limit`, `cycle`, then the lane text."
use Rattle.std.specs.Prelude.{ℕ, ◌≤◌, ◌<◌, ◌≡◌, true, List, [], ◌∷◌, ◌++◌, length, get_or}
use Rattle.text.specs.Ascii.{ascii}
use Rattle.text.specs.Groups.{Key, group_text, Got, got, missing, and_then, whole, group_in}
use Rattle.lane.specs.declared.Carrier.{Carrier}
use Rattle.lane.specs.declared.Row.{Row}
use Rattle.lane.specs.Limits.{surfaces, most_carriers}
use Rattle.lane.specs.Surface.{row_of}
use Rattle.lane.specs.State.{State}
use Rattle.lane.specs.Layout.{Words, state_of, empty_words}
use Rattle.lane.specs.Rules.{lane_no}
use Rattle.lane.specs.Table.{RowFits, table_text, rows_in}
use Rattle.lane.specs.Calls.{none, if_accepted}
use Rattle.lane.specs.Listing.{FitsLines, lane_text, lane_text_in, written_no, at_start}

-- ---- writing

-- "`surface`, `end`, `limit`, `cycle`": the lines of document 01's block `start`, "end, .., limit, surface: 32 bits; ..; the start's cycle: 64"
abbrev pub surface_key : Key
surface_key = record { name = ascii "surface="; most = 4294967295 }

abbrev pub end_key : Key
end_key = record { name = ascii "end="; most = 4294967295 }

abbrev pub limit_key : Key
limit_key = record { name = ascii "limit="; most = 4294967295 }

abbrev pub cycle_key : Key
cycle_key = record { name = ascii "cycle="; most = 18446744073709551615 }

abbrev pub road_keys : List Key
road_keys = surface_key ∷ end_key ∷ limit_key ∷ cycle_key ∷ []

abbrev pub road_numbers : State → List ℕ
road_numbers s = s.road.surface ∷ s.road.end ∷ s.road.limit ∷ s.cycle ∷ []

abbrev pub road_text : State → List ℕ
road_text s = group_text road_keys (road_numbers s)

unfoldable pub handover_text : State → List ℕ
handover_text s = table_text s.tables.in_force ++ (table_text s.tables.next ++ (road_text s ++ lane_text s))

-- "Checks and buffer of writing are those of the lane text"
unfoldable pub handover_no : State → (buffer : List ℕ) → ℕ
handover_no s buffer = written_no s (handover_text s) buffer

unfoldable pub handover_bytes : State → (buffer : List ℕ) → List ℕ
handover_bytes s buffer = at_start (handover_text s) buffer

-- ---- reading

-- a started lane of these rows, these numbers of the road and these carriers
abbrev pub handed : (in_force next : List Row) → (road : List ℕ) → List Carrier → State
handed in_force next ns cs =
    record {
      started = true;
      road = record { surface = get_or ns 0 0; end = get_or ns 1 0; limit = get_or ns 2 0 };
      tables = record { in_force = in_force; next = next };
      cycle = get_or ns 3 0;
      count = length cs;
      carriers = cs;
    }

-- the lane that a text holds, in the order of writing and with nothing after it
unfoldable pub handover_in : List ℕ → Got State
handover_in text =
    whole
    (and_then (rows_in text) (λ in_force t. and_then (rows_in t) (λ next t. and_then (group_in road_keys t) (λ ns t. and_then (lane_text_in t) (λ cs t.
    got (handed in_force next ns cs) t)))))

-- "36 text not in this form, or a lane that 21 refuses for anything but safety; 37 the lane isn't safe, after 36"
unfoldable pub held_no : Got State → ℕ
held_no (got s rest) = lane_no s
held_no missing = 36

unfoldable pub take_over_no : (text : List ℕ) → ℕ
take_over_no text = held_no (handover_in text)

-- the state that a text holds; "a refused reading gives an empty lane, never started, with the house rows"
unfoldable pub held : Got State → State
held (got s rest) = s
held missing = state_of empty_words

unfoldable pub taken_over : (text : List ℕ) → State
taken_over text = if_accepted (take_over_no text) (held (handover_in text)) (state_of empty_words)

-- what a reading of a text gives that answers this number and leaves this lane: the contract of its function cites it whole
pub record TakesOver (text : List ℕ) (number : ℕ) (l : Words) : Type 0 where
  pub number_is : number ≡ take_over_no text
  pub state : state_of l ≡ taken_over text
  -- every word is that of the empty lane
  pub refused : 0 < number → l ≡ empty_words

-- ---- one text of one lane

-- what the lines of a text can hold: a started lane of eight rows in each table and at most 64 carriers, each number within its field's width
pub record InForm (s : State) : Type 0 where
  pub started : s.started ≡ true
  pub counted : s.count ≡ length s.carriers
  pub few : length s.carriers ≤ most_carriers
  pub in_force_is : length s.tables.in_force ≡ surfaces
  pub in_force_fits : (i : ℕ) → i < surfaces → RowFits (row_of s.tables.in_force i)
  pub next : length s.tables.next ≡ surfaces
  pub next_fits : (i : ℕ) → i < surfaces → RowFits (row_of s.tables.next i)
  pub surface : s.road.surface ≤ surface_key.most
  pub end : s.road.end ≤ end_key.most
  pub limit : s.road.limit ≤ limit_key.most
  pub cycle : s.cycle ≤ cycle_key.most
  pub carriers : (i : ℕ) → i < length s.carriers → FitsLines (get_or s.carriers i none)
