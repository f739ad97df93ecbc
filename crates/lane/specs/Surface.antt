-- Document 01, "Units": "Surface rows: guaranteed braking b, hardest braking B, most acceleration A, house values"; document 02, T-01: a
-- terminal's own rows.
use Rattle.std.specs.Prelude.{ℕ, zero, suc, Bool, false, not, ◌&&◌, ◌||◌, List, [], ◌∷◌, leb, get_or}
use Rattle.lane.specs.declared.Road.{Road}
use Rattle.lane.specs.declared.Row.{Row}
use Rattle.lane.specs.Limits.{surfaces, highest_rate}

-- a row: b, B and A
abbrev pub row : ℕ → ℕ → ℕ → Row
row b B A = record { guaranteed = b; hardest = B; most = A }

-- the columns of document 01's table, code 0 to code 7: "the house rows serve until a table is loaded"
unfoldable pub house_rows : List Row
house_rows =
    row 64 128 32 ∷ row 56 120 32 ∷ row 48 112 24 ∷ row 40 96 24 ∷ row 32 96 16 ∷ row 16 64 12 ∷ row 6 48 8 ∷ row 1 255 1 ∷ []

-- the row of a code; zeros for a code that the rows do not have
unfoldable pub row_of : List Row → ℕ → Row
row_of rows code = get_or rows code (row 0 0 0)

-- T-01: "A row is sound if b is 1 to B, B at most 255 and A 1 to 255."
unfoldable pub sound_row : Row → Bool
sound_row r =
    leb 1 r.guaranteed && leb r.guaranteed r.hardest && leb r.hardest highest_rate && leb 1 r.most && leb r.most highest_rate

-- the row of some code below n is unsound
unfoldable pub unsound_below : (n : ℕ) → List Row → Bool
unsound_below zero rows = false
unsound_below (suc n) rows = unsound_below n rows || not (sound_row (row_of rows n))

-- one of the "eight rows" is; one that is missing counts as zeros, and none past the eighth is looked at
unfoldable pub unsound : List Row → Bool
unsound rows = unsound_below surfaces rows

-- T-01: "the rows in force and those for the next start"
pub record Tables : Type 0 where
  pub in_force : List Row
  pub next : List Row

-- the row in force
abbrev pub row_in : Tables → Road → Row
row_in t road = row_of t.in_force road.surface
