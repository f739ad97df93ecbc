-- Table text as groups of numbers: read again as it was written, taken for nothing else, as functions tell of it; and as a loop over its rows makes it.
use mathlib.Core.Path.{◌≡◌, refl, sym, ap, ◌∙◌}
use mathlib.Core.Bool.{true, false, true≢false}
use mathlib.Core.List.{List, [], ◌∷◌, ◌++◌, map}
use Prim.Native.Nat.{ℕ, zero, suc, ◌+◌, ◌*◌, ◌≤◌, ◌<◌}
use native.Mathlib.Numerals.{add-one}
use native.Mathlib.Omega.{arith}
use lib.ListN.{length, drop, length-map, length-append, drop_of_length-le}
use lib.Seq.{drop-cons}
use Rattle.std.specs.Prelude.{Option, Some, None, MatchOption, is_some, not}
use Rattle.text.specs.Numbers.{decimal}
use Rattle.text.specs.Groups.{groups_text, Got, got, missing, and_then, groups_in}
use Rattle.text.proofs.Laws.{decimal_at_most, length_line}
use Rattle.text.proofs.GroupLaws.{Held, AllHeld, groups_again, groups_taken, got_injective, got≢missing, whole_end, whole_more, whole_taken}
use Rattle.lane.specs.declared.Row.{Row}
use Rattle.lane.specs.Surface.{row, row_of, unsound}
use Rattle.lane.specs.Layout.{surface_in}
use Rattle.lane.specs.Table.{row_keys, RowFits, row_text, table_text, rows_in, table_in, bad_table, rows_loaded}
use Rattle.lane.proofs.checks.Surfaces.{SoundRow, sound_at}

-- ---- rows are groups of three numbers

abbrev numbers_of : Row → List ℕ
numbers_of r = r.guaranteed ∷ r.hardest ∷ r.most ∷ []

groups_of : (rs : List Row) → table_text rs ≡ groups_text row_keys (map numbers_of rs)
unfolding row_text table_text
groups_of [] = refl
groups_of (r ∷ rs) = ap (λ (t : List ℕ). row_text r ++ t) (groups_of rs)

rows_of : (rs : List Row) → map surface_in (map numbers_of rs) ≡ rs
rows_of [] = refl
rows_of (r ∷ rs) = ap (λ (l : List Row). r ∷ l) (rows_of rs)

rows_held : (rs : List Row) → ((i : ℕ) → i < length rs → RowFits (row_of rs i)) → AllHeld row_keys (map numbers_of rs)
unfolding row_of
rows_held [] h = tt
rows_held (r ∷ rs) h = let f = h 0 (omega arith) in ((f.0, (f.1, (f.2, tt))), rows_held rs (λ i p. h (suc i) (omega arith)))

row_of_is : (g : List ℕ) → Held row_keys g → (numbers_of (surface_in g) ≡ g) × RowFits (surface_in g)
row_of_is [] h = absurd h
row_of_is (b ∷ []) h = absurd h.1
row_of_is (b ∷ B ∷ []) h = absurd h.1.1
row_of_is (b ∷ B ∷ A ∷ []) h = (refl, (h.0, h.1.0, h.1.1.0))
row_of_is (b ∷ B ∷ A ∷ n ∷ ns) h = absurd h.1.1.1

groups_held : (gs : List (List ℕ)) → AllHeld row_keys gs
    → (map numbers_of (map surface_in gs) ≡ gs) × ((i : ℕ) → i < length gs → RowFits (row_of (map surface_in gs) i))
unfolding row_of
groups_held [] h = (refl, λ i p. absurd (omega arith))
groups_held (g ∷ gs) h =
    let first = row_of_is g h.0 in
    let others = groups_held gs h.1 in
    (cc (first.0, others.0), by_place first.1 others.1)
  where
    by_place : RowFits (surface_in g) → ((i : ℕ) → i < length gs → RowFits (row_of (map surface_in gs) i))
        → (i : ℕ) → i < suc (length gs) → RowFits (row_of (map surface_in (g ∷ gs)) i)
    by_place f k zero p = f
    by_place f k (suc i) p = k i (omega arith)

-- ---- eight rows in a text

pub rows_again : (rs : List Row) (rest : List ℕ) → length rs ≡ 8 → ((i : ℕ) → i < 8 → RowFits (row_of rs i)) → rows_in (table_text rs ++ rest) ≡ got rs rest
unfolding rows_in
rows_again rs rest eight h =
    let n : length (map numbers_of rs) ≡ 8 = length-map rs numbers_of ∙ eight in
    let again = groups_again row_keys (map numbers_of rs) rest refl (rows_held rs (λ i p. h i (omega arith))) in
    rw (groups_of rs, rw n at again, rows_of rs) refl

pub rows_taken : (t : List ℕ) (rs : List Row) (rest : List ℕ) → rows_in t ≡ got rs rest
    → (t ≡ table_text rs ++ rest) × (length rs ≡ 8) × ((i : ℕ) → i < 8 → RowFits (row_of rs i))
unfolding rows_in
rows_taken t rs rest e = by_groups (groups_in row_keys 8 t) refl e
  where
    by_groups : (x : Got (List (List ℕ))) → groups_in row_keys 8 t ≡ x → and_then x (λ gs u. got (map surface_in gs) u) ≡ got rs rest
        → (t ≡ table_text rs ++ rest) × (length rs ≡ 8) × ((i : ℕ) → i < 8 → RowFits (row_of rs i))
    by_groups (got gs u) q e =
        let g = got_injective e in
        let k = groups_taken row_keys 8 t gs u q in
        let rows = groups_held gs k.2 in
        let text : table_text (map surface_in gs) ≡ groups_text row_keys gs = groups_of (map surface_in gs) ∙ ap (groups_text row_keys) rows.0 in
        rw (sym g.0, sym g.1, text) (k.0, length-map gs surface_in ∙ k.1, λ i p. rows.1 i (omega (arith, k.1)))
    by_groups missing q e = absurd (got≢missing (sym e))

-- by their numbers
pub rows_told : (t : List ℕ) {table : List (List ℕ)} {rest : List ℕ} → groups_in row_keys 8 t ≡ got table rest → rows_in t ≡ got (map surface_in table) rest
unfolding rows_in
rows_told t e = rw e refl

pub rows_missing : (t : List ℕ) → groups_in row_keys 8 t ≡ missing → rows_in t ≡ missing
unfolding rows_in
rows_missing t e = rw e refl

-- ---- all of a text

-- a table that is accepted has eight rows
pub eight_loaded : (text : List ℕ) → bad_table (table_in text) ≡ false → length (rows_loaded (table_in text)) ≡ 8
unfolding table_in bad_table rows_loaded
eight_loaded text e = by_rows (table_in text) refl e
  where
    by_rows : (x : Got (List Row)) → table_in text ≡ x → bad_table x ≡ false → length (rows_loaded x) ≡ 8
    by_rows (got rs rest) q e = (rows_taken text rs [] (whole_taken (rows_in text) rs rest q).0).1
    by_rows missing q e = absurd (true≢false e)

-- what a load finds of a text, by the numbers of its rows
module _ (text : List ℕ) where
  pub bad_missing : groups_in row_keys 8 text ≡ missing → bad_table (table_in text) ≡ true
  unfolding table_in bad_table
  bad_missing e = rw (rows_missing text e) refl

  module _ {table : List (List ℕ)} {rest : List ℕ} (e : groups_in row_keys 8 text ≡ got table rest) where
    pub bad_more : 1 ≤ length rest → bad_table (table_in text) ≡ true
    unfolding table_in bad_table
    bad_more h = rw (rows_told text e, whole_more (map surface_in table) rest h) refl

    pub loaded_all : length rest ≡ 0 → (bad_table (table_in text) ≡ unsound (map surface_in table)) × (rows_loaded (table_in text) ≡ map surface_in table)
    unfolding table_in bad_table rows_loaded
    loaded_all h = rw (rows_told text e, whole_end (map surface_in table) rest h) (refl, refl)

-- ---- lengths

pub length_row : (r : Row) → length (row_text r) ≡ 9 + length (decimal r.guaranteed) + length (decimal r.hardest) + length (decimal r.most)
unfolding row_text
length_row r = simp (length-append, length_line) (omega arith)

rows_length : (rs : List Row) → ((i : ℕ) → i < length rs → SoundRow (row_of rs i)) → length (table_text rs) ≤ 18 * length rs
unfolding row_of table_text
rows_length [] h = omega arith
rows_length (r ∷ rs) h =
    let s = h 0 (omega arith) in
    let b = decimal_at_most 3 r.guaranteed (omega arith) (omega (arith, s.brakes_harder, s.hardest_most)) in
    let B = decimal_at_most 3 r.hardest (omega arith) (omega (arith, s.hardest_most)) in
    let A = decimal_at_most 3 r.most (omega arith) (omega (arith, s.gains_most)) in
    rw (length-append (row_text r) (table_text rs), length_row r) (omega (arith, rows_length rs (λ i p. h (suc i) (omega arith))))

-- the lines of sound rows have at most 6 bytes
pub table_length : (rs : List Row) → length rs ≡ 8 → unsound rs ≡ false → length (table_text rs) ≤ 144
table_length rs eight e = omega (arith, rows_length rs (λ i p. sound_at rs i (omega arith) e))

-- ---- the rows that a loop has still to see

module _ (rs : List Row) (code : ℕ) where
  pub text_next : code < length rs → table_text (drop code rs) ≡ row_text (row_of rs code) ++ table_text (drop (code + 1) rs)
  unfolding row_of table_text
  text_next h = rw (drop-cons rs code (row 0 0 0) h, add-one code) refl

  pub text_past : length rs ≤ code → table_text (drop code rs) ≡ []
  unfolding table_text
  text_past h = rw (drop_of_length-le rs h) refl

  pub length_next : code < length rs → length (table_text (drop code rs)) ≡ length (row_text (row_of rs code)) + length (table_text (drop (code + 1) rs))
  length_next h = ap length (text_next h) ∙ length-append (row_text (row_of rs code)) (table_text (drop (code + 1) rs))

  pub length_past : length rs ≤ code → length (table_text (drop code rs)) ≡ 0
  length_past h = ap length (text_past h)

-- whether there is a table tells whether the text is bad
pub bad_unless : (text : List ℕ) (loaded : Option (List (List ℕ)))
    → MatchOption loaded (bad_table (table_in text) ≡ true) (λ table. (bad_table (table_in text) ≡ false) × (rows_loaded (table_in text) ≡ map surface_in table))
    → bad_table (table_in text) ≡ not (is_some loaded)
bad_unless text (Some table) h = h.0
bad_unless text None h = h
