-- The rows of a lane: what a row is to the figures, the tables and the records, and what a store to one changes.
use mathlib.Core.Path.{◌≡◌, refl, sym, ap, ap₂, ◌∙◌}
use mathlib.Core.Bool.{Bool, true, false, cond}
use mathlib.Core.List.{List, [], ◌∷◌, ◌++◌, map}
use Prim.Native.Nat.{ℕ, zero, suc, ◌+◌, ◌≤◌, ◌<◌}
use native.Mathlib.Omega.{arith}
use lib.Dec.{eqb}
use lib.ListN.{length, get_or, take, drop, set, replicate, length-map, length-drop, get_or-map}
use lib.Seq.{ext_get_or, take_all, length-take-le, get_or-drop, get_or-set_same, get_or-set_other, drop-set-lt, drop-set-add}
use Rattle.lane.specs.declared.Carrier.{Carrier}
use Rattle.lane.specs.declared.Row.{Row}
use Rattle.lane.specs.declared.layout.Figures.{Figures}
use Rattle.lane.specs.Surface.{row, row_of, Tables}
use Rattle.lane.specs.State.{State}
use Rattle.lane.specs.Layout.{Words, surface_in, codes, table_from, tables_in, table_words, record_in, records_in, figures_in, state_with, state_of, with_code}
use Rattle.lane.specs.Calls.{none, at_cycle, with_carriers, on_surface, surfaced_state}

map_set : {A B : Type 0} (f : A → B) (l : List A) (i : ℕ) (a : A) → map f (set l i a) ≡ set (map f l) i (f a)
map_set f [] i a = refl
map_set f (x ∷ l) zero a = refl
map_set f (x ∷ l) (suc i) a = ap (λ m. f x ∷ m) (map_set f l i a)

-- ---- the codes of a table
module _ (f : ℕ → Row) where
  pub at_code : (code : ℕ) → code < 8 → row_of (map f codes) code ≡ f code
  unfolding row_of
  at_code zero h = refl
  at_code (suc zero) h = refl
  at_code (suc (suc zero)) h = refl
  at_code (suc (suc (suc zero))) h = refl
  at_code (suc (suc (suc (suc zero)))) h = refl
  at_code (suc (suc (suc (suc (suc zero))))) h = refl
  at_code (suc (suc (suc (suc (suc (suc zero)))))) h = refl
  at_code (suc (suc (suc (suc (suc (suc (suc zero))))))) h = refl
  at_code (suc (suc (suc (suc (suc (suc (suc (suc code)))))))) h = absurd (omega arith)

  pub alike_codes : (g : ℕ → Row) → ((code : ℕ) → code < 8 → f code ≡ g code) → map f codes ≡ map g codes
  alike_codes g h = rw (h 0 (omega arith), h 1 (omega arith), h 2 (omega arith), h 3 (omega arith), h 4 (omega arith), h 5 (omega arith), h 6 (omega arith), h 7 (omega arith)) refl

-- eight rows, code by code
pub code_by_code : (rows : List Row) → length rows ≡ 8 → map (row_of rows) codes ≡ rows
unfolding row_of
code_by_code rows e = ext_get_or (row 0 0 0) (map (row_of rows) codes) rows (sym e) (at_code (row_of rows))

pub table_eight : (first : ℕ) (l : Words) → length (table_from first l) ≡ 8
unfolding table_from
table_eight first l = refl

module _ (l : Words) where
  pub records_long : length l ≡ 89 → length (records_in l) ≡ 64
  unfolding records_in
  records_long e = length-map (drop 25 l) record_in ∙ length-drop 25 l ∙ omega arith

  -- the record at a place stands 25 rows further on
  pub record_at : (place : ℕ) → record_in (get_or l (25 + place) []) ≡ get_or (records_in l) place none
  unfolding records_in
  record_at place = ap record_in (sym (get_or-drop 25 l place [])) ∙ sym (get_or-map record_in (drop 25 l) place [])

  -- a store to the row of a place sets the record
  pub records_set : (place : ℕ) (w : List ℕ) → records_in (set l (25 + place) w) ≡ set (records_in l) place (record_in w)
  unfolding records_in
  records_set place w = ap (map record_in) (drop-set-add 25 l place w) ∙ map_set record_in (drop 25 l) place w

  -- a store to another row than the first leaves the figures, one before the records these, one past a table's rows or before them the table
  module _ (i : ℕ) (w : List ℕ) where
    pub figures_kept : 0 < i → figures_in (set l i w) ≡ figures_in l
    figures_kept h = rw (get_or-set_other l i 0 w [] (λ z. omega arith)) refl

    pub records_kept : i < 25 → records_in (set l i w) ≡ records_in l
    unfolding records_in
    records_kept h = ap (map record_in) (drop-set-lt 25 l i w h)

    pub table_kept : (first : ℕ) → ((code : ℕ) → code < 8 → ¬ (first + code ≡ i)) → table_from first (set l i w) ≡ table_from first l
    unfolding table_from
    table_kept first apart = alike_codes _ _ λ code h. ap surface_in (get_or-set_other l i (first + code) w [] (apart code h))

    pub tables_kept : ((code : ℕ) → code < 16 → ¬ (1 + code ≡ i)) → tables_in (set l i w) ≡ tables_in l
    tables_kept apart =
        ap₂ (λ (a b : List Row). record { in_force = a; next = b }) (table_kept 1 (λ code h. apart code (omega arith)))
        (table_kept 9 (λ code h e. apart (8 + code) (omega arith) (omega arith)))

  -- what stands before the records stays
  pub head_kept : (place : ℕ) (w : List ℕ) → (figures_in (set l (25 + place) w) ≡ figures_in l) × (tables_in (set l (25 + place) w) ≡ tables_in l)
  head_kept place w = (figures_kept (25 + place) w (omega arith), tables_kept (25 + place) w (λ code h e. omega arith))

  -- the surface row of a code
  pub surface_at : (first code : ℕ) → code < 8 → surface_in (get_or l (first + code) []) ≡ row_of (table_from first l) code
  unfolding table_from
  surface_at first code h = sym (at_code (λ k. surface_in (get_or l (first + k) [])) code h)

  -- a store to the first row puts its figures
  pub figures_put : (w : List ℕ) → 0 < length l → figures_in (set l 0 w) ≡ figures_in (w ∷ [])
  figures_put w h = rw (get_or-set_same l 0 w [] h) refl

-- the surface code put, in a lane of enough words that its end has one
code_put : (l : Words) (code : ℕ) → 1 ≤ (figures_in l).road.end
    → figures_in (with_code code l) ≡ record { started = (figures_in l).started; road = on_surface code (figures_in l).road; cycle = (figures_in l).cycle; count = (figures_in l).count }
code_put [] code h = absurd (omega arith)
code_put ([] ∷ l) code h = absurd (omega arith)
code_put ((a ∷ []) ∷ l) code h = absurd (omega arith)
code_put ((a ∷ b ∷ r) ∷ l) code h = refl

pub code_state : (l : Words) (code : ℕ) → 1 ≤ (state_of l).road.end → state_of (with_code code l) ≡ surfaced_state (state_of l) code
unfolding surfaced_state
code_state l code h =
    let w = set (get_or l 0 []) 1 code in
    ap₂ (λ (f : Figures) (t : Tables). state_with f t (records_in (with_code code l))) (code_put l code h) (tables_kept l 0 w (λ code h e. omega arith))
    ∙ ap (state_with (record { started = (figures_in l).started; road = on_surface code (figures_in l).road; cycle = (figures_in l).cycle; count = (figures_in l).count }) (tables_in l)) (records_kept l 0 w (omega arith))

-- stores that each leave what stands before the records
pub same_head : {f g h : Figures} {s t u : Tables} → (h ≡ g) × (u ≡ t) → (g ≡ f) × (t ≡ s) → (h ≡ f) × (u ≡ s)
same_head p q = (p.0 ∙ q.0, p.1 ∙ q.1)

-- figures with another cycle number and count
abbrev pub counting : Figures → (cycle count : ℕ) → Figures
counting f cycle count = record { started = f.started; road = f.road; cycle = cycle; count = count }

-- A lane l₀ has come to l, with such figures, the same tables and records of which the first `count` are the carriers cs.
pub carriers_are : (l₀ l : Words) (cycle count : ℕ) (records cs : List Carrier) → figures_in l ≡ counting (figures_in l₀) cycle count
    → tables_in l ≡ tables_in l₀ → records_in l ≡ records → count ≤ length records → take count records ≡ cs
    → state_of l ≡ at_cycle cycle (with_carriers (state_of l₀) cs)
carriers_are l₀ l cycle count records cs e t k h p =
    ap₂ (λ (f : Figures) (q : Tables). state_with f q (records_in l)) e t
    ∙ ap (state_with (counting (figures_in l₀) cycle count) (tables_in l₀)) k
    ∙ ap₂ (λ (n : ℕ) (a : List Carrier). record { started = (figures_in l₀).started; road = (figures_in l₀).road; tables = tables_in l₀; cycle = cycle; count = n; carriers = a })
    (sym (length-take-le count records h) ∙ ap length p) p

-- ---- words for a state

-- the row of a carrier
row_for : Carrier → List ℕ
row_for c = c.number ∷ c.position ∷ c.speed ∷ c.length ∷ c.rate ∷ []

read_back : (cs : List Carrier) → map record_in (map row_for cs) ≡ cs
unfolding row_for
read_back [] = refl
read_back (c ∷ cs) = ap (λ ds. c ∷ ds) (read_back cs)

-- a lane of that state
pub words_for : State → Words
words_for s =
    (cond s.started 1 0 ∷ s.road.surface ∷ s.road.end ∷ s.road.limit ∷ s.cycle ∷ s.count ∷ [])
    ∷ (table_words s.tables.in_force ++ (table_words s.tables.next ++ (replicate 8 [] ++ map row_for s.carriers)))

-- a state that counts its carriers, of the lanes' eight rows in each table
pub record Fills (s : State) : Type 0 where
  pub counted : s.count ≡ length s.carriers
  pub in_force_is : length s.tables.in_force ≡ 8
  pub next : length s.tables.next ≡ 8

-- is that of some lane
pub words_for_is : (s : State) → Fills s → state_of (words_for s) ≡ s
unfolding words_for table_from records_in
words_for_is s h =
    rw (read_back s.carriers, take_all s.count s.carriers (omega (arith, h.counted)), code_by_code s.tables.in_force h.in_force_is, code_by_code s.tables.next h.next)
    (by_started s.started)
  where
    by_started : (t : Bool)
        → ◌≡◌ {A = State} (record { started = eqb (cond t 1 0) 1; road = s.road; tables = s.tables; cycle = s.cycle; count = s.count; carriers = s.carriers })
        (record { started = t; road = s.road; tables = s.tables; cycle = s.cycle; count = s.count; carriers = s.carriers })
    by_started true = refl
    by_started false = refl

-- a lane with other rows for the next start, whatever it counts
pub with_next : Words → List Row → Words
with_next l rows = get_or l 0 [] ∷ (map (λ code. get_or l (1 + code) []) codes ++ (table_words rows ++ (replicate 8 [] ++ drop 25 l)))

pub with_next_is : (l : Words) (rows : List Row) → length rows ≡ 8
    → state_of (with_next l rows) ≡ state_with (figures_in l) (record { in_force = (tables_in l).in_force; next = rows }) (records_in l)
unfolding with_next table_from records_in
with_next_is l rows e = ap (λ (rs : List Row). state_with (figures_in l) (record { in_force = (tables_in l).in_force; next = rs }) (records_in l)) (code_by_code rows e)
