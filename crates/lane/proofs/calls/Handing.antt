-- A handover text as functions read and put it, part after part, and what decides a reading.
use mathlib.Core.Path.{◌≡◌, refl, sym, ap, ◌∙◌}
use mathlib.Core.Bool.{true}
use mathlib.Core.List.{List, [], ◌∷◌, ◌++◌, append-nil}
use Prim.Native.Nat.{ℕ, ◌+◌, ◌≤◌}
use native.Mathlib.Omega.{arith}
use borrow.Author.Tests.{eq-eqb, ne_eqb}
use lib.ListN.{length, take, length-append}
use lib.Seq.{length-take-le}
use Rattle.text.specs.Groups.{got, missing, whole, group_in}
use Rattle.text.specs.Lines.{written}
use Rattle.text.proofs.Laws.{putting_start, putting_next, putting_end}
use Rattle.lane.specs.declared.Carrier.{Carrier}
use Rattle.lane.specs.declared.Road.{Road}
use Rattle.lane.specs.declared.Row.{Row}
use Rattle.lane.specs.declared.layout.Figures.{Figures}
use Rattle.lane.specs.Surface.{Tables}
use Rattle.lane.specs.State.{State}
use Rattle.lane.specs.Layout.{Words, figures_in, tables_in, records_in, state_with, state_of, empty_words}
use Rattle.lane.specs.Rules.{lane_no}
use Rattle.lane.specs.Table.{table_text, rows_in}
use Rattle.lane.specs.Listing.{lane_text, lane_text_in}
use Rattle.lane.specs.Handover.{road_keys, road_text, handover_text, handed, handover_in, held_no, take_over_no, held, taken_over, TakesOver}

-- ---- a text as it is read

-- its four parts, each where the one before ends: one that is missing, or all of them
module _ (text : List ℕ) where
  pub in_force_missing : rows_in text ≡ missing → handover_in text ≡ missing
  unfolding handover_in
  in_force_missing e = rw e refl

  module _ {in_force : List Row} {behind : List ℕ} (first : rows_in text ≡ got in_force behind) where
    pub next_missing : rows_in behind ≡ missing → handover_in text ≡ missing
    unfolding handover_in
    next_missing e = rw (first, e) refl

    module _ {next : List Row} {behind₂ : List ℕ} (second : rows_in behind ≡ got next behind₂) where
      pub road_missing : group_in road_keys behind₂ ≡ missing → handover_in text ≡ missing
      unfolding handover_in
      road_missing e = rw (first, second, e) refl

      module _ {ns behind₃ : List ℕ} (third : group_in road_keys behind₂ ≡ got ns behind₃) where
        pub lane_missing : lane_text_in behind₃ ≡ missing → handover_in text ≡ missing
        unfolding handover_in
        lane_missing e = rw (first, second, third, e) refl

        pub parts_told : {cs : List Carrier} {rest : List ℕ} → lane_text_in behind₃ ≡ got cs rest
            → handover_in text ≡ whole (got (handed in_force next ns cs) rest)
        unfolding handover_in
        parts_told e = rw (first, second, third, e) refl

-- the rows in force are put by way of those for the next start
pub tables_put : {t₁ t₂ t₃ : Tables} (old first second : List Row) → t₁ ≡ record { in_force = old; next = first }
    → t₂ ≡ record { in_force = t₁.next; next = t₁.next } → t₃ ≡ record { in_force = t₂.in_force; next = second } → t₃ ≡ record { in_force = first; next = second }
tables_put old first second e f g =
    g
    ∙ ap (λ (t : Tables). record { in_force = t.in_force; next = second }) f
    ∙ ap (λ (t : Tables). record { in_force = t.next; next = second }) e

-- the lane into which it was read holds it
pub holds_it : (l : Words) (in_force next : List Row) (road : Road) (cycle count : ℕ)
    → figures_in l ≡ record { started = true; road = road; cycle = cycle; count = count }
    → tables_in l ≡ record { in_force = in_force; next = next }
    → count ≤ 64 → length (records_in l) ≡ 64
    → handed in_force next (road.surface ∷ road.end ∷ road.limit ∷ cycle ∷ []) (take count (records_in l)) ≡ state_of l
holds_it l in_force next road cycle count figures tables few records =
    let many : length (take count (records_in l)) ≡ count = length-take-le count (records_in l) (omega arith) in
    ap
    (λ (n : ℕ). record {
      started = true;
      road = road;
      tables = record { in_force = in_force; next = next };
      cycle = cycle;
      count = n;
      carriers = take count (records_in l);
    })
    many
    ∙ ap (λ (t : Tables). state_with (record { started = true; road = road; cycle = cycle; count = count }) t (records_in l)) (sym tables)
    ∙ ap (λ (f : Figures). state_with f (tables_in l) (records_in l)) (sym figures)

-- ---- a text as it is put

-- its four parts, as long as they are
pub handover_length : (s : State)
    → length (handover_text s) ≡ length (table_text s.tables.in_force) + length (table_text s.tables.next) + length (road_text s) + length (lane_text s)
unfolding handover_text
handover_length s =
    let road = road_text s in
    let next = table_text s.tables.next in
    let lane = lane_text s in
    omega (arith, length-append (table_text s.tables.in_force) (next ++ (road ++ lane)), length-append next (road ++ lane), length-append road lane)

-- one after the other they are the text
pub parts_put : (s : State) (buffer : List ℕ) {p q r end : ℕ} {out₁ out₂ out₃ out : List ℕ} → length (handover_text s) ≤ length buffer
    → (out₁ ≡ written 0 (table_text s.tables.in_force) buffer) × (p ≡ 0 + length (table_text s.tables.in_force))
    → (out₂ ≡ written p (table_text s.tables.next) out₁) × (q ≡ p + length (table_text s.tables.next))
    → (out₃ ≡ written q (road_text s) out₂) × (r ≡ q + length (road_text s))
    → (out ≡ written r (lane_text s) out₃) × (end ≡ r + length (lane_text s))
    → (out ≡ written 0 (handover_text s) buffer) × (end ≡ length (handover_text s))
unfolding handover_text
parts_put s buffer room w x y z =
    let lane = lane_text s in
    let rows = putting_next (putting_start (handover_text s) 0 buffer (omega arith)) (table_text s.tables.in_force) _ refl w.0 w.1 in
    let next = putting_next rows (table_text s.tables.next) _ refl x.0 x.1 in
    let road = putting_next next (road_text s) lane refl y.0 y.1 in
    let end = putting_end (putting_next road lane [] (sym (append-nil lane)) z.0 z.1) refl in
    (end.0, omega (arith, end.1))

-- ---- what decides a reading

module _ (text : List ℕ) where
  -- a text that holds no lane
  pub reads_none : handover_in text ≡ missing → take_over_no text ≡ 36
  unfolding take_over_no held_no
  reads_none e = rw e refl

  -- one that does
  module _ (s : State) (e : handover_in text ≡ got s []) where
    pub reads_one : take_over_no text ≡ lane_no s
    unfolding take_over_no held_no
    reads_one = rw e refl

    pub one_taken : lane_no s ≡ 0 → taken_over text ≡ s
    unfolding taken_over held
    one_taken z = rw (eq-eqb (take_over_no text) 0 (reads_one ∙ z), e) refl

  -- a refused one gives the empty lane
  pub none_taken : ¬ (take_over_no text ≡ 0) → taken_over text ≡ state_of empty_words
  unfolding taken_over
  none_taken h = rw (ne_eqb (take_over_no text) 0 h) refl

pub taken : (text : List ℕ) (s : State) (l : Words) → handover_in text ≡ got s [] → lane_no s ≡ 0 → state_of l ≡ s → TakesOver text 0 l
taken text s l e z same =
    record { number_is = sym (reads_one text s e ∙ z); state = same ∙ sym (one_taken text s e z); refused = λ h. absurd (omega arith) }

pub refused : (text : List ℕ) (number : ℕ) (l : Words) → number ≡ take_over_no text → ¬ (number ≡ 0) → l ≡ empty_words → TakesOver text number l
refused text number l e h empty =
    record { number_is = e; state = ap state_of empty ∙ sym (none_taken text (λ z. h (e ∙ z))); refused = λ p. empty }
