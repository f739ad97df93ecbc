-- The handover: one lane has one text, which is read back as the lane, and the reader takes no other text; how it is written, and how long it is.
use mathlib.Core.Path.{◌≡◌, refl, sym, ap, ap₂, subst, ◌∙◌}
use mathlib.Core.Bool.{Bool, true, false, cond}
use mathlib.Core.List.{List, [], ◌∷◌, ◌++◌, append_assoc, append-nil}
use mathlib.Core.Logic.{◌⊎◌, inl, inr}
use Prim.Native.Nat.{ℕ, ◌≤◌}
use native.Mathlib.Omega.{arith}
use borrow.Author.Tests.{eqb-true, eqb-false}
use lib.Dec.{eqb, ltb}
use lib.ListN.{length, get_or, drop, length-append}
use Rattle.text.specs.Ascii.{ascii}
use Rattle.text.specs.Numbers.{decimal}
use Rattle.text.specs.Lines.{line}
use Rattle.text.specs.Groups.{group_text, Got, got, missing, group_in}
use Rattle.text.proofs.Laws.{decimal_at_most, length_line}
use Rattle.text.proofs.GroupLaws.{Held, group_again, got_injective, got≢missing, group_taken, whole_taken}
use Rattle.lane.specs.declared.Carrier.{Carrier}
use Rattle.lane.specs.declared.Road.{Road}
use Rattle.lane.specs.declared.Row.{Row}
use Rattle.lane.specs.Limits.{last_cycle, longest_handover}
use Rattle.lane.specs.State.{State}
use Rattle.lane.specs.Layout.{Words, state_of, empty_words}
use Rattle.lane.specs.Rules.{broken, lane_no}
use Rattle.lane.specs.Table.{RowFits, row_text, table_text, rows_in}
use Rattle.lane.specs.Calls.{none}
use Rattle.lane.specs.Listing.{FitsLines, carrier_text, carriers_text, lane_text, lane_text_in}
use Rattle.lane.specs.Handover.{road_keys, road_numbers, road_text, handover_text, handed, handover_in, take_over_no, taken_over, TakesOver, InForm, handover_no, handover_bytes}
use Rattle.lane.specs.Call.{handover_call, bare, told, call_no, call_answer, Kept}
use Rattle.lane.proofs.checks.Surfaces.{SoundRow, sound_at}
use Rattle.lane.proofs.checks.Records.{words_for, words_for_is, table_eight}
use Rattle.lane.proofs.checks.Soundness.{SoundRoad, Fit, sound, fit_at, lane_no_zero}
use Rattle.lane.proofs.checks.TableTexts.{rows_again, rows_taken, table_length}
use Rattle.lane.proofs.calls.Answers.{refused_answers, accepted_answers}
use Rattle.lane.proofs.calls.Texts.{text_most}
use Rattle.lane.proofs.calls.Read.{lane_again, then_taken, lane_taken}
use Rattle.lane.proofs.calls.Handing.{reads_none, reads_one, one_taken, handover_length, refused}

-- ---- one text of one lane

-- the text of each is read as that lane
pub form_read : (s : State) → InForm s → handover_in (handover_text s) ≡ got s []
unfolding handover_text handover_in
form_read s f =
    let same : handed s.tables.in_force s.tables.next (road_numbers s) s.carriers ≡ s = rw (sym f.started, sym f.counted) refl in
    let lane = rw (append-nil (lane_text s)) at (lane_again s.carriers [] s f.counted refl f.few f.carriers) in
    rw (
      rows_again s.tables.in_force (table_text s.tables.next ++ (road_text s ++ lane_text s)) f.in_force_is f.in_force_fits,
      rows_again s.tables.next (road_text s ++ lane_text s) f.next f.next_fits,
      group_again road_keys (road_numbers s) (lane_text s) refl (f.surface, (f.end, (f.limit, (f.cycle, tt)))),
      lane,
    )
    (ap (λ (t : State). got t []) same)

-- the numbers of the road's lines
road_of : (ns : List ℕ) → Held road_keys ns → (s : State) → s.road.surface ≡ get_or ns 0 0 → s.road.end ≡ get_or ns 1 0 → s.road.limit ≡ get_or ns 2 0
    → s.cycle ≡ get_or ns 3 0
    → (ns ≡ road_numbers s) × (s.road.surface ≤ 4294967295) × (s.road.end ≤ 4294967295) × (s.road.limit ≤ 4294967295) × (s.cycle ≤ 18446744073709551615)
road_of [] h = absurd h
road_of (a ∷ []) h = absurd h.1
road_of (a ∷ b ∷ []) h = absurd h.1.1
road_of (a ∷ b ∷ c ∷ []) h = absurd h.1.1.1
road_of (a ∷ b ∷ c ∷ d ∷ []) h = λ s e f g k. rw (e, f, g, k) (refl, h.0, h.1.0, h.1.1.0, h.1.1.1.0)
road_of (a ∷ b ∷ c ∷ d ∷ e ∷ ns) h = absurd h.1.1.1.1

-- and whatever the reader takes is the text of the lane that it takes it for
pub form_taken : (text : List ℕ) (s : State) (rest : List ℕ) → handover_in text ≡ got s rest → InForm s × (text ≡ handover_text s)
unfolding handover_in handover_text
form_taken text s rest e =
    let a = then_taken (rows_in text) _ s [] (whole_taken _ s rest e).0 in
    let b = then_taken (rows_in a.1.0) _ s [] a.1.1.1 in
    let c = then_taken (group_in road_keys b.1.0) _ s [] b.1.1.1 in
    let d = then_taken (lane_text_in c.1.0) _ s [] c.1.1.1 in
    let last = got_injective d.1.1.1 in
    let rows = rows_taken text a.0 a.1.0 a.1.1.0 in
    let later = rows_taken a.1.0 b.0 b.1.0 b.1.1.0 in
    let lines = group_taken road_keys b.1.0 c.0 c.1.0 c.1.1.0 in
    let lane = lane_taken c.1.0 d.0 d.1.0 d.1.1.0 in
    let t = handed a.0 b.0 c.0 d.0 in
    let road = road_of c.0 lines.1 t refl refl refl refl in
    let same : text ≡ handover_text t =
    rows.0 ∙ ap (λ (u : List ℕ). table_text a.0 ++ u)
    (later.0 ∙ ap (λ (u : List ℕ). table_text b.0 ++ u)
    (lines.0 ∙ ap₂ (λ (ns u : List ℕ). group_text road_keys ns ++ u) road.0
    (lane.2 t refl refl ∙ ap (λ (u : List ℕ). lane_text t ++ u) last.1 ∙ append-nil (lane_text t))))
    in
    subst (λ (s : State). InForm s × (text ≡ handover_text s)) last.0 (
      record {
        started = refl;
        counted = refl;
        few = lane.0;
        in_force_is = rows.1;
        in_force_fits = rows.2;
        next = later.1;
        next_fits = later.2;
        surface = road.1;
        end = road.2;
        limit = road.3;
        cycle = road.4;
        carriers = lane.1;
      },
      same,
    )

-- a lane that breaks no rule is of that form, where it counts its carriers, has eight rows in each table and a cycle number of 64 bits
pub unbroken_form : (s : State) → broken s ≡ false → s.count ≡ length s.carriers → length s.tables.in_force ≡ 8 → length s.tables.next ≡ 8
    → s.cycle ≤ last_cycle → InForm s
unbroken_form s b counted in_force next cycle =
    let h = sound s b in
    record {
      started = h.started;
      counted = counted;
      few = omega (arith, h.count, counted);
      in_force_is = in_force;
      in_force_fits = λ i p. row_fits (sound_at s.tables.in_force i (omega arith) h.in_force_is);
      next = next;
      next_fits = λ i p. row_fits (sound_at s.tables.next i (omega arith) h.next);
      surface = omega (arith, h.road.surface);
      end = omega (arith, h.road.end_most);
      limit = omega (arith, h.road.limit_most);
      cycle = cycle;
      carriers = λ i p. carrier_fits s.road h.road (fit_at s.road s.carriers i none h.carriers p);
    }
  where
    row_fits : {r : Row} → SoundRow r → RowFits r
    row_fits h = (omega (arith, h.brakes_harder, h.hardest_most), omega (arith, h.hardest_most), omega (arith, h.gains_most))

    carrier_fits : {c : Carrier} (road : Road) → SoundRoad road → Fit road c → FitsLines c
    carrier_fits road r h =
        record { number = h.number_most_is; position = omega arith; speed = omega arith; long = omega arith; rate = omega arith }

-- a text that is read, by the lane that it holds or that it holds none
by_reading : {A : Type 0} (text : List ℕ) → (handover_in text ≡ missing → A)
    → ((s : State) → InForm s → text ≡ handover_text s → take_over_no text ≡ lane_no s → (lane_no s ≡ 0 → taken_over text ≡ s) → A) → A
by_reading {A} text none one = by_got (handover_in text) refl
  where
    by_got : (x : Got State) → handover_in text ≡ x → A
    by_got (got s rest) e =
        let f = form_taken text s rest e in
        let read = ap handover_in f.1 ∙ form_read s f.0 in
        one s f.0 f.1 (reads_one text s read) (one_taken text s read)
    by_got missing e = none e

-- an accepted one
by_accepted : {A : Type 0} (text : List ℕ) → take_over_no text ≡ 0
    → ((s : State) → InForm s → text ≡ handover_text s → broken s ≡ false → taken_over text ≡ s → A) → A
by_accepted text z one =
    by_reading text (λ e. absurd (omega (arith, z, reads_none text e))) λ s f same no lane.
    let zero = sym no ∙ z in
    one s f same ((lane_no_zero s).0 zero) (lane zero)

-- "A lane that is read back equals the one written in all that the text names."
pub read_back : (l : Words) → broken (state_of l) ≡ false → (state_of l).count ≡ length (state_of l).carriers → (state_of l).cycle ≤ last_cycle
    → (take_over_no (handover_text (state_of l)) ≡ 0) × (taken_over (handover_text (state_of l)) ≡ state_of l)
read_back l b counted cycle =
    let s = state_of l in
    let read = form_read s (unbroken_form s b counted (table_eight 1 l) (table_eight 9 l) cycle) in
    let zero = (lane_no_zero s).1 b in
    (reads_one (handover_text s) s read ∙ zero, one_taken (handover_text s) s read zero)

-- "One lane has one text, and the reader takes only that text."
pub written_again : (text : List ℕ) → take_over_no text ≡ 0 → (handover_text (taken_over text) ≡ text) × Kept (taken_over text)
written_again text z =
    by_accepted text z λ s f same b lane.
    (ap handover_text lane ∙ sym same, subst Kept (sym lane) (record { unbroken = b; counted = f.counted }))

-- its lines hold the lane that it is taken for
pub accepted_form : (text : List ℕ) → take_over_no text ≡ 0 → InForm (taken_over text)
accepted_form text z = by_accepted text z λ s f same b lane. subst InForm (sym lane) f

-- what a reading leaves: a lane that breaks no rule; and "a refused reading gives an empty lane, never started, with the house rows"
pub taken_lane : (text : List ℕ) (number : ℕ) (l : Words) → TakesOver text number l
    → (number ≡ 0 → Kept (state_of l)) × (¬ (number ≡ 0) → l ≡ empty_words)
taken_lane text number l t = (
  λ z. subst Kept (sym t.state) (written_again text (sym t.number_is ∙ z)).1,
  λ h. t.refused (omega arith),
)

-- and every text has a reading
pub takes_some : (text : List ℕ) → (l : Words) × TakesOver text (take_over_no text) l
takes_some text = by_test (eqb (take_over_no text) 0) refl
  where
    by_test : (t : Bool) → eqb (take_over_no text) 0 ≡ t → (l : Words) × TakesOver text (take_over_no text) l
    by_test true e =
        let z = eqb-true (take_over_no text) 0 e in
        by_accepted text z λ s f same b lane. (
          words_for s,
          record {
            number_is = refl;
            state = words_for_is s (record { counted = f.counted; in_force_is = f.in_force_is; next = f.next }) ∙ sym lane;
            refused = λ h. absurd (omega (arith, z));
          },
        )
    by_test false e = (empty_words, refused text (take_over_no text) empty_words refl (eqb-false (take_over_no text) 0 e) refl)

-- ---- which of these a text has

-- for every text: that of one lane, whose number is answered; or of none, and 36
pub one_or_none : (text : List ℕ)
    → ((s : State) × InForm s × (text ≡ handover_text s) × (take_over_no text ≡ lane_no s))
    ⊎ (((s : State) → InForm s → ¬ (text ≡ handover_text s)) × (take_over_no text ≡ 36))
one_or_none text =
    by_reading text (λ e. inr (λ s f same. got≢missing (sym (form_read s f) ∙ ap handover_in (sym same) ∙ e), reads_none text e)) λ s f same no lane.
    inl (s, f, same, no)

pub one_lane : (s t : State) → InForm s → InForm t → handover_text s ≡ handover_text t → s ≡ t
one_lane s t f g same = (got_injective (sym (form_read s f) ∙ ap handover_in same ∙ form_read t g)).0

pub one_text : (text other : List ℕ) → take_over_no text ≡ 0 → take_over_no other ≡ 0 → taken_over text ≡ taken_over other → text ≡ other
one_text text other y z same = sym (written_again text y).0 ∙ ap handover_text same ∙ (written_again other z).0

-- ---- as it is written

-- "the eight rows in force and those for the next start, each as table text, then `surface`, `end`, `limit`, `cycle`, then the lane text."
pub handover_lines : (s : State) → handover_text s
    ≡ table_text s.tables.in_force
    ++ (table_text s.tables.next
    ++ (line (ascii "surface=") (decimal s.road.surface)
    ++ (line (ascii "end=") (decimal s.road.end)
    ++ (line (ascii "limit=") (decimal s.road.limit) ++ (line (ascii "cycle=") (decimal s.cycle) ++ lane_text s)))))
unfolding handover_text
handover_lines s = rw (append_assoc, append_assoc, append_assoc, append_assoc) refl

-- "given as text of 24 lines `b=`, `B=`, `A=` row by row": those of a row
pub row_lines : (r : Row) → row_text r
    ≡ line (ascii "b=") (decimal r.guaranteed) ++ (line (ascii "B=") (decimal r.hardest) ++ line (ascii "A=") (decimal r.most))
unfolding row_text
row_lines r = rw append-nil refl

-- "row by row", code after code
pub row_by_row : (r : Row) (rs : List Row) → (table_text [] ≡ []) × (table_text (r ∷ rs) ≡ row_text r ++ table_text rs)
unfolding table_text
row_by_row r rs = (refl, refl)

-- the lane text: "what `show` prints from `cars=` on", the carriers "front to back"
pub lane_lines : (s : State) → lane_text s ≡ line (ascii "cars=") (decimal s.count) ++ carriers_text s.carriers
unfolding lane_text
lane_lines s = refl

pub front_to_back : (c : Carrier) (cs : List Carrier) → (carriers_text [] ≡ []) × (carriers_text (c ∷ cs) ≡ carrier_text c ++ carriers_text cs)
unfolding carriers_text
front_to_back c cs = (refl, refl)

-- no text of a lane that breaks no rule, with a cycle number of 64 bits, is longer than the longest
pub handover_most : (l : Words) → broken (state_of l) ≡ false → (state_of l).cycle ≤ last_cycle → length (handover_text (state_of l)) ≤ longest_handover
handover_most l b cycle =
    let s = state_of l in
    let h = sound s b in
    omega (
      arith,
      handover_length s,
      table_length s.tables.in_force (table_eight 1 l) h.in_force_is,
      table_length s.tables.next (table_eight 9 l) h.next,
      road_length s h.road cycle,
      text_most l b,
    )
  where
    -- lines of 10, 15, 11 and 27 bytes
    road_length : (s : State) → SoundRoad s.road → s.cycle ≤ last_cycle → length (road_text s) ≤ 63
    road_length s r cycle =
        let surface = decimal_at_most 1 s.road.surface (omega arith) (omega (arith, r.surface)) in
        let end = decimal_at_most 10 s.road.end (omega arith) (omega (arith, r.end_most)) in
        let limit = decimal_at_most 4 s.road.limit (omega arith) (omega (arith, r.limit_most)) in
        let many = decimal_at_most 20 s.cycle (omega arith) (omega arith) in
        simp (length-append, length_line) (omega arith)

-- "Checks and buffer of writing are those of the lane text": "21, 9"
module _ (s : State) (buffer : List ℕ) where
  pub handover_in_order : call_no (handover_call buffer) s ≡ cond (broken s) 21 (cond (ltb (length buffer) (length (handover_text s))) 9 0)
  unfolding handover_no
  handover_in_order = refl

  -- "bytes of the buffer after the text don't change."
  pub handover_answers : call_no (handover_call buffer) s ≡ 0
      → call_answer (handover_call buffer) s ≡ told 0 (length (handover_text s)) (handover_text s ++ drop (length (handover_text s)) buffer)
  unfolding handover_bytes
  handover_answers e = accepted_answers (handover_call buffer) s e

  pub handover_refused : ¬ (call_no (handover_call buffer) s ≡ 0) → call_answer (handover_call buffer) s ≡ bare (call_no (handover_call buffer) s) buffer
  handover_refused h = refused_answers (handover_call buffer) s h
