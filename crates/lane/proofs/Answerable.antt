-- Every call has an answer on every lane, and a lane to leave: no contract of a call is empty, so that no list of calls is without a history.
use mathlib.Core.Path.{◌≡◌, refl, sym, ap, ◌∙◌}
use mathlib.Core.Bool.{Bool, true, false, cond}
use mathlib.Core.List.{List, []}
use Prim.Native.Nat.{ℕ, ◌≤◌}
use native.Mathlib.Omega.{arith}
use lib.Dec.{ltb}
use lib.Ieee.Exact.{HasValue}
use lib.ListN.{length}
use Rattle.std.specs.Prelude.{Option, None, Some, Result, Ok, Err}
use Rattle.wish.specs.declared.Reading.{Reading}
use Rattle.wish.specs.declared.Wish.{Wish}
use Rattle.wish.proofs.Laws.{reading_exact}
use Rattle.lane.specs.declared.Carrier.{Carrier}
use Rattle.lane.specs.declared.Cycled.{Cycled}
use Rattle.lane.specs.declared.Opening.{Opening}
use Rattle.lane.specs.declared.refusal.Refusal.{Refusal}
use Rattle.lane.specs.Refusals.{number_of, outcome_no}
use Rattle.lane.specs.Limits.{most_carriers, positions}
use Rattle.lane.specs.State.{State}
use Rattle.lane.specs.Layout.{Words, state_of}
use Rattle.lane.specs.Calls.{none, walk, enter_no, named_no, named_carrier, named_reading, cycle_no, cycle_word, cycle_replaced, cycle_gone}
use Rattle.lane.specs.Opening.{gap_place, opens, nowhere, lowest_below, highest_below, span_of, opening_in}
use Rattle.lane.specs.Listing.{lane_text, text_bytes}
use Rattle.lane.specs.Handover.{handover_text, handover_bytes}
use Rattle.lane.specs.Call.{Call, start_call, load_call, enter_call, leave_call, surface_call, cycle_call, read_call, opening_call, text_call, handover_call, Answer, bare, spanned, told, call_no, lent_to, accepted_answer, call_answer, entered, cycled, read_out, span_in, opening, listed}
use Rattle.lane.proofs.checks.Soundness.{fit_at, fit_narrow}
use Rattle.lane.proofs.calls.Answers.{accepted_answers, refused_answers, answer_number, counted_most, enter_tells, walk_le, named_tells, ready_tells, cycle_tells}
use Rattle.lane.proofs.calls.Coded.{Coded, coded}
use Rattle.lane.proofs.Refused.{number_is}
pub use Rattle.lane.proofs.calls.Left.{gives_some, surface_words_is}

-- an answer in the form in which the call's function returns it
abbrev pub Returned : Call → Answer → Type 0
Returned (start_call road first) a = (r : Result (Unit {0}) Refusal) × (a ≡ bare (outcome_no r) [])
Returned (load_call text) a = (r : Result (Unit {0}) Refusal) × (a ≡ bare (outcome_no r) [])
Returned (enter_call c) a = (r : Result ℕ Refusal) × (a ≡ entered r)
Returned (leave_call number) a = (r : Result (Unit {0}) Refusal) × (a ≡ bare (outcome_no r) [])
Returned (surface_call code) a = (r : Result (Unit {0}) Refusal) × (a ≡ bare (outcome_no r) [])
Returned (cycle_call count ws) a = (r : Result Cycled Refusal) × (a ≡ cycled r)
Returned (read_call number) a = (r : Result Reading Refusal) × (a ≡ read_out r)
Returned (opening_call g n) a = (r : Result (Option Opening) Refusal) × (a ≡ opening r)
Returned (text_call buffer) a = (r : Result ℕ Refusal) × (a ≡ listed r a.bytes)
Returned (handover_call buffer) a = (r : Result ℕ Refusal) × (a ≡ listed r a.bytes)

-- the call's value where it is accepted, else its refusal
returned_as : {A : Type 0} (x : Call) (s : State) (form : Result A Refusal → Answer) (value : A) → accepted_answer x s ≡ form (Ok value)
    → ((refusal : Refusal) → bare (number_of refusal) (lent_to x) ≡ form (Err refusal)) → (r : Result A Refusal) × (call_answer x s ≡ form r)
returned_as {A} x s form value p q = by_outcome (coded x s)
  where
    by_outcome : Coded (call_no x s) → (r : Result A Refusal) × (call_answer x s ≡ form r)
    by_outcome (Ok done, e) = (Ok value, accepted_answers x s (sym e) ∙ p)
    by_outcome (Err refusal, e) =
        (Err refusal, refused_answers x s (λ z. number_is refusal (e ∙ z)) ∙ ap (λ (n : ℕ). bare n (lent_to x)) (sym e) ∙ q refusal)

-- of a text that is written, with the bytes of the buffer after it
abbrev put : (before after : List ℕ) → Result ℕ Refusal → Answer
put before after (Ok long) = told 0 long after
put before after (Err refusal) = bare (number_of refusal) before

written_as : (before after : List ℕ) (a : Answer) (r : Result ℕ Refusal) → a ≡ put before after r → a ≡ listed r a.bytes
written_as before after a (Ok long) e = rw e refl
written_as before after a (Err refusal) e = rw e refl

-- the opening of a span
span_back : (test : ℕ → Bool) → (found : Option Opening) × (span_in found ≡ span_of test)
unfolding span_of
span_back test = by_test (ltb (lowest_below positions test) positions)
  where
    by_test : (t : Bool) → (found : Option Opening) × (span_in found ≡ cond t (record { exists = true; lowest = lowest_below positions test; highest = highest_below positions test }) nowhere)
    by_test true = (Some (record { lowest = lowest_below positions test; highest = highest_below positions test }), refl)
    by_test false = (None, refl)

pub returned : (x : Call) (s : State) → Returned x (call_answer x s)
unfolding opening_in
returned (start_call road first) s =
    returned_as (start_call road first) s (λ r. bare (outcome_no r) []) tt refl (λ refusal. refl)
returned (load_call text) s = returned_as (load_call text) s (λ r. bare (outcome_no r) []) tt refl (λ refusal. refl)
returned (enter_call c) s =
    returned_as (enter_call c) s entered (walk c.position s.carriers) refl (λ refusal. refl)
returned (leave_call number) s = returned_as (leave_call number) s (λ r. bare (outcome_no r) []) tt refl (λ refusal. refl)
returned (surface_call code) s = returned_as (surface_call code) s (λ r. bare (outcome_no r) []) tt refl (λ refusal. refl)
returned (cycle_call count ws) s =
    returned_as (cycle_call count ws) s cycled (record { word = cycle_word s ws; replaced = cycle_replaced s ws; gone = cycle_gone s ws }) refl (λ refusal. refl)
returned (read_call number) s =
    returned_as (read_call number) s read_out (named_reading s number) refl (λ refusal. refl)
returned (opening_call g n) s =
    let found = span_back (opens s (gap_place g s.carriers) n) in
    returned_as (opening_call g n) s opening found.0 (ap (spanned 0) (sym found.1)) (λ refusal. refl)
returned (text_call buffer) s =
    let x = text_call buffer in
    let r = returned_as x s (put buffer (text_bytes s buffer)) (length (lane_text s)) refl (λ refusal. refl) in
    (r.0, written_as buffer (text_bytes s buffer) (call_answer x s) r.0 r.1)
returned (handover_call buffer) s =
    let x = handover_call buffer in
    let r = returned_as x s (put buffer (handover_bytes s buffer)) (length (handover_text s)) refl (λ refusal. refl) in
    (r.0, written_as buffer (handover_bytes s buffer) (call_answer x s) r.0 r.1)

-- the place of an entry and the number gone in a cycle are at most 64
pub place_small : (l : Words) (c : Carrier) → enter_no (state_of l) c ≡ 0 → (call_answer (enter_call c) (state_of l)).place ≤ most_carriers
place_small l c z =
    let s = state_of l in
    rw (ap (λ (a : Answer). a.place) (accepted_answers (enter_call c) s z))
    (omega (arith, walk_le c.position s.carriers, counted_most l, (enter_tells s c z).sound.count))

pub gone_small : (s : State) (count : ℕ) (ws : List Wish) → cycle_no s count ws ≡ 0 → (call_answer (cycle_call count ws) s).gone ≤ most_carriers
unfolding cycle_gone
gone_small s count ws z =
    rw (ap (λ (a : Answer). a.gone) (accepted_answers (cycle_call count ws) s z))
    (omega (arith, (ready_tells s count (cycle_tells s count ws z).0).sound.count))

-- a reading that is answered is exact
pub read_exact : (s : State) (number : ℕ) → (call_answer (read_call number) s).number ≡ 0
    → HasValue (call_answer (read_call number) s).reading.position false (named_carrier s number).position 2048
    × HasValue (call_answer (read_call number) s).reading.speed false (named_carrier s number).speed 128
read_exact s number e =
    let x = read_call number in
    let z : named_no s number ≡ 0 = sym (answer_number x s) ∙ e in
    let told = named_tells s number z in
    let narrow = fit_narrow s.road (named_carrier s number) told.sound.road (fit_at s.road s.carriers _ none told.sound.carriers told.within) in
    rw (ap (λ (a : Answer). a.reading) (accepted_answers x s z))
    (reading_exact (named_carrier s number).position (named_carrier s number).speed (omega (arith, narrow.position)) (omega (arith, narrow.speed)))
