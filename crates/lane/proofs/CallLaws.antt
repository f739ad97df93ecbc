-- What a call does, for the crates above, which leave the calls' definitions shut: laws of every call, and what an accepted one does.
use mathlib.Core.Path.{◌≡◌, refl, sym, ap, ◌∙◌, subst}
use mathlib.Core.Bool.{Bool, true, false, not, ◌&&◌, cond, true≢false, and-eq-true_iff}
use mathlib.Core.List.{List, [], ◌∷◌}
use Prim.Native.Nat.{ℕ, suc, ◌+◌, ◌<◌}
use native.Mathlib.Omega.{arith}
use borrow.Author.Tests.{ltb-true, ltb-false}
use lib.Dec.{eqb, leb, ltb}
use lib.ListN.{length, get_or, take}
use Rattle.wish.specs.declared.Wish.{Wish}
use Rattle.lane.specs.declared.Carrier.{Carrier}
use Rattle.lane.specs.declared.Gap.{Gap}
use Rattle.lane.specs.declared.Gap.TheVariants.{Behind, AheadOfAll}
use Rattle.lane.specs.declared.Newcomer.{Newcomer}
use Rattle.lane.specs.declared.Road.{Road}
use Rattle.lane.specs.declared.Row.{Row}
use Rattle.lane.specs.Limits.{farthest_end, fastest, last_cycle}
use Rattle.lane.specs.Surface.{house_rows, row_of, sound_row, unsound_below, unsound, row_in}
use Rattle.lane.specs.Layout.{table_from, state_of, empty_words}
use Rattle.lane.specs.State.{State}
use Rattle.lane.specs.Safety.{leader, safe_with, lane_safe, any_of, first_place, numbered}
use Rattle.lane.specs.Rules.{outside_of, bad_number, too_fast, too_long, bad_rate, road_no, values_no, newcomer_no, broken}
use Rattle.lane.specs.Wishes.{any_outside}
use Rattle.lane.specs.Table.{table_in, bad_table, rows_loaded, load_no, loaded_state}
use Rattle.lane.specs.Calls.{none, with_carriers, start_no, begun_state, ahead_of, walk, gap_no, place_no, enter_no, insert_at, entered_state, named_no, place_of, remove_at, left_state, ready_no, cycle_no, surface_no, surfaced_state}
use Rattle.lane.specs.Opening.{newcomer_at, gap_named_no, opening_no}
use Rattle.lane.specs.Listing.{lane_text, written_no, text_no}
use Rattle.lane.specs.Handover.{handover_text, handover_no}
use Rattle.lane.specs.Call.{Call, start_call, load_call, enter_call, leave_call, surface_call, cycle_call, read_call, opening_call, text_call, handover_call, Meaning, meaning, call_no, accepted_state, call_state, Kept}
use Rattle.lane.proofs.lists.Passed.{both}
use Rattle.lane.proofs.calls.Answers.{accepted_changes, accepted_sound, load_tells, opening_tells}
use Rattle.lane.proofs.checks.Records.{code_by_code}
use Rattle.lane.proofs.checks.Soundness.{Sound, sound, sound_holds}
use Rattle.lane.proofs.calls.Order.{lane_order}
use Rattle.lane.proofs.calls.Keeps.{start_keeps, load_keeps, enter_keeps, leave_keeps, surface_keeps, cycle_keeps}
-- "Read, lane text and every refused call: nothing changes."; what number is answered
pub use Rattle.lane.proofs.calls.Answers.{refused_changes_nothing, answer_number}

-- ---- of every call

-- a number that a call may give: of two digits at most, and 21 only on a state that breaks a rule
abbrev lawful_no : (breaks : Bool) → ℕ → Bool
lawful_no breaks n = not (eqb n 21 && not breaks) && ltb n 100

-- one of two, a check of the state and the later ones, a check and the later ones, the last check
one_of : (breaks t : Bool) (a b : ℕ) → lawful_no breaks a ≡ true → lawful_no breaks b ≡ true → lawful_no breaks (cond t a b) ≡ true
one_of breaks true a b p q = p
one_of breaks false a b p q = q

state_check : (breaks : Bool) (later : ℕ) → lawful_no breaks later ≡ true → lawful_no breaks (cond breaks 21 later) ≡ true
state_check true later p = refl
state_check false later p = p

last_check : (breaks t : Bool) (number : ℕ) → lawful_no breaks number ≡ true → lawful_no breaks (cond t number 0) ≡ true
last_check breaks t number p = one_of breaks t number 0 p refl

named_check : (s : State) (number : ℕ) → lawful_no (broken s) (named_no s number) ≡ true
unfolding named_no
named_check s number =
    let b = broken s in
    state_check b _ (one_of b (bad_number number) 4 _ refl (one_of b (any_of (numbered number) s.carriers) 0 24 refl refl))

road_check : (breaks : Bool) (road : Road) → lawful_no breaks (road_no road) ≡ true
unfolding road_no
road_check b road =
    one_of b (ltb 7 road.surface) 1 _ refl
    (one_of b (outside_of 1 farthest_end road.end) 2 _ refl (last_check b (outside_of 1 fastest road.limit) 3 refl))

-- a state with an unsound row for the next start breaks a rule
next_broken : (s : State) → unsound s.tables.next ≡ true → broken s ≡ true
next_broken s e = by_test (broken s) refl
  where
    by_test : (t : Bool) → broken s ≡ t → t ≡ true
    by_test true f = refl
    by_test false f = absurd (true≢false (sym e ∙ (sound s f).next))

start_check : (s : State) (road : Road) → lawful_no (broken s) (start_no s road) ≡ true
unfolding start_no
start_check s road = by_test (unsound s.tables.next) refl
  where
    by_test : (t : Bool) → unsound s.tables.next ≡ t → lawful_no (broken s) (cond t 21 (road_no road)) ≡ true
    by_test true e = rw (next_broken s e) refl
    by_test false e = road_check (broken s) road

load_check : (s : State) (text : List ℕ) → lawful_no (broken s) (load_no s text) ≡ true
unfolding load_no
load_check s text = by_test (s.started && broken s) refl
  where
    by_test : (t : Bool) → s.started && broken s ≡ t
        → lawful_no (broken s) (cond t 21 (cond (bad_table (table_in text)) 31 (cond (s.started && ltb 0 s.count) 32 0))) ≡ true
    by_test true e = rw (both s.started (broken s) e).1 refl
    by_test false e = one_of (broken s) (bad_table (table_in text)) 31 _ refl (last_check (broken s) (s.started && ltb 0 s.count) 32 refl)

values_check : (b : Bool) (road : Road) (c : Carrier) → lawful_no b (values_no road c) ≡ true
values_check b road c = one_of b (too_fast road c) 6 _ refl (one_of b (too_long c) 33 _ refl (last_check b (bad_rate c.rate) 35 refl))

enter_check : (s : State) (c : Carrier) → lawful_no (broken s) (enter_no s c) ≡ true
unfolding enter_no newcomer_no place_no gap_no
enter_check s c =
    let b = broken s in
    let r = row_in s.tables s.road in
    let place = walk c.position s.carriers in
    state_check b _
    (one_of b (eqb (newcomer_no s.road c) 0) _ _
    (one_of b (eqb s.count 64) 22 _ refl
    (one_of b (any_of (numbered c.number) s.carriers) 23 _ refl
    (one_of b (not (safe_with r (ahead_of place s.carriers) c)) 25 _ refl
    (last_check b (ltb place (length s.carriers) && not (safe_with r (leader c) (get_or s.carriers place none))) 26 refl))))
    (one_of b (bad_number c.number) 4 _ refl
    (one_of b (leb s.road.end c.position) 5 _ refl (values_check b s.road c))))

surface_check : (s : State) (code : ℕ) → lawful_no (broken s) (surface_no s code) ≡ true
unfolding surface_no
surface_check s code =
    let b = broken s in
    state_check b _ (one_of b (ltb 7 code) 1 _ refl (one_of b (lane_safe (row_of s.tables.in_force code) s.carriers) 0 34 refl refl))

cycle_check : (s : State) (count : ℕ) (ws : List Wish) → lawful_no (broken s) (cycle_no s count ws) ≡ true
unfolding ready_no cycle_no
cycle_check s count ws =
    let b = broken s in
    one_of b (eqb (ready_no s count) 0) _ _ (last_check b (any_outside s.carriers (take s.count ws)) 7 refl)
    (state_check b _ (one_of b (not (eqb count s.count)) 27 _ refl (last_check b (eqb s.cycle last_cycle) 28 refl)))

written_check : (s : State) (text buffer : List ℕ) → lawful_no (broken s) (written_no s text buffer) ≡ true
written_check s text buffer = let b = broken s in state_check b _ (last_check b (ltb (length buffer) (length text)) 9 refl)

gap_check : (s : State) (g : Gap) → lawful_no (broken s) (gap_named_no s g) ≡ true
unfolding gap_named_no
gap_check s (Behind number) = named_check s number
gap_check s AheadOfAll = state_check (broken s) 0 refl

opening_check : (s : State) (g : Gap) (n : Newcomer) → lawful_no (broken s) (opening_no s g n) ≡ true
unfolding opening_no
opening_check s g n = one_of (broken s) (eqb (gap_named_no s g) 0) _ _ (values_check (broken s) s.road (newcomer_at n 0)) (gap_check s g)

-- what an accepted call leaves: a state that breaks no rule, or that of a lane never started, with the carriers that it had
pub data Outcome (s t : State) : Type 0 where
  kept : Kept t → Outcome s t
  never_started_is : s.started ≡ false → t.count ≡ s.count → t.carriers ≡ s.carriers → Outcome s t

load_outcome : (s : State) → s.count ≡ length s.carriers → (text : List ℕ) → load_no s text ≡ 0 → Outcome s (loaded_state s text)
unfolding loaded_state
load_outcome s counted text e = by_test s.started refl
  where
    by_test : (t : Bool) → s.started ≡ t → Outcome s (loaded_state s text)
    by_test true f = kept (load_keeps s counted f text e)
    by_test false f = never_started_is f refl refl

-- what each call leaves where it is accepted; and its number is one that it may give
record Lawful (m : Meaning) : Type 0 where
  leaves : (s : State) → s.count ≡ length s.carriers → m.number s ≡ 0 → Outcome s (m.after s)
  numbered : (s : State) → lawful_no (broken s) (m.number s) ≡ true

unchanged : (s : State) → s.count ≡ length s.carriers → Sound s → Kept s
unchanged s counted h = record { unbroken = sound_holds s h; counted = counted }

lawful : (x : Call) → Lawful (meaning x)
unfolding named_no text_no handover_no
lawful (start_call road first) = record { leaves = λ s counted e. kept (start_keeps s road first e); numbered = λ s. start_check s road }
lawful (load_call text) = record { leaves = λ s counted e. load_outcome s counted text e; numbered = λ s. load_check s text }
lawful (enter_call c) = record { leaves = λ s counted e. kept (enter_keeps s counted c e); numbered = λ s. enter_check s c }
lawful (leave_call number) = record { leaves = λ s counted e. kept (leave_keeps s counted number e); numbered = λ s. named_check s number }
lawful (surface_call code) = record { leaves = λ s counted e. kept (surface_keeps s counted code e); numbered = λ s. surface_check s code }
lawful (cycle_call count ws) = record { leaves = λ s counted e. kept (cycle_keeps s counted count ws e); numbered = λ s. cycle_check s count ws }
lawful (read_call number) =
    record { leaves = λ s counted e. kept (unchanged s counted (accepted_sound s _ e)); numbered = λ s. named_check s number }
lawful (opening_call g n) =
    record { leaves = λ s counted e. kept (unchanged s counted (opening_tells s g n e).sound); numbered = λ s. opening_check s g n }
lawful (text_call buffer) =
    record { leaves = λ s counted e. kept (unchanged s counted (accepted_sound s _ e)); numbered = λ s. written_check s (lane_text s) buffer }
lawful (handover_call buffer) =
    record { leaves = λ s counted e. kept (unchanged s counted (accepted_sound s _ e)); numbered = λ s. written_check s (handover_text s) buffer }

pub accepted_leaves : (x : Call) (s : State) → s.count ≡ length s.carriers → call_no x s ≡ 0 → Outcome s (call_state x s)
accepted_leaves x s counted e = subst (Outcome s) (sym (accepted_changes x s e)) ((lawful x).leaves s counted e)

pub kept_started : (s : State) → Kept s → s.started ≡ true
kept_started s h = (sound s h.unbroken).started

pub kept_not_21 : (x : Call) (s : State) → Kept s → ¬ (call_no x s ≡ 21)
kept_not_21 x s h e = true≢false (sym (rw (h.unbroken, e) at ((lawful x).numbered s)))

pub two_digits : (x : Call) (s : State) → call_no x s < 100
two_digits x s = ltb-true (call_no x s) 100 ((and-eq-true_iff (not (eqb (call_no x s) 21 && not (broken s))) (ltb (call_no x s) 100)).0 ((lawful x).numbered s)).1

-- each front is below the tail of every carrier ahead
pub kept_in_order : (s : State) → Kept s → (i j : ℕ) → i < j → j < length s.carriers
    → (get_or s.carriers j none).position + (get_or s.carriers i none).length < (get_or s.carriers i none).position
kept_in_order s h = lane_order (row_in s.tables s.road) s.carriers (sound s h.unbroken).carriers.safe

-- ---- what an accepted call does, by `accepted_changes`; a cycle is in `CycleLaws`

pub start_accepted : (s : State) (road : Road) (first : ℕ) → start_no s road ≡ 0 → call_state (start_call road first) s ≡ begun_state s road first
start_accepted s road first e = accepted_changes (start_call road first) s e

-- whatever lane it was called on
pub start_leaves : (s : State) (road : Road) (first : ℕ) → start_no s road ≡ 0 → Kept (call_state (start_call road first) s)
start_leaves s road first e = subst Kept (sym (start_accepted s road first e)) (start_keeps s road first e)

eight_house : length house_rows ≡ 8
unfolding house_rows
eight_house = refl

-- the empty lane has the house rows in force and for the next start, whatever their figures
pub empty_state : state_of empty_words
    ≡ record {
      started = false;
      road = record { surface = 0; end = 0; limit = 0 };
      tables = record { in_force = house_rows; next = house_rows };
      cycle = 0;
      count = 0;
      carriers = [];
    }
unfolding table_from
empty_state =
    ap (λ (rs : List Row). record { started = false; road = record { surface = 0; end = 0; limit = 0 }; tables = record { in_force = rs; next = rs }; cycle = 0; count = 0; carriers = [] })
    (code_by_code house_rows eight_house)

-- and they are sound, which is computed here: what is asked of a start there is its road
pub empty_starts : (road : Road) (first : ℕ) → call_no (start_call road first) (state_of empty_words) ≡ road_no road
unfolding start_no house_rows row_of sound_row unsound_below unsound table_from
empty_starts road first = refl

-- of a lane never started a load asks its text alone, whatever the lane holds
pub idle_loads : (s : State) (text : List ℕ) → s.started ≡ false → call_no (load_call text) s ≡ cond (bad_table (table_in text)) 31 0
unfolding load_no
idle_loads s text e = rw e refl

-- of a started lane that it holds no carriers
pub load_finds_nobody : (s : State) (text : List ℕ) → s.started ≡ true → call_no (load_call text) s ≡ 0 → s.count ≡ 0
load_finds_nobody s text e z = let none = ltb-false 0 s.count (of_started (load_tells s text z).empty) in omega (arith, none)
  where
    of_started : {t : Bool} → s.started && t ≡ false → t ≡ false
    of_started {t} f = rw e at f

-- a started lane with an unsound row for the next start can neither load nor start
pub unsound_next_stuck : (s : State) → s.started ≡ true → unsound s.tables.next ≡ true → (text : List ℕ) (road : Road) (first : ℕ)
    → (call_no (load_call text) s ≡ 21) × (call_no (start_call road first) s ≡ 21)
unfolding load_no start_no
unsound_next_stuck s e f text road first = (rw (next_broken s f, e) refl, rw f refl)

-- the rows of the text for the next start, and nothing else
pub load_accepted : (s : State) (text : List ℕ) → load_no s text ≡ 0
    → call_state (load_call text) s
    ≡ record {
      started = s.started;
      road = s.road;
      tables = record { in_force = s.tables.in_force; next = rows_loaded (table_in text) };
      cycle = s.cycle;
      count = s.count;
      carriers = s.carriers;
    }
unfolding loaded_state
load_accepted s text e = accepted_changes (load_call text) s e

-- the newcomer stands before the first carrier whose position is lower
pub enter_accepted : (s : State) (c : Carrier) → enter_no s c ≡ 0
    → call_state (enter_call c) s ≡ with_carriers s (insert_at (first_place (λ d. ltb d.position c.position) s.carriers) c s.carriers)
unfolding entered_state walk
enter_accepted s c e = accepted_changes (enter_call c) s e

pub leave_accepted : (s : State) (number : ℕ) → named_no s number ≡ 0
    → call_state (leave_call number) s ≡ with_carriers s (remove_at (place_of number s.carriers) s.carriers)
unfolding left_state
leave_accepted s number e = accepted_changes (leave_call number) s e

-- the surface code, and nothing else
pub surface_accepted : (s : State) (code : ℕ) → surface_no s code ≡ 0
    → call_state (surface_call code) s
    ≡ record {
      started = s.started;
      road = record { surface = code; end = s.road.end; limit = s.road.limit };
      tables = s.tables;
      cycle = s.cycle;
      count = s.count;
      carriers = s.carriers;
    }
unfolding surfaced_state
surface_accepted s code e = accepted_changes (surface_call code) s e

-- read, opening, lane text and handover change nothing, refused or not
unchanging : (x : Call) (s : State) → accepted_state x s ≡ s → call_state x s ≡ s
unfolding call_state
unchanging x s e = rw e (same (eqb (call_no x s) 0))
  where
    same : (t : Bool) → cond t s s ≡ s
    same true = refl
    same false = refl

pub read_accepted : (s : State) (number : ℕ) → call_state (read_call number) s ≡ s
read_accepted s number = unchanging (read_call number) s refl

pub opening_accepted : (s : State) (g : Gap) (n : Newcomer) → call_state (opening_call g n) s ≡ s
opening_accepted s g n = unchanging (opening_call g n) s refl

pub text_accepted : (s : State) (buffer : List ℕ) → call_state (text_call buffer) s ≡ s
text_accepted s buffer = unchanging (text_call buffer) s refl

pub handover_accepted : (s : State) (buffer : List ℕ) → call_state (handover_call buffer) s ≡ s
handover_accepted s buffer = unchanging (handover_call buffer) s refl

-- ---- the place of the first carrier that passes a test
module _ (f : Carrier → Bool) where
  pub place_nobody : first_place f [] ≡ 0
  unfolding first_place
  place_nobody = refl

  module _ (c : Carrier) (cs : List Carrier) where
    pub place_here : f c ≡ true → first_place f (c ∷ cs) ≡ 0
    unfolding first_place
    place_here e = rw e refl

    pub place_further : f c ≡ false → first_place f (c ∷ cs) ≡ suc (first_place f cs)
    unfolding first_place
    place_further e = rw e refl
