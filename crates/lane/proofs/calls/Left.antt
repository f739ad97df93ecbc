-- The lane that a call leaves: there is one on every lane, of the state that the call gives.
use mathlib.Core.Path.{◌≡◌, refl, sym, ◌∙◌}
use mathlib.Core.Bool.{Bool, true, false, true≢false}
use native.Mathlib.Omega.{arith}
use borrow.Author.Tests.{eqb-true, eqb-false}
use Prim.Native.Nat.{ℕ}
use lib.Dec.{eqb}
use lib.ListN.{length}
use Rattle.lane.specs.State.{State}
use Rattle.lane.specs.Layout.{Words, state_of, with_code}
use Rattle.lane.specs.Table.{table_in, rows_loaded, loaded_state}
use Rattle.lane.specs.Calls.{begun_state, entered_state, left_state, cycled_state}
use Rattle.lane.specs.Call.{Call, start_call, load_call, enter_call, leave_call, surface_call, cycle_call, read_call, opening_call, text_call, handover_call, meaning, call_no, accepted_state, call_answer, Gives}
use Rattle.lane.proofs.checks.Records.{table_eight, words_for, Fills, words_for_is, with_next, with_next_is, code_state}
use Rattle.lane.proofs.checks.TableTexts.{eight_loaded}
use Rattle.lane.proofs.calls.Answers.{refused_changes_nothing, accepted_changes, answer_number, load_tells, surface_tells}

-- a lane of the state after an accepted call; a call that only reads leaves the one lent
abbrev pub Leaves : (l : Words) → State → (reads : Bool) → Type 0
Leaves l s reads = (m : Words) × (state_of m ≡ s) × (reads ≡ true → m ≡ l)

pub written : (l : Words) (s : State) → Fills s → Leaves l s false
written l s e = (words_for s, words_for_is s e, λ r. absurd (true≢false (sym r)))

-- the tables of a lane have eight rows each
pub filled : (l : Words) (s : State) → s.count ≡ length s.carriers → s.tables ≡ (state_of l).tables → Fills s
filled l s e f = record { counted = e; in_force_is = rw f (table_eight 1 l); next = rw f (table_eight 9 l) }

unfoldable pub leaves : (x : Call) (l : Words) → call_no x (state_of l) ≡ 0 → Leaves l (accepted_state x (state_of l)) (meaning x).reads
unfolding loaded_state entered_state left_state cycled_state
leaves (start_call road first) l z =
    written l (begun_state (state_of l) road first) (record { counted = refl; in_force_is = table_eight 9 l; next = table_eight 9 l })
leaves (load_call text) l z =
    let rows = rows_loaded (table_in text) in
    (with_next l rows, with_next_is l rows (eight_loaded text (load_tells (state_of l) text z).good), λ r. absurd (true≢false (sym r)))
leaves (enter_call c) l z = written l (entered_state (state_of l) c) (filled l _ refl refl)
leaves (leave_call number) l z = written l (left_state (state_of l) number) (filled l _ refl refl)
leaves (surface_call code) l z =
    (with_code code l, code_state l code (surface_tells (state_of l) code z).sound.road.end_least, λ r. absurd (true≢false (sym r)))
leaves (cycle_call count ws) l z = written l (cycled_state (state_of l) ws) (filled l _ refl refl)
leaves (read_call number) l z = (l, refl, λ r. refl)
leaves (opening_call g n) l z = (l, refl, λ r. refl)
leaves (text_call buffer) l z = (l, refl, λ r. refl)
leaves (handover_call buffer) l z = (l, refl, λ r. refl)

-- the lane that a call leaves, by whether its number is 0
abbrev pub LeftBy : (x : Call) (l : Words) → Type 0
LeftBy x l = (m : Words) × Gives x l (call_answer x (state_of l)) m × ((meaning x).reads ≡ true → m ≡ l)

unfoldable pub left_by : (x : Call) (l : Words) (t : Bool) → eqb (call_no x (state_of l)) 0 ≡ t → LeftBy x l
left_by x l true e =
    let z = eqb-true (call_no x (state_of l)) 0 e in
    let m = leaves x l z in (
      m.0,
      record {
        answer = refl;
        state = m.1 ∙ sym (accepted_changes x (state_of l) z);
        refused = λ p. absurd (omega (arith, answer_number x (state_of l), z));
      },
      m.2,
    )
left_by x l false e =
    (l, record { answer = refl; state = sym (refused_changes_nothing x (state_of l) (eqb-false _ 0 e)); refused = λ p. refl }, λ r. refl)

unfoldable pub gives_some : (x : Call) (l : Words) → LeftBy x l
gives_some x l = left_by x l (eqb (call_no x (state_of l)) 0) refl

-- of a change of surface every word but one is as it was
pub surface_words_is : (l : Words) (code : ℕ) → call_no (surface_call code) (state_of l) ≡ 0 → (gives_some (surface_call code) l).0 ≡ with_code code l
unfolding gives_some left_by leaves
surface_words_is l code z = by_test (eqb (call_no x (state_of l)) 0) refl
  where
    x : Call
    x = surface_call code

    by_test : (t : Bool) (e : eqb (call_no x (state_of l)) 0 ≡ t) → (left_by x l t e).0 ≡ with_code code l
    by_test true e = refl
    by_test false e = absurd (eqb-false _ 0 e z)
