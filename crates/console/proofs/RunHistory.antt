-- A RUN OF THE PROGRAM IS A HISTORY: `program_history`, demand 3 of the lanes that any text runs through, and `program_calls`, which calls they
-- are: the blocks of the text in turn.
use mathlib.Core.Path.{◌≡◌, refl, sym, ap, ◌∙◌, subst}
use mathlib.Core.Bool.{Bool, true, false, cond, true≢false}
use mathlib.Core.List.{List, [], ◌∷◌, ◌++◌, append-nil}
use Prim.Native.Nat.{ℕ, zero, suc, ◌≤◌, ◌<◌}
use native.Mathlib.Nat.{le_refl}
use native.Mathlib.Omega.{arith}
use borrow.Author.Tests.{le-leb, lt-ltb}
use lib.Dec.{eqb}
use lib.ListN.{length, take, drop}
use Rattle.lane.specs.State.{State}
use Rattle.lane.specs.Layout.{Words, state_of, empty_words}
use Rattle.lane.specs.Call.{Call}
use Rattle.history.specs.Book.{begun}
use Rattle.history.specs.Begins.{Begins, from_empty}
use Rattle.history.specs.History.{Event, calls_in, Chain, chain_end, Throughout, SurfaceChanges, NeverBroken}
use Rattle.history.proofs.History.{chain_history}
use Rattle.history.proofs.Consequences.{chain_never_broken}
use Rattle.history.proofs.Changes.{chain_surface_changes}
use Rattle.console.specs.declared.Stepped.{Stepped}
use Rattle.console.specs.Limits.{longest_input, answer_space}
use Rattle.console.specs.Blocks.{Parsed, parsed, malformed, block_in}
use Rattle.console.specs.Program.{halted, ran, step_of, too_long}
use Rattle.console.specs.History.{block_at, block_run, events_of, calls_with, calls_from, calls_of}
use Rattle.console.proofs.Calls.{step_chain}
use Rattle.console.proofs.Called.{Called, ran_by, Ran, last, then, taken, gave, goes_on, stops, fewer}
use Rattle.console.proofs.Run.{Printed, refused, accepted, long_if, short_if, cut_unseen}

-- ---- the claims

one_step : {input : List ℕ} {before after end : Words} {at : ℕ} {r : Stepped} {left : List ℕ} (c : Called input before at r after left) (es : List Event)
    → Chain after es end → Chain before (ran_by c ++ es) end
one_step {input} {before} {after} {end} {at} c es k = step_chain before after end (drop at input) es (rw (c.lane_is, c.text_is) at c.says) k

pub ran_chain : {input : List ℕ} {l end : Words} {at : ℕ} {es : List Event} {out : List ℕ} → Ran input l at es end out → Chain l es end
ran_chain {l = l} {end} (last c e) = subst (λ (es : List Event). Chain l es end) (append-nil (ran_by c)) (one_step c [] chain_end)
ran_chain (then {es = es} c e k) = one_step c es (ran_chain k)

empty_chain : {input : List ℕ} {l end : Words} {at : ℕ} {es : List Event} {out : List ℕ} → l ≡ empty_words → Ran input l at es end out → Chain empty_words es end
empty_chain {end = end} {es = es} e r = subst (λ (k : Words). Chain k es end) e (ran_chain r)

-- what a run begins with
begins : Begins empty_words (begun empty_words)
begins = from_empty empty_words refl

-- demand 3 for every run of the program: "each working on the lane that the last one left", from the empty lane on
pub program_history : (input out : List ℕ) (es : List Event) → Printed input es out → Throughout (begun empty_words) es
program_history input out es (refused m h) = tt
program_history input out es (accepted m h {l} {end} e r) = chain_history empty_words (begun empty_words) begins es end (empty_chain e.says r)

-- a block changes the surface exactly where the book's carriers are safe on it, and it serves until another one or a start
pub program_surface_changes : (input out : List ℕ) (es : List Event) → Printed input es out → SurfaceChanges empty_words (begun empty_words) es
program_surface_changes input out es (refused m h) = chain_surface_changes begins chain_end
program_surface_changes input out es (accepted m h e r) = chain_surface_changes begins (empty_chain e.says r)

-- and once a start was accepted no block gives 21
pub program_never_broken : (input out : List ℕ) (es : List Event) → Printed input es out → NeverBroken false es
program_never_broken input out es (refused m h) = tt
program_never_broken input out es (accepted m h e r) = chain_never_broken (ran_chain r)

-- ---- which calls they are

-- a step that stops runs no block, and one that goes on runs the block that it takes
module _ (s : State) (before after : Words) (later : ℕ → List Call) where
  stopped_calls : (ended : Bool) (p : Parsed) → (cond ended (halted s) (ran s p)).stop ≡ true
      → (calls_in (events_of (cond ended malformed p) before after) ≡ []) × (calls_with (cond ended malformed p) later ≡ [])
  stopped_calls true p e = (refl, refl)
  stopped_calls false (parsed x used) e = absurd (true≢false (sym e))
  stopped_calls false malformed e = (refl, refl)

  going_calls : (ended : Bool) (p : Parsed) (es : List Event) → (cond ended (halted s) (ran s p)).stop ≡ false
      → calls_in es ≡ later (cond ended (halted s) (ran s p)).used
      → calls_in (events_of (cond ended malformed p) before after ++ es) ≡ calls_with (cond ended malformed p) later
  going_calls true p es e h = absurd (true≢false e)
  going_calls false (parsed x used) es e h = ap (λ (xs : List Call). x ∷ xs) h
  going_calls false malformed es e h = absurd (true≢false e)

module _ {input : List ℕ} {before after : Words} {at : ℕ} {r : Stepped} {left : List ℕ} (c : Called input before at r after left) (later : ℕ → List Call) where
  abbrev text : List ℕ
  text = drop at input

  room_run : block_run c.out.now text ≡ block_at text
  unfolding block_run
  room_run = rw (le-leb answer_space (length c.out.now) c.long) refl

  last_calls : r.stop ≡ true → (calls_in (ran_by c) ≡ []) × (calls_with (block_at text) later ≡ [])
  unfolding step_of block_at
  last_calls e =
      let n = stopped_calls (state_of before) before after later (eqb (length text) 0) (block_in text) (sym (gave c).prints.stop ∙ e) in
      (ap (λ (p : Parsed). calls_in (events_of p before after)) room_run ∙ n.0, n.1)

  then_calls : (es : List Event) → r.stop ≡ false → calls_in es ≡ later (taken c).used → calls_in (ran_by c ++ es) ≡ calls_with (block_at text) later
  unfolding step_of block_at
  then_calls es e h =
      ap (λ (p : Parsed). calls_in (events_of p before after ++ es)) room_run
      ∙ going_calls (state_of before) before after later (eqb (length text) 0) (block_in text) es (sym (gave c).prints.stop ∙ e) h

from_calls : (input : List ℕ) (n : ℕ) {l end : Words} {at : ℕ} {es : List Event} {out : List ℕ} → Ran input l at es end out
    → length (drop at input) ≤ n → calls_in es ≡ calls_from n (drop at input)
unfolding calls_from
from_calls input zero (last c e) h = (last_calls c (λ used. []) e).0
from_calls input zero (then c e k) h = absurd (true≢false (sym (stops c (omega arith)) ∙ e))
from_calls input (suc n) {at = at} (last c e) h =
    let none = last_calls c (λ used. calls_from n (drop used (drop at input))) e in
    none.0 ∙ sym none.1
from_calls input (suc n) {at = at} (then {es = es} c e k) h =
    then_calls c (λ used. calls_from n (drop used (drop at input))) es e (from_calls input n k (fewer c n h e) ∙ ap (calls_from n) (goes_on c))

run_calls : (input out : List ℕ) (es : List Event) → Printed input es out → calls_in es ≡ calls_of input
unfolding calls_of
run_calls input out es (refused m h) = rw (long_if m (too_long (length input)) refl h) refl
run_calls input out es (accepted m h e r) = rw (short_if m (too_long (length input)) refl h) (from_calls input (length input) r (le_refl (length input)))

long_calls : (t : List ℕ) → longest_input < length t → calls_of t ≡ []
unfolding too_long calls_of
long_calls t h = rw (lt-ltb longest_input (length t) h) refl

-- the calls of a run are the blocks of the input, in turn
pub program_calls : (input out : List ℕ) (es : List Event) → Printed (take 65537 input) es out → calls_in es ≡ calls_of input
program_calls input out es p = run_calls (take 65537 input) out es p ∙ cut_unseen calls_of [] long_calls input
