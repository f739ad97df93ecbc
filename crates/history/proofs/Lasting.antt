-- A call on a state that breaks no rule leaves one that breaks none, refused or not.
use mathlib.Core.Path.{◌≡◌, refl, sym, ◌∙◌, subst}
use mathlib.Core.Bool.{Bool, true, false, ◌&&◌, ◌||◌, true≢false}
use borrow.Author.Tests.{eqb-true, eqb-false}
use lib.Dec.{eqb}
use Rattle.lane.specs.State.{State}
use Rattle.lane.specs.Call.{Call, call_no, call_state, Kept}
use Rattle.lane.proofs.CallLaws.{refused_changes_nothing, Outcome, kept, never_started_is, accepted_leaves, kept_started, start_leaves}
use Rattle.history.specs.Claims.{Kind, begins, loads, surfaces, runs, other, kind_of}
use Rattle.history.specs.History.{is_start}

-- a lane that breaks no rule was started
still_kept : {s t : State} → Kept s → Outcome s t → Kept t
still_kept h (kept k) = k
still_kept {s} h (never_started_is u p q) = absurd (true≢false (sym (kept_started s h) ∙ u))

still : (x : Call) (s : State) → Kept s → Kept (call_state x s)
still x s h = by_test (eqb (call_no x s) 0) refl
  where
    by_test : (t : Bool) → eqb (call_no x s) 0 ≡ t → Kept (call_state x s)
    by_test true e = still_kept h (accepted_leaves x s h.counted (eqb-true (call_no x s) 0 e))
    by_test false e = subst Kept (sym (refused_changes_nothing x s (eqb-false (call_no x s) 0 e))) h

-- an accepted start; the lane before does not count
starts_kept : {x : Call} (k : Kind x) (s : State) → is_start k && eqb (call_no x s) 0 ≡ true → Kept (call_state x s)
starts_kept (begins road first) s q = start_leaves s road first (eqb-true _ 0 q)
starts_kept (loads text) s q = absurd (true≢false (sym q))
starts_kept (surfaces code) s q = absurd (true≢false (sym q))
starts_kept (runs count wishes) s q = absurd (true≢false (sym q))
starts_kept (other x) s q = absurd (true≢false (sym q))

-- once a start is accepted, and on from there
pub goes_on : (x : Call) (s : State) (started : Bool) → (started ≡ true → Kept s)
    → started || is_start (kind_of x) && eqb (call_no x s) 0 ≡ true → Kept (call_state x s)
goes_on x s true h q = still x s (h refl)
goes_on x s false h q = starts_kept (kind_of x) s q
