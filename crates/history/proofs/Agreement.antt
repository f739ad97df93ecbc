-- The lane and the road book agree after each call, if they did before, and what is claimed of a cycle run holds.
use mathlib.Core.Path.{◌≡◌, refl, sym, ap, ◌∙◌, subst}
use mathlib.Core.Bool.{Bool, true, false, not, true≢false}
use mathlib.Core.List.{[]}
use Prim.Native.Nat.{ℕ, ◌<◌}
use native.Mathlib.Omega.{arith}
use borrow.Author.Tests.{eqb-true, eqb-false}
use lib.Dec.{eqb}
use lib.ListN.{length}
use Rattle.lane.specs.State.{State}
use Rattle.lane.specs.Layout.{Words, state_of}
use Rattle.lane.specs.Call.{Call, start_call, load_call, enter_call, leave_call, surface_call, cycle_call, read_call, opening_call, text_call, handover_call, call_no, call_answer, call_state, Kept}
use Rattle.lane.proofs.CallLaws.{refused_changes_nothing, answer_number, Outcome, kept as Leaves-kept, never_started_is, accepted_leaves, kept_started, kept_in_order, start_accepted, load_accepted, enter_accepted, leave_accepted, surface_accepted, read_accepted, opening_accepted, text_accepted, handover_accepted}
use Rattle.lane.proofs.CycleLaws.{cycle_accepted, cycle_runs}
use Rattle.lane.proofs.HandoverLaws.{taken_lane}
use Rattle.history.specs.Book.{Book, holding, taken, booked}
use Rattle.history.specs.Begins.{Begins, from_empty, from_text}
use Rattle.history.specs.Claims.{InOrder, Kind, begins, loads, surfaces, runs, other, kind_of, CycleClaims}
use Rattle.history.specs.History.{Wished}
use Rattle.history.proofs.Books.{put_in_is, take_out_is}
use Rattle.history.proofs.CycleRuns.{book_of, run_carriers, run_never_touching, run_replaces_crossing}

-- a lane that is empty, started or not, or one that breaks no rule
pub data Good (s : State) : Type 0 where
  empty : s.count ≡ 0 → s.carriers ≡ [] → Good s
  kept : Kept s → Good s

pub record Agree (s : State) (b : Book) : Type 0 where
  pub same : book_of s ≡ b
  pub good : Good s

pub counted : {s : State} → Good s → s.count ≡ length s.carriers
counted (empty e f) = rw (e, f) refl
counted (kept h) = h.counted

pub in_order : (s : State) (b : Book) → Agree s b → InOrder b
in_order s b h = subst InOrder h.same (good_order h.good)
  where
    good_order : Good s → InOrder (book_of s)
    good_order (empty e f) i j p q = let q' : j < 0 = rw f at q in absurd (omega arith)
    good_order (kept k) i j p q = kept_in_order s k i j p q

-- however a list begins
pub begins_agree : {l : Words} {b : Book} → Begins l b → Agree (state_of l) b
begins_agree (from_empty l e) =
    let none : (state_of l).carriers ≡ [] = rw e refl in
    record { same = ap (λ cs. record { road = (state_of l).road; tables = (state_of l).tables; carriers = cs }) none; good = empty e none }
begins_agree (from_text text number l g) = record { same = ap book_of g.state; good = by_number (eqb number 0) refl }
  where
    by_number : (t : Bool) → eqb number 0 ≡ t → Good (state_of l)
    by_number true e = kept ((taken_lane text number l g).0 (eqb-true number 0 e))
    by_number false e = subst (λ (m : Words). Good (state_of m)) (sym ((taken_lane text number l g).1 (eqb-false number 0 e))) (empty refl refl)

-- ---- a call, by the lane's laws

-- the word that a call tells the book
abbrev pub word_of : Call → State → ℕ
word_of x s = (call_answer x s).word

pub record Booked (x : Call) (s : State) (b : Book) (refused : Bool) : Type 0 where
  pub agree : Agree (call_state x s) (booked (record { call = x; refused = refused; word = word_of x s }) b)
  pub claims : CycleClaims (kind_of x) refused (word_of x s) b

-- an accepted call does to the lane what it does to the book
accepted_books : (x : Call) (s : State) → s.count ≡ length s.carriers → Wished (kind_of x) → call_no x s ≡ 0
    → (book_of (call_state x s) ≡ taken x (word_of x s) (book_of s)) × CycleClaims (kind_of x) false (word_of x s) (book_of s)
unfolding taken
accepted_books (start_call road first) s counted w z = (ap book_of (start_accepted s road first z), tt)
accepted_books (load_call text) s counted w z = (ap book_of (load_accepted s text z), tt)
accepted_books (enter_call c) s counted w z = (ap book_of (enter_accepted s c z) ∙ ap (holding (book_of s)) (sym (put_in_is c s.carriers)), tt)
accepted_books (leave_call number) s counted w z =
    (ap book_of (leave_accepted s number z) ∙ ap (holding (book_of s)) (sym (take_out_is number s.carriers)), tt)
accepted_books (surface_call code) s counted w z = (ap book_of (surface_accepted s code z), tt)
accepted_books (cycle_call count wishes) s counted w z =
    let x = cycle_call count wishes in
    let run = cycle_runs s counted count wishes w z in
    let left = (call_state x s).carriers in (
      ap book_of (cycle_accepted s count wishes z) ∙ ap (holding (book_of s)) (run_carriers s wishes (word_of x s) left run),
      (run_never_touching s wishes (word_of x s) left run, run_replaces_crossing s wishes (word_of x s) left run),
    )
accepted_books (read_call number) s counted w z = (ap book_of (read_accepted s number), tt)
accepted_books (opening_call g n) s counted w z = (ap book_of (opening_accepted s g n), tt)
accepted_books (text_call buffer) s counted w z = (ap book_of (text_accepted s buffer), tt)
accepted_books (handover_call buffer) s counted w z = (ap book_of (handover_accepted s buffer), tt)

-- of a refused call nothing is claimed
nothing_claimed : {x : Call} (k : Kind x) (word : ℕ) (b : Book) → CycleClaims k true word b
nothing_claimed (begins road first) word b = tt
nothing_claimed (loads text) word b = tt
nothing_claimed (surfaces code) word b = tt
nothing_claimed (runs count wishes) word b = tt
nothing_claimed (other x) word b = tt

-- what an accepted call leaves of such a lane is such a one
good_after : {s t : State} → Good s → Outcome s t → Good t
good_after h (Leaves-kept k) = kept k
good_after (empty e f) (never_started_is u p q) = empty (p ∙ e) (q ∙ f)
good_after {s} (kept k) (never_started_is u p q) = absurd (true≢false (sym (kept_started s k) ∙ u))

settled : (x : Call) (s : State) → Wished (kind_of x) → Good s → Booked x s (book_of s) (not (eqb (call_no x s) 0))
settled x s w h = by_test (eqb (call_no x s) 0) refl
  where
    by_test : (t : Bool) → eqb (call_no x s) 0 ≡ t → Booked x s (book_of s) (not t)
    by_test true e =
        let z = eqb-true (call_no x s) 0 e in
        let a = accepted_books x s (counted h) w z in
        record { agree = record { same = a.0; good = good_after h (accepted_leaves x s (counted h) z) }; claims = a.1 }
    by_test false e =
        record {
          agree = rw (refused_changes_nothing x s (eqb-false (call_no x s) 0 e)) (record { same = refl; good = h });
          claims = nothing_claimed (kind_of x) (word_of x s) (book_of s);
        }

pub step : (x : Call) (s : State) (b : Book) → Wished (kind_of x) → Agree s b → Booked x s b (not (eqb (call_answer x s).number 0))
step x s b w h =
    rw (answer_number x s) (subst (λ (c : Book). Booked x s c (not (eqb (call_no x s) 0))) h.same (settled x s w h.good))
