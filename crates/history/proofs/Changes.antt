-- A change of surface along a history: by the book it is accepted exactly where the lane is safe under the new row, and it serves until the next; no
-- other word of the lane changes.
use mathlib.Core.Path.{◌≡◌, refl, sym, ap, ◌∙◌, subst}
use mathlib.Core.Bool.{Bool, true, false}
use mathlib.Core.List.{List, [], ◌∷◌, ◌++◌}
use Prim.Native.Nat.{ℕ, suc, ◌≤◌, ◌<◌}
use lib.ListN.{length, get_or}
use Rattle.lane.specs.Limits.{last_surface}
use Rattle.lane.specs.State.{State}
use Rattle.lane.specs.Layout.{Words, state_of, with_code}
use Rattle.lane.specs.Rules.{broken}
use Rattle.lane.specs.Call.{Call, surface_call, Answer, call_no}
use Rattle.lane.proofs.SurfaceLaws.{other_words_stay, surface_in_force, surface_answers, surface_standing}
use Rattle.history.specs.Book.{Book}
use Rattle.history.specs.Begins.{Begins}
use Rattle.history.specs.Claims.{carrier_at, SafeOn}
use Rattle.history.specs.History.{Event, lane_after, Did, Ran, then, Chain, SurfaceExactly, SurfaceChanges}
use Rattle.history.proofs.CycleRuns.{book_of}
use Rattle.history.proofs.History.{ran_gives}
use Rattle.history.proofs.Rows.{chain_surface_serves}
use Rattle.history.proofs.Events.{agree_at, number_at}

-- what is said of one change that answers so
abbrev Exactly : Book → (code number : ℕ) → Type 0
Exactly b code number =
    (last_surface < code → number ≡ 1)
    × (code ≤ last_surface → ((i : ℕ) → suc i < length b.carriers → SafeOn b code i) → number ≡ 0)
    × (code ≤ last_surface → (i : ℕ) → suc i < length b.carriers → ¬ (SafeOn b code i) → number ≡ 34)
    × (code ≡ b.road.surface → number ≡ 0)
    × (code ≤ last_surface → ((i : ℕ) → suc i < length b.carriers → (carrier_at b (suc i)).speed ≡ 0) → number ≡ 0)

exactly : (s : State) (code : ℕ) → ¬ (call_no (surface_call code) s ≡ 21) → Exactly (book_of s) code (call_no (surface_call code) s)
exactly s code passes = by_rules (broken s) refl
  where
    by_rules : (t : Bool) → broken s ≡ t → Exactly (book_of s) code (call_no (surface_call code) s)
    by_rules true e = absurd (passes ((surface_answers s code).0 e))
    by_rules false e =
        let told = surface_answers s code in
        (told.1 e, told.2 e, told.3 e, λ same. ap (λ (n : ℕ). call_no (surface_call n) s) same ∙ surface_in_force s e, surface_standing s code e)

chain_surface_exactly : {l d : Words} {b : Book} {es : List Event} → Begins l b → Chain l es d → SurfaceExactly b es
chain_surface_exactly {l} how c before change later code is is-change passes =
    let s = state_of (lane_after l before) in
    let number = number_at c before change later is (surface_call code) is-change in
    subst (λ (b : Book). Exactly b code change.answer.number) (agree_at c before change later is how).same
    (subst (Exactly (book_of s) code) (sym number) (exactly s code (λ z. passes (number ∙ z))))

pub chain_surface_changes : {l d : Words} {b : Book} {es : List Event} → Begins l b → Chain l es d → SurfaceChanges l b es
chain_surface_changes how c = (chain_surface_exactly how c, chain_surface_serves c)

-- in every list of calls, however it begins
pub surface_changes : (l : Words) (b : Book) → Begins l b → (es : List Event) (d : Words) → Ran l es d → SurfaceChanges l b es
surface_changes l b how es d r = chain_surface_changes how (ran_gives r)

-- ---- its words, by the contract of `lane::surface` itself

-- what the function called at a place of a list did
did_at : (before : List Event) (e : Event) (later : List Event) {l d : Words} → Ran l (before ++ (e ∷ later)) d
    → Did e.call (lane_after l before) e.answer e.left
did_at [] e later (then h r) = h
did_at (x ∷ before) e later (then h r) = did_at before e later r

code_put : (code : ℕ) (l : Words) (a : Answer) (m : Words) → Did (surface_call code) l a m → a.number ≡ 0 → m ≡ with_code code l
code_put code l a m d z = d.says.2.1 (sym (ap (λ (a : Answer). a.number) d.says.1) ∙ z) ∙ ap (with_code code) d.before

-- "Positions, speeds and the cycle number don't move.": nor does any word but that of the code, the free ones too
pub surface_words_is : (l : Words) (es : List Event) (d : Words) → Ran l es d
    → (before : List Event) (change : Event) (later : List Event) (code i j : ℕ) → es ≡ before ++ (change ∷ later)
    → change.call ≡ surface_call code → change.answer.number ≡ 0 → ¬ ((i ≡ 0) × (j ≡ 1))
    → get_or (get_or change.left i []) j 0 ≡ get_or (get_or (lane_after l before) i []) j 0
surface_words_is l es d r before change later code i j is is-change accepted other =
    let was = lane_after l before in
    let did = did_at before change later (subst (λ (es : List Event). Ran l es d) is r) in
    let put = code_put code was change.answer change.left (subst (λ (x : Call). Did x was change.answer change.left) is-change did) accepted in
    ap (λ (m : Words). get_or (get_or m i []) j 0) put ∙ other_words_stay was code i j other
