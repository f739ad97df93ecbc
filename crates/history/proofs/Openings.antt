-- An opening along a history: by the book its positions are exactly those at which a newcomer fits, and there, and nowhere else, an entry is let in.
use mathlib.Core.Path.{◌≡◌, refl, sym, ap, ◌∙◌, subst}
use mathlib.Core.Bool.{Bool, true, false, cond}
use mathlib.Core.List.{List, ◌∷◌, ◌++◌}
use Prim.Native.Nat.{ℕ, ◌≤◌, ◌<◌}
use native.Mathlib.Omega.{arith}
use lib.ListN.{length}
use Rattle.lane.specs.declared.Carrier.{Carrier}
use Rattle.lane.specs.declared.Gap.{Gap}
use Rattle.lane.specs.declared.Gap.TheVariants.{Behind, AheadOfAll}
use Rattle.lane.specs.declared.Newcomer.{Newcomer}
use Rattle.lane.specs.State.{State}
use Rattle.lane.specs.Layout.{Words, state_of}
use Rattle.lane.specs.Rules.{broken}
use Rattle.lane.specs.Opening.{gap_place, Span}
use Rattle.lane.specs.Call.{enter_call, opening_call, Answer, call_no, call_answer}
use Rattle.lane.proofs.CallLaws.{answer_number}
use Rattle.lane.proofs.OpeningLaws.{opening_in_order, gap_ahead_of_all, gap_behind, gap_there, opening_numbers, opening_ends, opening_entry}
use Rattle.history.specs.Book.{Book}
use Rattle.history.specs.Begins.{Begins}
use Rattle.history.specs.Claims.{carrier_at}
use Rattle.history.specs.History.{Event, lane_after, Ran, Chain}
use Rattle.history.specs.Openings.{GapAt, Between, FitsAt, number_asked, OpeningsNumbered, OpeningsRefused, OpeningsExact, OpeningsEnter, Openings}
use Rattle.history.proofs.Agreement.{counted}
use Rattle.history.proofs.CycleRuns.{book_of}
use Rattle.history.proofs.History.{ran_gives}
use Rattle.history.proofs.Events.{agree_at, answer_at, number_at, after}

-- ---- of one state

past_21 : (t : Bool) (later : ℕ) → ¬ (cond t 21 later ≡ 21) → cond t 21 later ≡ later
past_21 true later h = absurd (h refl)
past_21 false later h = refl

-- the place that is asked for
gap_is : (g : Gap) (s : State) (n : Newcomer) → call_no (opening_call g n) s ≡ 0 → (place : ℕ) → GapAt g (book_of s) place → gap_place g s.carriers ≡ place
gap_is (Behind number) s n z place (least, most, named) = gap_behind s number n z place least most named
gap_is AheadOfAll s n z place e = gap_ahead_of_all s.carriers ∙ sym e

is_gap : (g : Gap) (s : State) (n : Newcomer) → call_no (opening_call g n) s ≡ 0 → GapAt g (book_of s) (gap_place g s.carriers)
is_gap (Behind number) s n z = gap_there s number n z
is_gap AheadOfAll s n z = gap_ahead_of_all s.carriers

-- its number
numbered_so : (g : Gap) (s : State) (n : Newcomer) → ¬ (call_no (opening_call g n) s ≡ 21) → call_no (opening_call g n) s ≡ number_asked g n (book_of s)
numbered_so (Behind number) s n h = let e = (opening_in_order s number n).0 in e ∙ past_21 (broken s) _ (λ z. h (e ∙ z))
numbered_so AheadOfAll s n h = let e = (opening_in_order s 0 n).1 in e ∙ past_21 (broken s) _ (λ z. h (e ∙ z))

-- what is said of the positions that are answered
abbrev Exact : Gap → Newcomer → Span → Book → Type 0
Exact g n a b =
    ((position : ℕ) → Between a position → (place : ℕ) × GapAt g b place × FitsAt b n position place)
    × ((position place : ℕ) → GapAt g b place → FitsAt b n position place → Between a position)
    × (a.exists ≡ true → a.lowest ≤ a.highest)
    × (a.exists ≡ false → (a.lowest ≡ 0) × (a.highest ≡ 0))

exact : (g : Gap) (s : State) (n : Newcomer) → call_no (opening_call g n) s ≡ 0 → Exact g n (call_answer (opening_call g n) s).span (book_of s)
exact g s n z =
    let ends = opening_ends s g n in (
      λ position h. (gap_place g s.carriers, is_gap g s n z, (opening_numbers s g n position z).0 h),
      λ position place at fits.
          let there : FitsAt (book_of s) n position (gap_place g s.carriers) = subst (FitsAt (book_of s) n position) (sym (gap_is g s n z place at)) fits in
          (opening_numbers s g n position z).1 there.0 there.1 there.2,
      ends.0 z,
      ends.1 z,
    )

-- and of an entry
abbrev Enters : Gap → Carrier → Span → Book → (number place : ℕ) → Type 0
Enters g c a b number place =
    1 ≤ c.number → c.number ≤ 65535 → ((i : ℕ) → i < length b.carriers → ¬ ((carrier_at b i).number ≡ c.number)) → length b.carriers < 64
    → (Between a c.position → (number ≡ 0) × GapAt g b place) × (number ≡ 0 → GapAt g b place → Between a c.position)

enters : (g : Gap) (s : State) (c : Carrier) → s.count ≡ length s.carriers
    → let n : Newcomer = record { speed = c.speed; length = c.length; rate = c.rate } in
    call_no (opening_call g n) s ≡ 0
    → Enters g c (call_answer (opening_call g n) s).span (book_of s) (call_no (enter_call c) s) (call_answer (enter_call c) s).place
enters g s c count-is z least most new room =
    let n : Newcomer = record { speed = c.speed; length = c.length; rate = c.rate } in
    let entry = opening_entry s g c z least most (omega (arith, room, count-is)) new in (
      λ h. let e = entry.0 h in (e.0, subst (GapAt g (book_of s)) (sym e.1) (is_gap g s n z)),
      λ accepted at. entry.1 accepted (sym (gap_is g s n z _ at)),
    )

-- ---- along a list

module _ {l d : Words} {b : Book} {es : List Event} (how : Begins l b) (c : Chain l es d) where
  chain_numbered : OpeningsNumbered b es
  chain_numbered before ask later g n is is_ask passes =
      let number = number_at c before ask later is (opening_call g n) is_ask in
      number ∙ numbered_so g (state_of (lane_after l before)) n (λ z. passes (number ∙ z)) ∙ ap (number_asked g n) (agree_at c before ask later is how).same

  chain_refused : OpeningsRefused es
  chain_refused before ask later g n is is_ask refused =
      let x = opening_call g n in
      rw (answer_at c before ask later is x is_ask)
      ((opening_ends (state_of (lane_after l before)) g n).2 (λ z. refused (number_at c before ask later is x is_ask ∙ z)))

  chain_exact : OpeningsExact b es
  chain_exact before ask later g n is is_ask asked =
      let x = opening_call g n in
      let s = state_of (lane_after l before) in
      let accepted = sym (number_at c before ask later is x is_ask) ∙ asked in
      subst (Exact g n ask.answer.span) (agree_at c before ask later is how).same
      (subst (λ (a : Answer). Exact g n a.span (book_of s)) (sym (answer_at c before ask later is x is_ask)) (exact g s n accepted))

  chain_enter : OpeningsEnter l b es
  chain_enter before ask between enter later g k is is_ask asked same is-enter =
      let s = state_of (lane_after l before) in
      let rest = between ++ (enter ∷ later) in
      let x = opening_call g (record { speed = k.speed; length = k.length; rate = k.rate }) in
      let then = answer_at (after c before ask rest is) between enter later refl (enter_call k) is-enter ∙ ap (call_answer (enter_call k)) same in
      let agree = agree_at c before ask rest is how in
      let number : enter.answer.number ≡ call_no (enter_call k) s = ap (λ (a : Answer). a.number) then ∙ answer_number (enter_call k) s in
      let place : enter.answer.place ≡ (call_answer (enter_call k) s).place = ap (λ (a : Answer). a.place) then in
      let span : ask.answer.span ≡ (call_answer x s).span = ap (λ (a : Answer). a.span) (answer_at c before ask rest is x is_ask) in
      let accepted = sym (number_at c before ask rest is x is_ask) ∙ asked in
      subst (λ (b : Book). Enters g k ask.answer.span b enter.answer.number enter.answer.place) agree.same
      (rw (span, number, place) (enters g s k (counted agree.good) accepted))

  pub chain_openings : Openings l b es
  chain_openings = (chain_numbered, chain_refused, chain_exact, chain_enter)

-- in every list of calls, however it begins
pub openings : (l : Words) (b : Book) → Begins l b → (es : List Event) (d : Words) → Ran l es d → Openings l b es
openings l b how es d r = chain_openings how (ran_gives r)
