-- One event of a list: lane and book agree before it, and it answers what its call answers on that lane.
use mathlib.Core.Path.{◌≡◌, ap, ◌∙◌, subst}
use mathlib.Core.List.{List, ◌∷◌, ◌++◌}
use Rattle.lane.specs.Layout.{Words, state_of}
use Rattle.lane.specs.Call.{Call, Answer, call_no, call_answer}
use Rattle.lane.proofs.CallLaws.{answer_number}
use Rattle.history.specs.Book.{Book}
use Rattle.history.specs.Begins.{Begins}
use Rattle.history.specs.History.{Event, book_on, lane_after, Chain, chain_next}
use Rattle.history.proofs.Agreement.{Agree, begins_agree}
use Rattle.history.proofs.History.{agrees_after}
use Rattle.history.proofs.Rows.{parts}

module _ {l d : Words} {es : List Event} (c : Chain l es d) (before : List Event) (e : Event) (later : List Event) (is : es ≡ before ++ (e ∷ later)) where
  pub split : Chain l before (lane_after l before) × Chain (lane_after l before) (e ∷ later) d
  split = parts before (subst (λ (es : List Event). Chain l es d) is c)

  pub agree_at : {b : Book} → Begins l b → Agree (state_of (lane_after l before)) (book_on b before)
  agree_at {b} how = agrees_after b (begins_agree how) split.0

  pub answer_at : (x : Call) → e.call ≡ x → e.answer ≡ call_answer x (state_of (lane_after l before))
  answer_at x same = first split.1 ∙ ap (λ (y : Call). call_answer y (state_of (lane_after l before))) same
    where
      first : {k : Words} → Chain k (e ∷ later) d → e.answer ≡ call_answer e.call (state_of k)
      first (chain_next g w r) = g.answer

  pub number_at : (x : Call) → e.call ≡ x → e.answer.number ≡ call_no x (state_of (lane_after l before))
  number_at x same = ap (λ (a : Answer). a.number) (answer_at x same) ∙ answer_number x (state_of (lane_after l before))

  -- the rest of the list
  pub after : Chain e.left later d
  after = rest split.1
    where
      rest : {k : Words} → Chain k (e ∷ later) d → Chain e.left later d
      rest (chain_next g w r) = r
