-- A handover along a history: what it answers, and that whoever takes its text over goes on with the book as it stood.
use mathlib.Core.Path.{◌≡◌, refl, sym, ap, ◌∙◌, subst}
use mathlib.Core.Bool.{Bool, true, false, cond}
use mathlib.Core.List.{List, ◌∷◌, ◌++◌}
use Prim.Native.Nat.{ℕ, ◌≤◌, ◌<◌}
use native.Mathlib.Omega.{arith}
use borrow.Author.Tests.{lt-ltb, le-ltb}
use lib.Dec.{ltb}
use lib.ListN.{length, take, drop}
use lib.Seq.{take_at}
use Rattle.lane.specs.Limits.{last_cycle, longest_handover}
use Rattle.lane.specs.State.{State}
use Rattle.lane.specs.Layout.{Words, state_of}
use Rattle.lane.specs.Rules.{broken}
use Rattle.lane.specs.Handover.{handover_text, take_over_no, taken_over}
use Rattle.lane.specs.Call.{handover_call, Answer, call_no, call_answer}
use Rattle.lane.proofs.HandoverLaws.{handover_in_order, handover_answers, handover_refused, handover_most, read_back}
use Rattle.history.specs.Book.{Book}
use Rattle.history.specs.Begins.{Begins}
use Rattle.history.specs.History.{Event, lane_after, Ran, Chain}
use Rattle.history.specs.Handovers.{text_handed, HandoversTaken, Handovers}
use Rattle.history.proofs.Agreement.{counted}
use Rattle.history.proofs.CycleRuns.{book_of}
use Rattle.history.proofs.History.{ran_gives}
use Rattle.history.proofs.Events.{agree_at, answer_at, number_at}

-- ---- of one state

module _ (s : State) (buffer : List ℕ) where
  abbrev text : List ℕ
  text = handover_text s

  -- what is said of a handover that answers so
  abbrev Says : Answer → Type 0
  Says a =
      (length buffer < length text → (a.number ≡ 9) × (a.long ≡ 0) × (a.bytes ≡ buffer))
      × (length text ≤ length buffer → (a.number ≡ 0) × (a.long ≡ length text) × (a.bytes ≡ text ++ drop (length text) buffer))

  number_when : {t u : Bool} → broken s ≡ t → ltb (length buffer) (length text) ≡ u → call_no (handover_call buffer) s ≡ cond t 21 (cond u 9 0)
  number_when e f = handover_in_order s buffer ∙ rw (e, f) refl

  says : ¬ (call_no (handover_call buffer) s ≡ 21) → Says (call_answer (handover_call buffer) s)
  says passes = by_rules (broken s) refl
    where
      by_rules : (t : Bool) → broken s ≡ t → Says (call_answer (handover_call buffer) s)
      by_rules true e = absurd (passes (handover_in_order s buffer ∙ rw e refl))
      by_rules false e = (
        λ short.
            let nine = number_when e (lt-ltb (length buffer) (length text) short) in
            rw (handover_refused s buffer (λ z. omega (arith, nine, z)), nine) (refl, refl, refl),
        λ fits. rw (handover_answers s buffer (number_when e (le-ltb (length buffer) (length text) fits))) (refl, refl, refl),
      )

  refused_so : ¬ (call_no (handover_call buffer) s ≡ 0) → let a = call_answer (handover_call buffer) s in (a.long ≡ 0) × (a.bytes ≡ buffer)
  refused_so h = rw (handover_refused s buffer h) (refl, refl)

  not_9 : (broken s ≡ false → length text ≤ length buffer) → ¬ (call_no (handover_call buffer) s ≡ 9)
  not_9 fits z = by_rules (broken s) refl
    where
      by_rules : (t : Bool) → broken s ≡ t → ⊥
      by_rules true e = omega (arith, number_when e refl, z)
      by_rules false e = omega (arith, number_when e (le-ltb (length buffer) (length text) (fits e)), z)

  module _ (z : call_no (handover_call buffer) s ≡ 0) where
    accepted_unbroken : broken s ≡ false
    accepted_unbroken = by_rules (broken s) refl
      where
        by_rules : (t : Bool) → broken s ≡ t → t ≡ false
        by_rules true e = absurd (omega (arith, number_when e refl, z))
        by_rules false e = refl

    -- the bytes written are the text
    text_handed_is : let a = call_answer (handover_call buffer) s in take a.long a.bytes ≡ text
    text_handed_is = rw (handover_answers s buffer z) (take_at text (drop (length text) buffer) (length text) refl)

-- ---- along a list

module _ {l d : Words} {es : List Event} (c : Chain l es d) (before : List Event) (hand : Event) (later : List Event) (is : es ≡ before ++ (hand ∷ later)) (buffer : List ℕ)
    (is-hand : hand.call ≡ handover_call buffer) where
  abbrev at_hand : State
  at_hand = state_of (lane_after l before)

  answered : ¬ (hand.answer.number ≡ 21) → Says at_hand buffer hand.answer
  answered passes =
      let number = number_at c before hand later is (handover_call buffer) is-hand in
      subst (Says at_hand buffer) (sym (answer_at c before hand later is (handover_call buffer) is-hand)) (says at_hand buffer (λ z. passes (number ∙ z)))

  refused : ¬ (hand.answer.number ≡ 0) → (hand.answer.long ≡ 0) × (hand.answer.bytes ≡ buffer)
  refused h =
      rw (answer_at c before hand later is (handover_call buffer) is-hand)
      (refused_so at_hand buffer (λ z. h (number_at c before hand later is (handover_call buffer) is-hand ∙ z)))

  fits : at_hand.cycle ≤ last_cycle → longest_handover ≤ length buffer → ¬ (hand.answer.number ≡ 9)
  fits h long z =
      not_9 at_hand buffer (λ e. omega (arith, handover_most (lane_after l before) e h))
      (sym (number_at c before hand later is (handover_call buffer) is-hand) ∙ z)

  module _ (accepted : hand.answer.number ≡ 0) where
    number_zero : call_no (handover_call buffer) at_hand ≡ 0
    number_zero = sym (number_at c before hand later is (handover_call buffer) is-hand) ∙ accepted

    handed_is : text_handed hand ≡ handover_text at_hand
    handed_is =
        ap (λ (a : Answer). take a.long a.bytes) (answer_at c before hand later is (handover_call buffer) is-hand)
        ∙ text_handed_is at_hand buffer number_zero

    read_back_there : at_hand.count ≡ length at_hand.carriers → at_hand.cycle ≤ last_cycle
        → (take_over_no (text_handed hand) ≡ 0) × (taken_over (text_handed hand) ≡ at_hand)
    read_back_there counted h = rw handed_is (read_back (lane_after l before) (accepted_unbroken at_hand buffer number_zero) counted h)

module _ {l d : Words} {b : Book} {es : List Event} (how : Begins l b) (c : Chain l es d) where
  chain_taken : HandoversTaken l b es
  chain_taken before hand later buffer is is-hand accepted h =
      let agree = agree_at c before hand later is how in
      let back = read_back_there c before hand later is buffer is-hand accepted (counted agree.good) h in
      (back.0, back.1, ap book_of back.1 ∙ agree.same)

  pub chain_handovers : Handovers l b es
  chain_handovers = (
    λ before hand later buffer is is-hand. answered c before hand later is buffer is-hand,
    λ before hand later buffer is is-hand. refused c before hand later is buffer is-hand,
    λ before hand later buffer is is-hand. fits c before hand later is buffer is-hand,
    chain_taken,
  )

-- in every list of calls, however it begins
pub handovers : (l : Words) (b : Book) → Begins l b → (es : List Event) (d : Words) → Ran l es d → Handovers l b es
handovers l b how es d r = chain_handovers how (ran_gives r)
