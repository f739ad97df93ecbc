-- The lane text and made wishes, for the crates above, which leave their definitions shut.
use mathlib.Core.Path.{◌≡◌, refl, sym, ap, ◌∙◌}
use mathlib.Core.Bool.{Bool, true, false, cond}
use mathlib.Core.List.{List, ◌++◌, append-nil}
use Prim.Native.Nat.{ℕ, ◌≤◌, ◌<◌}
use native.Mathlib.Omega.{arith}
use borrow.Author.Tests.{ltb-true, ltb-false}
use lib.Dec.{ltb}
use lib.ListN.{length, drop}
use lib.Seq.{length-take-le}
use Rattle.text.specs.Ascii.{ascii}
use Rattle.text.specs.Numbers.{decimal}
use Rattle.text.specs.Lines.{line}
use Rattle.lane.specs.declared.Carrier.{Carrier}
use Rattle.lane.specs.Limits.{longest_text}
use Rattle.lane.specs.State.{State}
use Rattle.lane.specs.Layout.{Words, state_of}
use Rattle.lane.specs.Rules.{broken}
use Rattle.lane.specs.Listing.{carrier_text, lane_text, text_no, text_bytes}
use Rattle.lane.specs.Call.{text_call, bare, told, call_answer}
use Rattle.lane.specs.Given.{wishes_no, wishes_given}
use Rattle.lane.proofs.lists.Passed.{passed}
use Rattle.lane.proofs.calls.Texts.{text_most}
use Rattle.lane.proofs.driving.Making.{made_take, enough_made}
use Rattle.lane.proofs.calls.Answers.{refused_answers, accepted_answers}

-- ---- the lane text

-- the lines of a carrier, each with its own number
pub carrier_lines : (c : Carrier) → carrier_text c
    ≡ line (ascii "car=") (decimal c.number)
    ++ (line (ascii "at=") (decimal c.position)
    ++ (line (ascii "speed=") (decimal c.speed) ++ (line (ascii "length=") (decimal c.length) ++ line (ascii "brake=") (decimal c.rate))))
unfolding carrier_text
carrier_lines c = rw append-nil refl

-- of two checks, 21 before 9
no_nine : (b c : Bool) → ¬ (◌≡◌ {A = ℕ} (cond b 21 (cond c 9 0)) 9) → ◌≡◌ {A = ℕ} (cond b 21 (cond c 9 0)) (cond b 21 0)
no_nine true c h = refl
no_nine false true h = absurd (h refl)
no_nine false false h = refl

by_nine : (b c : Bool) → ◌≡◌ {A = ℕ} (cond b 21 (cond c 9 0)) 9 → (b ≡ false) × (c ≡ true)
by_nine true c h = absurd (omega arith)
by_nine false true h = (refl, refl)
by_nine false false h = absurd (omega arith)

module _ (s : State) (buffer : List ℕ) where
  -- a text that is not too long for the buffer is refused by 21 alone
  pub text_number : ¬ (text_no s buffer ≡ 9) → text_no s buffer ≡ cond (broken s) 21 0
  unfolding text_no
  text_number h = no_nine (broken s) (ltb (length buffer) (length (lane_text s))) h

  pub text_refused : ¬ (text_no s buffer ≡ 0) → call_answer (text_call buffer) s ≡ bare (text_no s buffer) buffer
  text_refused h = refused_answers (text_call buffer) s h

  module _ (e : text_no s buffer ≡ 0) where
    pub text_answers : call_answer (text_call buffer) s ≡ told 0 (length (lane_text s)) (lane_text s ++ drop (length (lane_text s)) buffer)
    unfolding text_bytes
    text_answers = accepted_answers (text_call buffer) s e

    pub text_room : length (lane_text s) ≤ length buffer
    unfolding text_no
    text_room =
        let long = (passed (ltb (length buffer) (length (lane_text s))) 8 0 (passed (broken s) 20 _ e).1).0 in
        ltb-false (length buffer) (length (lane_text s)) long

-- a buffer of the longest text holds every one
pub text_nine : (l : Words) (buffer : List ℕ) → text_no (state_of l) buffer ≡ 9 → length buffer < longest_text
unfolding text_no
text_nine l buffer e =
    let s = state_of l in
    let why = by_nine (broken s) (ltb (length buffer) (length (lane_text s))) e in
    omega (arith, ltb-true (length buffer) (length (lane_text s)) why.1, text_most l why.0)

-- and none that is told is longer
pub text_short : (l : Words) (buffer : List ℕ) → text_no (state_of l) buffer ≡ 0 → length (lane_text (state_of l)) ≤ longest_text
unfolding text_no
text_short l buffer e = text_most l (passed (broken (state_of l)) 20 _ e).0

-- ---- wishes of two arrays: as many as are counted
pub wishes_enough : (count : ℕ) (sorts values : List ℕ) → wishes_no count sorts values ≡ 0 → count ≤ length (wishes_given count sorts values)
wishes_enough count sorts values e =
    let long : length (wishes_given count sorts values) ≡ count = ap length (sym (made_take count sorts values)) ∙ length-take-le count _ (enough_made count sorts values e) in
    omega arith
