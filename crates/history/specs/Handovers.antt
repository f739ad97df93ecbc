-- Document 02, T-08, along a history: a handover writes the lane as it stands, and whoever takes its text over goes on with the same book.
use Rattle.std.specs.Prelude.{ℕ, ◌≤◌, ◌<◌, ◌≡◌, List, ◌∷◌, ◌++◌, length, take, drop}
use Rattle.lane.specs.Limits.{last_cycle, longest_handover}
use Rattle.lane.specs.Layout.{Words, state_of}
use Rattle.lane.specs.Handover.{handover_text, take_over_no, taken_over}
use Rattle.lane.specs.Call.{handover_call}
use Rattle.history.specs.Book.{Book, begun_from}
use Rattle.history.specs.History.{Event, book_on, lane_after}

-- "Checks and buffer of writing are those of the lane text", 21 and then 9: on a lane that 21 passes a handover into a buffer that is too short for the
-- text gives 9 and leaves its bytes, and into any other the text, its length, and the bytes after it as they were
abbrev pub HandoversAnswered : Words → List Event → Type 0
HandoversAnswered l es =
    (before : List Event) (hand : Event) (later : List Event) (buffer : List ℕ)
    → es ≡ before ++ (hand ∷ later)
    → hand.call ≡ handover_call buffer → ¬ (hand.answer.number ≡ 21)
    → let text = handover_text (state_of (lane_after l before)) in
    (length buffer < length text → (hand.answer.number ≡ 9) × (hand.answer.long ≡ 0) × (hand.answer.bytes ≡ buffer))
    × (length text ≤ length buffer
    → (hand.answer.number ≡ 0) × (hand.answer.long ≡ length text) × (hand.answer.bytes ≡ text ++ drop (length text) buffer))

-- a refused handover answers no length and leaves the lent bytes
abbrev pub HandoversRefused : List Event → Type 0
HandoversRefused es =
    (before : List Event) (hand : Event) (later : List Event) (buffer : List ℕ)
    → es ≡ before ++ (hand ∷ later)
    → hand.call ≡ handover_call buffer → ¬ (hand.answer.number ≡ 0)
    → (hand.answer.long ≡ 0) × (hand.answer.bytes ≡ buffer)

-- and a buffer of the longest text is never too short, with a cycle number that 64 bits hold
abbrev pub HandoversFit : Words → List Event → Type 0
HandoversFit l es =
    (before : List Event) (hand : Event) (later : List Event) (buffer : List ℕ)
    → es ≡ before ++ (hand ∷ later)
    → hand.call ≡ handover_call buffer → (state_of (lane_after l before)).cycle ≤ last_cycle → longest_handover ≤ length buffer
    → ¬ (hand.answer.number ≡ 9)

-- the text that a handover has written
abbrev pub text_handed : Event → List ℕ
text_handed hand = take hand.answer.long hand.answer.bytes

-- "A lane that is read back equals the one written in all that the text names."; "the road book then begins with what the text holds, carriers
-- included": the text of an accepted handover is taken over, as the state that the lane had, and the book that it begins is the one that stood there;
-- the cycle number is one that 64 bits hold
abbrev pub HandoversTaken : Words → Book → List Event → Type 0
HandoversTaken l b es =
    (before : List Event) (hand : Event) (later : List Event) (buffer : List ℕ)
    → es ≡ before ++ (hand ∷ later)
    → hand.call ≡ handover_call buffer → hand.answer.number ≡ 0 → (state_of (lane_after l before)).cycle ≤ last_cycle
    → (take_over_no (text_handed hand) ≡ 0)
    × (taken_over (text_handed hand) ≡ state_of (lane_after l before))
    × (begun_from (text_handed hand) ≡ book_on b before)

-- all of a list
abbrev pub Handovers : Words → Book → List Event → Type 0
Handovers l b es = HandoversAnswered l es × HandoversRefused es × HandoversFit l es × HandoversTaken l b es
