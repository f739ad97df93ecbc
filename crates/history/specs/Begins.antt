-- How a list of calls begins: with a lane, and with the book that goes with it.
use Rattle.std.specs.Prelude.{ℕ, ◌≡◌, List}
use Rattle.lane.specs.Layout.{Words, state_of}
use Rattle.lane.specs.Handover.{TakesOver}
use Rattle.history.specs.Book.{Book, begun, begun_from}

pub data Begins : Words → Book → Type 0 where
  -- document 01: "It begins with no carrier and with the surface, end and limit of the empty lane first handed in."
  from_empty : (l : Words) → (state_of l).count ≡ 0 → Begins l (begun l)
  -- document 02, T-08: "a lane taken over from text is as good a beginning as an empty one for all that demand 3 says; the road book then begins with
  -- what the text holds, carriers included": the lane is what a reading gave, accepted or refused
  from_text : (text : List ℕ) (number : ℕ) (l : Words) → TakesOver text number l → Begins l (begun_from text)
