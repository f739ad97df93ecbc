-- What a step of the program is to the lane: the call of its block, or none; and the calls of a whole text.
use Rattle.std.specs.Prelude.{ℕ, zero, suc, cond, List, [], ◌∷◌, eqb, leb, length, drop}
use Rattle.lane.specs.Layout.{Words, state_of}
use Rattle.lane.specs.Call.{Call, call_answer}
use Rattle.history.specs.History.{Event}
use Rattle.console.specs.Limits.{answer_space}
use Rattle.console.specs.Blocks.{Parsed, parsed, malformed, block_in}
use Rattle.console.specs.Program.{too_long}

-- the block at a place of the text; there is none at its end
unfoldable pub block_at : List ℕ → Parsed
block_at t = cond (eqb (length t) 0) malformed (block_in t)

-- the block that a step with this buffer runs: none where the buffer is too short
unfoldable pub block_run : (buffer text : List ℕ) → Parsed
block_run buffer t = cond (leb answer_space (length buffer)) (block_at t) malformed

-- the call that the step makes of the lane, in a list: what is answered is printed
abbrev pub events_of : Parsed → (before after : Words) → List Event
events_of (parsed x used) before after = record { call = x; answer = call_answer x (state_of before); left = after } ∷ []
events_of malformed before after = []

-- the first call of a text, and those after the bytes that it takes
abbrev pub calls_with : Parsed → (later : ℕ → List Call) → List Call
calls_with (parsed x used) later = x ∷ later used
calls_with malformed later = []

-- "blocks", one after another, as far as the text is well formed: "after 8 the program reads no further"
unfoldable pub calls_from : (steps : ℕ) → List ℕ → List Call
calls_from zero t = []
calls_from (suc n) t = calls_with (block_at t) (λ used. calls_from n (drop used t))

-- "10 is found first and is then all that is printed"
unfoldable pub calls_of : List ℕ → List Call
calls_of t = cond (too_long (length t)) [] (calls_from (length t) t)
