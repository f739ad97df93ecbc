-- Document 01, "Call texts": the program, block by block, and its whole output.
use Rattle.std.specs.Prelude.{ℕ, zero, suc, ◌+◌, ◌≤◌, ◌≡◌, Bool, true, false, cond, Option, MatchOption, List, [], ◌++◌, eqb, leb, ltb, length, drop}
use Rattle.text.specs.Lines.{written}
use Rattle.lane.specs.Surface.{house_rows}
use Rattle.lane.specs.State.{State}
use Rattle.lane.specs.Layout.{Words, state_of}
use Rattle.lane.specs.Call.{Call, call_answer, call_state}
use Rattle.console.specs.declared.Stepped.{Stepped}
use Rattle.console.specs.Limits.{longest_input, answer_space}
use Rattle.console.specs.Blocks.{Parsed, parsed, malformed, block_in}
use Rattle.console.specs.Output.{refusal, printed, keeps_lane}

-- what one step does: the state after it, whether it leaves the very lane, the bytes of the text that it takes, what it prints, the number
-- by which the step itself is refused, or 0, and whether the program stops there
pub record Step : Type 0 where
  pub after : State
  pub keeps : Bool
  pub used : ℕ
  pub output : List ℕ
  pub number : ℕ
  pub stop : Bool

-- a step that does nothing, and the program stops
abbrev pub halted : State → Step
halted s = record { after = s; keeps = true; used = 0; output = []; number = 0; stop = true }

-- decided: 13, a number of the library, refuses a buffer for answers that is too short; nothing is done, and the program stops
abbrev pub without_room : State → Step
without_room s = record { after = s; keeps = true; used = 0; output = []; number = 13; stop = true }

-- "A block is read whole before it is run"; "after 8 the program reads no further"; decided: the step's own number is 0, since a refusal of the
-- block is what it prints
abbrev pub ran : State → Parsed → Step
ran s (parsed x used) =
    let a = call_answer x s in
    record { after = call_state x s; keeps = keeps_lane x a; used = used; output = printed x a; number = 0; stop = false }
ran s malformed = record { after = s; keeps = true; used = 0; output = refusal 8; number = 0; stop = true }

-- a step on a text, of which nothing is left at the end
unfoldable pub step_of : State → List ℕ → Step
step_of s t = cond (eqb (length t) 0) (halted s) (ran s (block_in t))

-- a step that prints into a lent buffer; whether that is long enough is found before the text is looked at
unfoldable pub step_into : (buffer : List ℕ) → State → List ℕ → Step
step_into buffer s t = cond (leb answer_space (length buffer)) (step_of s t) (without_room s)

-- what is returned and left in a buffer with these bytes where so much is printed, the program goes on from this place, or stops, and the
-- step itself has this number
pub record Prints (output : List ℕ) (place number : ℕ) (stops : Bool) (buffer : List ℕ) (r : Stepped) (left : List ℕ) : Type 0 where
  pub next : r.next ≡ place
  pub written_length : r.written ≡ length output
  pub room : length output ≤ length buffer
  pub bytes : left ≡ written 0 output buffer
  pub no : r.no ≡ number
  pub stop : r.stop ≡ stops

-- what `step` at a place, with the lane `before` and these bytes in the buffer, leaves in the lane, and returns and prints, when the step is x
pub record StepGives (before : Words) (x : Step) (at : ℕ) (buffer : List ℕ) (r : Stepped) (after : Words) (left : List ℕ) : Type 0 where
  pub state : state_of after ≡ x.after
  pub kept : x.keeps ≡ true → after ≡ before
  pub prints : Prints x.output (at + x.used) x.number x.stop buffer r left

-- the same where the step runs the block that was read
abbrev pub RunGives : (before : Words) (p : Parsed) (at : ℕ) (buffer : List ℕ) (r : Stepped) (after : Words) (left : List ℕ) → Type 0
RunGives before p at buffer r after left = StepGives before (ran (state_of before) p) at buffer r after left

-- so much put at the start of a buffer with these bytes
pub record Puts (output buffer : List ℕ) (w : ℕ) (left : List ℕ) : Type 0 where
  pub written_length : w ≡ length output
  pub room : length output ≤ length buffer
  pub bytes : left ≡ written 0 output buffer

-- what a call that is run leaves and puts
pub record CallGives (before : Words) (x : Call) (buffer : List ℕ) (w : ℕ) (after : Words) (left : List ℕ) : Type 0 where
  pub state : state_of after ≡ call_state x (state_of before)
  pub kept : keeps_lane x (call_answer x (state_of before)) ≡ true → after ≡ before
  pub puts : Puts (printed x (call_answer x (state_of before))) buffer w left

-- what a block that a text begins with leaves and puts, and that what follows it is left of the text
pub record BlockRun (before : Words) (p : Parsed) (t buffer : List ℕ) (w : ℕ) (after : Words) (left rest : List ℕ) : Type 0 where
  pub call : Call
  pub used : ℕ
  pub block : p ≡ parsed call used
  pub within : used ≤ length t
  pub rest_is : rest ≡ drop used t
  pub gives : CallGives before call buffer w after left

-- the same, or there is none, and nothing is run or put
abbrev pub BlockGives : (before : Words) (p : Parsed) (t buffer : List ℕ) (r : Option ℕ) (after : Words) (left rest : List ℕ) → Type 0
BlockGives before p t buffer r after left rest =
    MatchOption r ((p ≡ malformed) × (after ≡ before) × (left ≡ buffer)) (λ w. BlockRun before p t buffer w after left rest)

-- the lane before the first block: it is empty and was never started; document 02, T-01: "the house rows serve until a table is loaded"
abbrev pub never_started : State
never_started =
    record {
      started = false;
      road = record { surface = 0; end = 0; limit = 0 };
      tables = record { in_force = house_rows; next = house_rows };
      cycle = 0;
      count = 0;
      carriers = [];
    }

-- the steps in turn; a step that does not stop takes at least one byte, so that there are at most as many as bytes
unfoldable pub output_from : (steps : ℕ) → State → List ℕ → List ℕ
output_from zero s t = []
output_from (suc n) s t =
    let x = step_of s t in
    x.output ++ cond x.stop [] (output_from n x.after (drop x.used t))

-- "10 program input above 65,536 bytes"
unfoldable pub too_long : (bytes : ℕ) → Bool
too_long n = ltb longest_input n

-- what an input of so many bytes is refused with, before a block is read
unfoldable pub length_answer : (bytes : ℕ) → List ℕ
length_answer n = cond (too_long n) (refusal 10) []

-- "10 is found first and is then all that is printed"; "Empty input prints nothing."
unfoldable pub output_of : List ℕ → List ℕ
output_of t = length_answer (length t) ++ cond (too_long (length t)) [] (output_from (length t) never_started t)
