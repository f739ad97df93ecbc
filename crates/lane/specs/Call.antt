-- Any call of the lane: its number, what it answers, and the lane afterwards.
use Rattle.std.specs.Prelude.{ℕ, ◌<◌, ◌≡◌, Bool, true, false, List, [], length, Option, None, Some, Result}
use Rattle.std.specs.Result.{result_unwrap_or}
use Rattle.wish.specs.Reading.{reading_of}
use Rattle.wish.specs.declared.Reading.{Reading}
use Rattle.wish.specs.declared.Wish.{Wish}
use Rattle.lane.specs.declared.Carrier.{Carrier}
use Rattle.lane.specs.declared.Cycled.{Cycled}
use Rattle.lane.specs.declared.Gap.{Gap}
use Rattle.lane.specs.declared.Newcomer.{Newcomer}
use Rattle.lane.specs.declared.Opening.{Opening}
use Rattle.lane.specs.declared.Road.{Road}
use Rattle.lane.specs.declared.refusal.Refusal.{Refusal}
use Rattle.lane.specs.Refusals.{outcome_no}
use Rattle.lane.specs.State.{State}
use Rattle.lane.specs.Layout.{Words, state_of}
use Rattle.lane.specs.Rules.{broken}
use Rattle.lane.specs.Table.{load_no, loaded_state}
use Rattle.lane.specs.Calls.{if_accepted, start_no, begun_state, walk, enter_no, entered_state, named_no, left_state, named_reading, cycle_no, cycle_word, cycle_replaced, cycle_gone, cycled_state, surface_no, surfaced_state}
use Rattle.lane.specs.Opening.{Span, nowhere, opening_in, opening_no}
use Rattle.lane.specs.Listing.{lane_text, text_no, text_bytes}
use Rattle.lane.specs.Handover.{handover_text, handover_no, handover_bytes}

-- a call with its arguments, but for the lane; of a text that is written, the bytes of the lent buffer before the call
pub data Call : Type 0 where
  start_call : Road → (first : ℕ) → Call
  load_call : (text : List ℕ) → Call
  enter_call : Carrier → Call
  leave_call : (number : ℕ) → Call
  surface_call : (code : ℕ) → Call
  cycle_call : (count : ℕ) → (wishes : List Wish) → Call
  read_call : (number : ℕ) → Call
  opening_call : Gap → Newcomer → Call
  text_call : (buffer : List ℕ) → Call
  handover_call : (buffer : List ℕ) → Call

-- what a call answers: its number, and values that are zero where it has none; the bytes of the lent buffer after it, none where it has none
pub record Answer : Type 0 where
  pub number : ℕ
  pub place : ℕ
  pub word : ℕ
  pub replaced : ℕ
  pub gone : ℕ
  pub reading : Reading
  pub span : Span
  pub long : ℕ
  pub bytes : List ℕ

-- an answer with no value
abbrev pub bare : (number : ℕ) → (bytes : List ℕ) → Answer
bare number bytes =
    record { number = number; place = 0; word = 0; replaced = 0; gone = 0; reading = reading_of 0 0; span = nowhere; long = 0; bytes = bytes }

abbrev pub placed : (number place : ℕ) → Answer
placed number place =
    record { number = number; place = place; word = 0; replaced = 0; gone = 0; reading = reading_of 0 0; span = nowhere; long = 0; bytes = [] }

abbrev pub run : (number word replaced gone : ℕ) → Answer
run number word replaced gone =
    record { number = number; place = 0; word = word; replaced = replaced; gone = gone; reading = reading_of 0 0; span = nowhere; long = 0; bytes = [] }

abbrev pub shown : (number : ℕ) → Reading → Answer
shown number reading =
    record { number = number; place = 0; word = 0; replaced = 0; gone = 0; reading = reading; span = nowhere; long = 0; bytes = [] }

abbrev pub spanned : (number : ℕ) → Span → Answer
spanned number span =
    record { number = number; place = 0; word = 0; replaced = 0; gone = 0; reading = reading_of 0 0; span = span; long = 0; bytes = [] }

abbrev pub told : (number long : ℕ) → (bytes : List ℕ) → Answer
told number long bytes =
    record { number = number; place = 0; word = 0; replaced = 0; gone = 0; reading = reading_of 0 0; span = nowhere; long = long; bytes = bytes }

-- what a call means: the number of its refusal, 0 where it is accepted; the state after it and what it answers, where it is accepted; the
-- bytes of the lent buffer before it, where it has one; and whether it only reads, so that it leaves the very lane, every word of it as it was
pub record Meaning : Type 0 where
  pub number : State → ℕ
  pub after : State → State
  pub answer : State → Answer
  pub lent : List ℕ
  pub reads : Bool

-- an entry answers the place where the walk ends, a cycle word, replaced and gone, a read two doubles, an opening its positions, lane text and handover
-- length and bytes; read, opening, lane text and handover change nothing: T-07, "the lane isn't changed"
abbrev pub meaning : Call → Meaning
meaning (start_call road first) =
    record { number = λ s. start_no s road; after = λ s. begun_state s road first; answer = λ s. bare 0 []; lent = []; reads = false }
meaning (load_call text) =
    record { number = λ s. load_no s text; after = λ s. loaded_state s text; answer = λ s. bare 0 []; lent = []; reads = false }
meaning (enter_call c) =
    record {
      number = λ s. enter_no s c;
      after = λ s. entered_state s c;
      answer = λ s. placed 0 (walk c.position s.carriers);
      lent = [];
      reads = false;
    }
meaning (leave_call number) =
    record { number = λ s. named_no s number; after = λ s. left_state s number; answer = λ s. bare 0 []; lent = []; reads = false }
meaning (surface_call code) =
    record { number = λ s. surface_no s code; after = λ s. surfaced_state s code; answer = λ s. bare 0 []; lent = []; reads = false }
meaning (cycle_call count ws) =
    record {
      number = λ s. cycle_no s count ws;
      after = λ s. cycled_state s ws;
      answer = λ s. run 0 (cycle_word s ws) (cycle_replaced s ws) (cycle_gone s ws);
      lent = [];
      reads = false;
    }
meaning (read_call number) =
    record { number = λ s. named_no s number; after = λ s. s; answer = λ s. shown 0 (named_reading s number); lent = []; reads = true }
meaning (opening_call g n) =
    record { number = λ s. opening_no s g n; after = λ s. s; answer = λ s. spanned 0 (opening_in s g n); lent = []; reads = true }
meaning (text_call buffer) =
    record {
      number = λ s. text_no s buffer;
      after = λ s. s;
      answer = λ s. told 0 (length (lane_text s)) (text_bytes s buffer);
      lent = buffer;
      reads = true;
    }
meaning (handover_call buffer) =
    record {
      number = λ s. handover_no s buffer;
      after = λ s. s;
      answer = λ s. told 0 (length (handover_text s)) (handover_bytes s buffer);
      lent = buffer;
      reads = true;
    }

abbrev pub call_no : Call → State → ℕ
call_no x s = (meaning x).number s

abbrev pub accepted_state : Call → State → State
accepted_state x s = (meaning x).after s

abbrev pub lent_to : Call → List ℕ
lent_to x = (meaning x).lent

-- an accepted call answers the number 0
abbrev pub accepted_answer : Call → State → Answer
accepted_answer x s =
    let a = (meaning x).answer s in
    record {
      number = 0;
      place = a.place;
      word = a.word;
      replaced = a.replaced;
      gone = a.gone;
      reading = a.reading;
      span = a.span;
      long = a.long;
      bytes = a.bytes;
    }

-- "A refusal holds its number, with place, word, counts and both doubles zero. Lane, cycle number and lent bytes are unchanged."
unfoldable pub call_answer : Call → State → Answer
call_answer x s = if_accepted (call_no x s) (accepted_answer x s) (bare (call_no x s) (lent_to x))

unfoldable pub call_state : Call → State → State
call_state x s = if_accepted (call_no x s) (accepted_state x s) s

-- what a call on the lane `before` gives that answers so and leaves the lane `after`: the contract of its function cites it whole
pub record Gives (x : Call) (before : Words) (a : Answer) (after : Words) : Type 0 where
  pub answer : a ≡ call_answer x (state_of before)
  pub state : state_of after ≡ call_state x (state_of before)
  -- every word is as before
  pub refused : 0 < a.number → after ≡ before

-- the answers as the functions return them: the number of an outcome with its value, or with zeros
abbrev pub entered : Result ℕ Refusal → Answer
entered r = placed (outcome_no r) (result_unwrap_or r 0)

abbrev pub cycled : Result Cycled Refusal → Answer
cycled r =
    let c = result_unwrap_or r (record { word = 0; replaced = 0; gone = 0 }) in
    run (outcome_no r) c.word c.replaced c.gone

abbrev pub read_out : Result Reading Refusal → Answer
read_out r = shown (outcome_no r) (result_unwrap_or r (reading_of 0 0))

-- no such position where there is no opening
abbrev pub span_in : Option Opening → Span
span_in None = nowhere
span_in (Some o) = record { exists = true; lowest = o.lowest; highest = o.highest }

abbrev pub opening : Result (Option Opening) Refusal → Answer
opening r = spanned (outcome_no r) (span_in (result_unwrap_or r None))

abbrev pub listed : Result ℕ Refusal → (bytes : List ℕ) → Answer
listed r bytes = told (outcome_no r) (result_unwrap_or r 0) bytes

-- a state that breaks no rule of the document and counts its carriers
pub record Kept (s : State) : Type 0 where
  pub unbroken : broken s ≡ false
  pub counted : s.count ≡ length s.carriers
