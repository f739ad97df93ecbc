-- THE WHOLE: `run_gives`, one theorem over every input. A call of `refuse_long` and then calls of `step` in turn, each as its own contract
-- says, print what specs/Program says of the whole input.
use mathlib.Core.Path.{◌≡◌, refl, sym, ap, ap₂, ◌∙◌}
use mathlib.Core.Bool.{Bool, true, false, cond, true≢false}
use mathlib.Core.List.{List, [], ◌++◌, append-nil}
use Prim.Native.Nat.{ℕ, zero, suc, ◌≤◌, ◌<◌}
use native.Mathlib.Nat.{le_refl, zero-add, add-zero}
use native.Mathlib.Decide.{dec_lt}
use native.Mathlib.Omega.{arith}
use borrow.Author.Tests.{lt-ltb}
use contract.Lifetimes.{Lfts}
use denote.Ref.{MutBor, at_last}
use lib.Dec.{eqb, leb}
use lib.ListN.{length, take, drop}
use lib.Seq.{take_all, length-take-le}
use Rattle.text.specs.Ascii.{ascii}
use Rattle.text.specs.Numbers.{decimal}
use Rattle.text.proofs.Laws.{length_line, place_fits, written_up_to, written_nothing}
use Rattle.lane.specs.State.{State}
use Rattle.lane.specs.Layout.{Words, state_of}
use Rattle.lane.specs.Rules.{broken}
use Rattle.lane.specs.Listing.{lane_text}
use Rattle.lane.proofs.CallLaws.{empty_state}
use Rattle.lane.specs.Call.{call_answer}
use Rattle.lane.proofs.empty.Reads as empty-reads
use Rattle.history.specs.History.{Event}
use Rattle.console.specs.declared.Stepped.{Stepped}
use Rattle.console.specs.Limits.{longest_input, answer_space}
use Rattle.console.specs.Blocks.{Parsed, parsed, malformed, show_call, block_in}
use Rattle.console.specs.Program.{halted, without_room, ran, step_of, step_into, StepGives, RunGives, output_from, too_long, length_answer, output_of}
use Rattle.console.specs.Output.{refusal, printed}
use Rattle.console.proofs.Printing.{short_line}
use Rattle.console.proofs.Showing.{show_prints}
use Rattle.console.proofs.Called.{Ran, last, then, taken, gave, wrote, goes_on, stops, writes_nothing, fewer}
use Rattle.console.proofs.Steps.{too_short, step_into_is}
use Rattle.console.proofs.refuse_long.Reads as long-reads

-- where the program stops, malformed blocks and short buffers included, the very lane is left
stops_keeping : (s : State) (long ended : Bool) (p : Parsed) → (cond long (cond ended (halted s) (ran s p)) (without_room s)).stop ≡ true
    → (cond long (cond ended (halted s) (ran s p)) (without_room s)).keeps ≡ true
stops_keeping s false ended p e = refl
stops_keeping s true true p e = refl
stops_keeping s true false (parsed x used) e = absurd (true≢false (sym e))
stops_keeping s true false malformed e = refl

pub stopped_lane : (before after : Words) (t : List ℕ) {at : ℕ} {buffer left : List ℕ} {r : Stepped}
    → StepGives before (step_into buffer (state_of before) t) at buffer r after left → r.stop ≡ true → after ≡ before
unfolding step_into step_of
stopped_lane before after t {buffer = buffer} g e =
    g.kept (stops_keeping (state_of before) (leb answer_space (length buffer)) (eqb (length t) 0) (block_in t) (sym g.prints.stop ∙ e))

-- a step has a number of its own only where its buffer is too short: whether the input has ended or a block is read, the number is 0
own_number : (s : State) (ended : Bool) (p : Parsed) → (cond ended (halted s) (ran s p)).number ≡ 0
own_number s true p = refl
own_number s false (parsed x used) = refl
own_number s false malformed = refl

module _ (before after : Words) (t : List ℕ) {at : ℕ} {buffer left : List ℕ} {r : Stepped}
    (g : StepGives before (step_into buffer (state_of before) t) at buffer r after left) where
  enough_room : answer_space ≤ length buffer → r.no ≡ 0
  unfolding step_of
  enough_room h = rw (step_into_is buffer (state_of before) t h) at g.prints.no ∙ own_number (state_of before) (eqb (length t) 0) (block_in t)

  -- a step that is refused has everything as before: the place, the very lane and every lent byte
  pub refused_step : (r.no ≡ 0 → ⊥)
      → (r ≡ record { next = at; written = 0; no = 13; stop = true }) × ((after ≡ before) × ((left ≡ buffer) × (length buffer < answer_space)))
  refused_step n =
      let short : length buffer < answer_space = by_room (dec_lt (length buffer) answer_space) in
      let h : StepGives before (without_room (state_of before)) at buffer r after left = rw (too_short buffer (state_of before) t short) at g in
      let p = h.prints in
      let place : r.next ≡ at = p.next ∙ add-zero at in
      (λ i. record { next = place i; written = p.written_length i; no = p.no i; stop = p.stop i }, (h.kept refl, (p.bytes ∙ written_nothing 0 buffer, short)))
    where
      by_room : Dec (length buffer < answer_space) → length buffer < answer_space
      by_room (yes h) = h
      by_room (no h) = absurd (n (enough_room (omega arith)))

from : (input : List ℕ) (n : ℕ) {l end : Words} {at : ℕ} {es : List Event} {out : List ℕ} → Ran input l at es end out → length (drop at input) ≤ n
    → out ≡ output_from n (state_of l) (drop at input)
unfolding output_from
from input zero (last c e) h = writes_nothing c (omega arith)
from input zero (then c e k) h = absurd (true≢false (sym (stops c (omega arith)) ∙ e))
from input (suc n) {l} {at} (last c e) h =
    let t : (step_of (state_of l) (drop at input)).stop ≡ true = sym (gave c).prints.stop ∙ e in
    rw (wrote c, t) (sym (append-nil (taken c).output))
from input (suc n) {l} {at} (then c e k) h =
    let f : (step_of (state_of l) (drop at input)).stop ≡ false = sym (gave c).prints.stop ∙ e in
    rw (wrote c, f) (ap (λ (l : List ℕ). (taken c).output ++ l) (from input n k (fewer c n h e) ∙ ap₂ (output_from n) (gave c).state (goes_on c)))

-- ---- an input that is too long

-- what the contract of `refuse_long` says of a call with the input's length and a lent buffer that is long enough
pub record Measured (input : List ℕ) (w : ℕ) (left : List ℕ) : Type 0 where
  pub κs : Lfts 1
  pub out : MutBor (List ℕ)
  pub long : answer_space ≤ length out.now
  pub says : long-reads.Learnt κs (length input, (out, tt)) w (length input, (at_last out left, tt))

-- what the contract of `empty` says of a lane that it has emptied
pub record Emptied (l : Words) : Type 0 where
  pub κs : Lfts 1
  pub lane : MutBor Words
  pub says : empty-reads.Learnt κs (lane, tt) tt (at_last lane l, tt)

-- a run of the program: the refusal where one is put, else the calls of `step` from the lane that `empty` gives on; the calls of the lane that
-- they are, and all that is printed
pub data Printed (input : List ℕ) : List Event → List ℕ → Type 0 where
  refused : {w : ℕ} {left : List ℕ} → Measured input w left → 0 < w → Printed input [] (take w left)
  accepted : {w : ℕ} {left : List ℕ} → Measured input w left → w ≡ 0 → {l end : Words} → Emptied l → {es : List Event} {out : List ℕ}
      → Ran input l 0 es end out → Printed input es out

ten : (1 ≤ length (refusal 10)) × (length (refusal 10) ≤ 29)
unfolding refusal
ten = (omega (arith, length_line (ascii "no=") (decimal 10)), short_line (ascii "no=") 10 (omega arith) (omega arith))

module _ {input : List ℕ} {w : ℕ} {left : List ℕ} (m : Measured input w left) where
  abbrev answer : List ℕ
  answer = length_answer (length input)

  room : length answer ≤ length m.out.now
  unfolding length_answer
  room = by_test (too_long (length input))
    where
      by_test : (b : Bool) → length (cond b (refusal 10) []) ≤ length m.out.now
      by_test true = omega (arith, ten, m.long)
      by_test false = omega arith

  put : w ≡ length answer
  put = m.says.1.0 ∙ place_fits 0 answer m.out.now (omega (arith, room)) ∙ zero-add (length answer)

  measured : take w left ≡ answer
  measured = rw (put, m.says.0, ← zero-add (length answer)) (written_up_to 0 answer m.out.now (omega (arith, room)))

  -- a line is put exactly where the input is too long
  pub long_if : (b : Bool) → too_long (length input) ≡ b → 0 < w → b ≡ true
  unfolding length_answer
  long_if true e h = refl
  long_if false e h = absurd (omega (arith, rw e at put))

  pub short_if : (b : Bool) → too_long (length input) ≡ b → w ≡ 0 → b ≡ false
  unfolding length_answer
  short_if true e h = absurd (omega (arith, ten, rw e at put))
  short_if false e h = refl

whole : (input out : List ℕ) {es : List Event} → Printed input es out → out ≡ output_of input
unfolding length_answer output_of
whole input out (refused m h) = measured m ∙ rw (long_if m (too_long (length input)) refl h) (sym (append-nil (refusal 10)))
whole input out (accepted m h e r) =
    rw (short_if m (too_long (length input)) refl h) (from input (length input) r (le_refl (length input)) ∙ ap (λ (s : State). output_from (length input) s input) (ap state_of e.says ∙ empty_state))

long_output : (t : List ℕ) → longest_input < length t → output_of t ≡ refusal 10
unfolding too_long length_answer output_of
long_output t h = rw (lt-ltb longest_input (length t) h) (append-nil (refusal 10))

-- where every input that is too long gives the same, the bytes past one more than the longest input has change nothing
pub cut_unseen : {A : Type 0} (f : List ℕ → A) (a : A) → ((t : List ℕ) → longest_input < length t → f t ≡ a) → (t : List ℕ) → f (take 65537 t) ≡ f t
cut_unseen f a same t = by_length (dec_lt longest_input (length t))
  where
    by_length : Dec (longest_input < length t) → f (take 65537 t) ≡ f t
    by_length (yes h) = same (take 65537 t) (omega (arith, length-take-le 65537 t (omega arith))) ∙ sym (same t h)
    by_length (no h) = let all : length t ≤ 65537 = omega arith in ap f (take_all 65537 t all)

-- THE THEOREM: "The program reads standard input", of which it takes one byte more than 65,536 at most: what it prints is what the
-- definition says, whatever the input is
pub run_gives : (input out : List ℕ) (es : List Event) → Printed (take 65537 input) es out → out ≡ output_of input
run_gives input out es p = whole (take 65537 input) out p ∙ cut_unseen output_of (refusal 10) long_output input

-- what a show prints: the lane text after its line, or 21 where the lane breaks a rule; it is never too long
pub show_gives : (l : Words)
    → printed show_call (call_answer show_call (state_of l)) ≡ cond (broken (state_of l)) (refusal 21) (ascii "ok=show\n" ++ lane_text (state_of l))
show_gives l = show_prints l

-- and accepted or refused it leaves the very lane
pub shown_lane : {before after : Words} {used at : ℕ} {buffer left : List ℕ} {r : Stepped} → RunGives before (parsed show_call used) at buffer r after left
    → after ≡ before
unfolding show_call
shown_lane g = g.kept refl
