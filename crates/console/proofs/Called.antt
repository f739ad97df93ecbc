-- Calls of `step`, each as its own contract says: one, and many in turn.
use mathlib.Core.Path.{◌≡◌, sym, ap, ◌∙◌}
use mathlib.Core.Bool.{true, false, true≢false}
use mathlib.Core.List.{List, [], ◌++◌}
use Prim.Native.Nat.{ℕ, suc, ◌+◌, ◌≤◌, ◌<◌}
use native.Mathlib.Nat.{zero-add}
use native.Mathlib.Decide.{dec_lt}
use native.Mathlib.Omega.{arith}
use contract.Lifetimes.{Lfts}
use denote.Bor.{Bor}
use denote.Ref.{MutBor, at_last}
use lib.ListN.{length, take, drop, length-drop}
use lib.Seq.{drop-drop}
use Rattle.text.specs.Ascii.{ascii}
use Rattle.text.specs.Fields.{line_length, line_value}
use Rattle.text.proofs.Laws.{written_up_to}
use Rattle.lane.specs.State.{State}
use Rattle.lane.specs.Layout.{Words, state_of}
use Rattle.lane.specs.Call.{Call}
use Rattle.history.specs.History.{Event}
use Rattle.console.specs.declared.Stepped.{Stepped}
use Rattle.console.specs.Limits.{answer_space}
use Rattle.console.specs.Blocks.{Parsed, parsed, malformed, past, after_line, kind_of, lines_of, block_in}
use Rattle.console.specs.Program.{Step, ran, step_of, StepGives}
use Rattle.console.specs.History.{block_run, events_of}
use Rattle.console.proofs.Steps.{step_into_is, at_end, at_block}
use Rattle.console.proofs.step.Reads as step-reads

-- what the contract of `step` says of a call on a lane with these words before it and others after it, on the lent input and a lent buffer
-- that is long enough, and of the bytes left there
pub record Called (input : List ℕ) (before : Words) (at : ℕ) (r : Stepped) (after : Words) (left : List ℕ) : Type 0 where
  pub κs : Lfts 3
  pub lane : MutBor Words
  pub text : Bor (List ℕ)
  pub out : MutBor (List ℕ)
  pub lane_is : lane.now ≡ before
  pub text_is : text.now ≡ input
  pub long : answer_space ≤ length out.now
  pub says : step-reads.Learnt κs (lane, (text, (at, (out, tt)))) r (at_last lane after, (text, (at, (at_last out left, tt))))

-- the calls of the lane that it is: that of its block, or none
abbrev pub ran_by : {input : List ℕ} {before : Words} {at : ℕ} {r : Stepped} {after : Words} {left : List ℕ} → Called input before at r after left
    → List Event
ran_by {input} {before} {at} {after = after} c = events_of (block_run c.out.now (drop at input)) before after

-- calls in turn, each on the lane that the one before left and at the place that it returned, until one stops: the calls of the lane that they
-- are, the lane that they leave, and all that they have written
pub data Ran (input : List ℕ) : Words → ℕ → List Event → Words → List ℕ → Type 0 where
  last : {before after : Words} {at : ℕ} {r : Stepped} {left : List ℕ} (c : Called input before at r after left) → r.stop ≡ true
      → Ran input before at (ran_by c) after (take r.written left)
  then : {before after end : Words} {at : ℕ} {r : Stepped} {left rest : List ℕ} {es : List Event} (c : Called input before at r after left)
      → r.stop ≡ false → Ran input after r.next es end rest → Ran input before at (ran_by c ++ es) end (take r.written left ++ rest)

-- ---- a step that does not stop takes at least one byte

data Positive : Parsed → Type 0 where
  some : {x : Call} {used : ℕ} → 1 ≤ used → Positive (parsed x used)
  none : Positive malformed

past_positive : (k : ℕ) (p : Parsed) → Positive (past (suc k) p)
past_positive k (parsed x used) = let h : 1 ≤ suc k + used = omega arith in some h
past_positive k malformed = none

-- its `call=` line alone has one
block_positive : (t : List ℕ) → Positive (block_in t)
unfolding after_line block_in
block_positive t = past_positive (line_length t) (lines_of (kind_of (line_value (ascii "call=") t)) (drop (suc (line_length t)) t))

ran_positive : (s : State) {p : Parsed} → Positive p → (ran s p).stop ≡ false → 1 ≤ (ran s p).used
ran_positive s (some h) e = h
ran_positive s none e = absurd (true≢false e)

by_length : (s : State) (t : List ℕ) → Dec (length t < 1) → (step_of s t).stop ≡ false → 1 ≤ (step_of s t).used
by_length s t (yes e) h = absurd (true≢false (sym (ap (λ (x : Step). x.stop) (at_end s t (omega arith))) ∙ h))
by_length s t (no n) h =
    let e : step_of s t ≡ ran s (block_in t) = at_block s t (λ q. n (omega arith)) in
    rw e (ran_positive s (block_positive t) (rw e at h))

-- ---- one call

module _ {input : List ℕ} {before after : Words} {at : ℕ} {r : Stepped} {left : List ℕ} (c : Called input before at r after left) where
  abbrev pub taken : Step
  taken = step_of (state_of before) (drop at input)

  pub gave : StepGives before taken at c.out.now r after left
  gave = rw (c.lane_is, c.text_is, step_into_is c.out.now (state_of before) (drop at input) c.long) at c.says

  pub wrote : take r.written left ≡ taken.output
  wrote =
      let p = gave.prints in
      rw (p.written_length, p.bytes, ← zero-add (length taken.output)) (written_up_to 0 taken.output c.out.now (omega (arith, p.room)))

  pub goes_on : drop r.next input ≡ drop taken.used (drop at input)
  goes_on = rw gave.prints.next (sym (drop-drop taken.used at input))

  -- at the end of the input it stops and writes nothing
  module _ (e : length (drop at input) ≡ 0) where
    pub stops : r.stop ≡ true
    stops = gave.prints.stop ∙ ap (λ (y : Step). y.stop) (at_end (state_of before) (drop at input) e)

    pub writes_nothing : take r.written left ≡ []
    writes_nothing = wrote ∙ ap (λ (y : Step). y.output) (at_end (state_of before) (drop at input) e)

  -- else fewer bytes are left
  pub fewer : (n : ℕ) → length (drop at input) ≤ suc n → r.stop ≡ false → length (drop r.next input) ≤ n
  fewer n h e =
      let u = by_length (state_of before) (drop at input) (dec_lt (length (drop at input)) 1) (sym gave.prints.stop ∙ e) in
      rw goes_on (omega (arith, length-drop taken.used (drop at input)))
