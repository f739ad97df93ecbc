-- NO TEXT IS LEFT OUT: on every lane a step on any text with any buffer has an answer that its contract allows, and every input has a run of the
-- program.
use mathlib.Core.Path.{◌≡◌, refl, sym, ◌∙◌}
use mathlib.Core.Bool.{Bool, true, false, cond, ◌||◌, true≢false}
use mathlib.Core.List.{List, [], ◌++◌}
use Prim.Native.Nat.{ℕ, zero, suc, ◌+◌, ◌≤◌, ◌<◌}
use native.Mathlib.Omega.{arith}
use borrow.Author.Tests.{leb-true, ltb-true, ltb-false}
use contract.Lifetimes.{Lfts}
use denote.Bor.{Bor}
use denote.Ref.{MutBor, at_last}
use lib.Dec.{eqb, leb, ltb}
use lib.ListN.{length, take, drop, replicate, length-replicate}
use Rattle.text.specs.Lines.{written, place_after}
use Rattle.lane.specs.Layout.{Words, state_of, empty_words}
use Rattle.lane.specs.Call.{Call, meaning, call_answer}
use Rattle.lane.proofs.empty.Reads as empty-reads
use Rattle.lane.proofs.Answerable.{gives_some}
use Rattle.history.specs.Book.{begun}
use Rattle.history.specs.History.{Event, calls_in, Throughout, SurfaceChanges, NeverBroken}
use Rattle.history.proofs.Answered.{lent, shown}
use Rattle.console.specs.declared.Stepped.{Stepped}
use Rattle.console.specs.Limits.{answer_space}
use Rattle.console.specs.Blocks.{Parsed, parsed, malformed, block_in}
use Rattle.console.specs.Output.{refusal, printed, keeps_lane}
use Rattle.console.specs.Program.{Step, halted, without_room, ran, step_of, step_into, Prints, StepGives, length_answer, output_of}
use Rattle.console.specs.History.{calls_of}
use Rattle.console.proofs.Printing.{put_within}
use Rattle.console.proofs.Room.{refusal_fits, fits}
use Rattle.console.proofs.Steps.{gives_nothing}
use Rattle.console.proofs.Called.{Called, ran_by, Ran, last, then, stops, fewer}
use Rattle.console.proofs.Run.{Measured, Emptied, Printed, refused, accepted, run_gives}
use Rattle.console.proofs.RunHistory.{program_history, program_surface_changes, program_never_broken, program_calls}
use Rattle.console.proofs.step.Reads as step-reads
use Rattle.console.proofs.refuse_long.Reads as long-reads

-- ---- a step

-- an answer of a step, and a lane and a buffer that it leaves
pub record Answers (l : Words) (x : Step) (at : ℕ) (buffer : List ℕ) : Type 0 where
  pub r : Stepped
  pub after : Words
  pub left : List ℕ
  pub gives : StepGives l x at buffer r after left

-- so much printed, at the buffer's start
printing : (output : List ℕ) (next : ℕ) (stop : Bool) (buffer : List ℕ) → length output ≤ length buffer
    → Prints output next 0 stop buffer (record { next = next; written = length output; no = 0; stop = stop }) (written 0 output buffer)
printing output next stop buffer h = record { next = refl; written_length = refl; room = h; bytes = refl; no = refl; stop = refl }

-- a call that only reads, or is refused, leaves the very lane
keeping : (x : Call) (l : Words) → keeps_lane x (call_answer x (state_of l)) ≡ true → (gives_some x l).0 ≡ l
keeping x l k = by_test (meaning x).reads refl k
  where
    by_test : (t : Bool) → (meaning x).reads ≡ t → t || ltb 0 (call_answer x (state_of l)).number ≡ true → (gives_some x l).0 ≡ l
    by_test true e k = (gives_some x l).2 e
    by_test false e k = (gives_some x l).1.refused (ltb-true 0 _ k)

ran_some : (l : Words) (p : Parsed) (at : ℕ) (buffer : List ℕ) → answer_space ≤ length buffer → Answers l (ran (state_of l) p) at buffer
ran_some l (parsed x used) at buffer h =
    let g = gives_some x l in
    record {
      r = record { next = at + used; written = length (printed x (call_answer x (state_of l))); no = 0; stop = false };
      after = g.0;
      left = written 0 (printed x (call_answer x (state_of l))) buffer;
      gives =
          record {
            state = g.1.state;
            kept = keeping x l;
            prints = printing (printed x (call_answer x (state_of l))) (at + used) false buffer (omega (arith, fits x l));
          };
    }
ran_some l malformed at buffer h =
    record {
      r = record { next = at + 0; written = length (refusal 8); no = 0; stop = true };
      after = l;
      left = written 0 (refusal 8) buffer;
      gives =
          record { state = refl; kept = λ k. refl; prints = printing (refusal 8) (at + 0) true buffer (omega (arith, refusal_fits 8 (omega arith))) };
    }

nothing_some : (l : Words) (at number : ℕ) (buffer : List ℕ)
    → Answers l (record { after = state_of l; keeps = true; used = 0; output = []; number = number; stop = true }) at buffer
nothing_some l at number buffer =
    record { r = record { next = at; written = 0; no = number; stop = true }; after = l; left = buffer; gives = gives_nothing l at number buffer }

pub every_step : (l : Words) (t : List ℕ) (at : ℕ) (buffer : List ℕ) → Answers l (step_into buffer (state_of l) t) at buffer
unfolding step_into step_of
every_step l t at buffer = by_way (leb answer_space (length buffer)) refl (eqb (length t) 0)
  where
    by_way : (long : Bool) → leb answer_space (length buffer) ≡ long → (ended : Bool)
        → Answers l (cond long (cond ended (halted (state_of l)) (ran (state_of l) (block_in t))) (without_room (state_of l))) at buffer
    by_way false e ended = nothing_some l at 13 buffer
    by_way true e true = nothing_some l at 0 buffer
    by_way true e false = ran_some l (block_in t) at buffer (leb-true answer_space (length buffer) e)

-- ---- steps in turn, and the program

-- a buffer of enough bytes
abbrev space : List ℕ
space = replicate answer_space 0

enough : answer_space ≤ length space
enough = omega (arith, length-replicate {A = ℕ} answer_space 0)

pub record Runs (input : List ℕ) (l : Words) (at : ℕ) : Type 0 where
  pub events : List Event
  pub end : Words
  pub out : List ℕ
  pub ran : Ran input l at events end out

runs_of : {input : List ℕ} {l end : Words} {at : ℕ} {es : List Event} {out : List ℕ} → Ran input l at es end out → Runs input l at
runs_of {end = end} {es = es} {out} r = record { events = es; end = end; out = out; ran = r }

module _ (input : List ℕ) where
  called : (l : Words) (at : ℕ)
      → (a : Answers l (step_into space (state_of l) (drop at input)) at space) × Called input l at a.r a.after a.left
  called l at =
      let a = every_step l (drop at input) at space in (
        a,
        record {
          κs = ([], ([], ([], tt)));
          lane = lent l;
          text = shown input;
          out = lent space;
          lane_is = refl;
          text_is = refl;
          long = enough;
          says = a.gives;
        },
      )

  -- the step at a place, and those after it where it does not stop
  module _ (l : Words) (at : ℕ) where
    abbrev r : Stepped
    r = (called l at).0.r

    abbrev after : Words
    after = (called l at).0.after

    goes_on : (stop : Bool) → r.stop ≡ stop → (r.stop ≡ false → Runs input after r.next) → Runs input l at
    goes_on true e k = runs_of (last (called l at).1 e)
    goes_on false e k = runs_of (then (called l at).1 e (k e).ran)

  in_turn : (n : ℕ) (l : Words) (at : ℕ) → length (drop at input) ≤ n → Runs input l at
  in_turn zero l at h = goes_on l at (r l at).stop refl λ e. absurd (true≢false (sym (stops (called l at).1 (omega arith)) ∙ e))
  in_turn (suc n) l at h = goes_on l at (r l at).stop refl λ e. in_turn n (after l at) (r l at).next (fewer (called l at).1 n h e)

-- a run of the program on an input
pub record RunOf (input : List ℕ) : Type 0 where
  pub events : List Event
  pub out : List ℕ
  pub run : Printed input events out

pub every_input : (input : List ℕ) → RunOf input
every_input input = by_test (ltb 0 put) refl
  where
    put : ℕ
    put = place_after 0 (length_answer (length input)) space

    measured : Measured input put (written 0 (length_answer (length input)) space)
    measured =
        record { κs = ([], tt); out = lent space; long = enough; says = put_within (length_answer (length input)) space (refl, refl) }

    emptied : Emptied empty_words
    emptied = record { κs = ([], tt); lane = lent []; says = refl }

    by_test : (t : Bool) → ltb 0 put ≡ t → RunOf input
    by_test true e = record { events = []; out = take put (written 0 (length_answer (length input)) space); run = refused measured (ltb-true 0 put e) }
    by_test false e =
        let s = in_turn input (length input) empty_words 0 (omega arith) in
        record { events = s.events; out = s.out; run = accepted measured (omega (arith, ltb-false 0 put e)) emptied s.ran }

-- for every input there is a run: its calls are the input's blocks, its output is the whole output, what is claimed holds throughout and of
-- changes of surface, and no block gives 21 after a start
pub every_input_claimed : (input : List ℕ)
    → (r : RunOf (take 65537 input)) × (calls_in r.events ≡ calls_of input) × (r.out ≡ output_of input) × Throughout (begun empty_words) r.events × SurfaceChanges empty_words (begun empty_words) r.events × NeverBroken false r.events
every_input_claimed input =
    let r = every_input (take 65537 input) in (
      r,
      program_calls input r.out r.events r.run,
      run_gives input r.out r.events r.run,
      program_history _ r.out r.events r.run,
      program_surface_changes _ r.out r.events r.run,
      program_never_broken _ r.out r.events r.run,
    )

-- ---- whatever a contract says is a part of a run

-- for every reference and every argument a contract asks nothing of its caller, and what it then says, of a buffer that is long enough, is a part
-- of a run; and the parts may be joined, whatever they are
pub each_contract : (κ : Lfts 1) (κs : Lfts 3) (l : MutBor Words) (m : Words) (text : Bor (List ℕ)) (out : MutBor (List ℕ)) (at : ℕ) (input : List ℕ)
    → (step-reads.Asked κs (l, (text, (at, (out, tt)))) × ((r : Stepped) (left : List ℕ) → answer_space ≤ length out.now → step-reads.Learnt κs (l, (text, (at, (out, tt)))) r (at_last l m, (text, (at, (at_last out left, tt)))) → Called text.now l.now at r m left))
    × (long-reads.Asked κ (length input, (out, tt)) × ((w : ℕ) (left : List ℕ) → answer_space ≤ length out.now → long-reads.Learnt κ (length input, (out, tt)) w (length input, (at_last out left, tt)) → Measured input w left))
    × (empty-reads.Asked κ (l, tt) × (empty-reads.Learnt κ (l, tt) tt (at_last l m, tt) → Emptied m))
    × ((before after : Words) (r : Stepped) (left : List ℕ) (c : Called input before at r after left) → r.stop ≡ true → Ran input before at (ran_by c) after (take r.written left))
    × ((before after end : Words) (r : Stepped) (left rest : List ℕ) (es : List Event) (c : Called input before at r after left) → r.stop ≡ false → Ran input after r.next es end rest → Ran input before at (ran_by c ++ es) end (take r.written left ++ rest))
    × ((w : ℕ) (left : List ℕ) → Measured input w left → 0 < w → Printed input [] (take w left))
    × ((w : ℕ) (left : List ℕ) (first end : Words) (es : List Event) (written : List ℕ) → Measured input w left → w ≡ 0 → Emptied first → Ran input first 0 es end written → Printed input es written)
each_contract κ κs l m text out at input = (
  (tt, λ r left h s. record { κs = κs; lane = l; text = text; out = out; lane_is = refl; text_is = refl; long = h; says = s }),
  (tt, λ w left h s. record { κs = κ; out = out; long = h; says = s }),
  (tt, λ s. record { κs = κ; lane = l; says = s }),
  λ before after r left c e. last c e,
  λ before after end r left rest es c e k. then c e k,
  λ w left a h. refused a h,
  λ w left first end es written a h e k. accepted a h e k,
)
