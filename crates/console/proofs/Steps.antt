-- The three ways in which a step goes: the buffer is too short, the input ends, or there is a block.
use mathlib.Core.Path.{◌≡◌, refl, sym, ap}
use mathlib.Core.Bool.{true, false}
use mathlib.Core.List.{List, []}
use Prim.Native.Nat.{ℕ, ◌-◌, ◌≤◌, ◌<◌}
use native.Mathlib.Nat.{add-zero}
use native.Mathlib.Omega.{arith}
use borrow.Author.Tests.{le-leb, lt-leb, eq-eqb, ne_eqb}
use lib.ListN.{length, drop, length-drop}
use Rattle.text.proofs.Laws.{written_nothing}
use Rattle.lane.specs.State.{State}
use Rattle.lane.specs.Layout.{Words, state_of}
use Rattle.console.specs.Limits.{answer_space}
use Rattle.console.specs.Blocks.{malformed, block_in}
use Rattle.console.specs.Output.{refusal}
use Rattle.console.specs.Program.{halted, without_room, ran, step_of, step_into, StepGives, Puts, BlockRun}

module _ (buffer : List ℕ) (s : State) (t : List ℕ) where
  pub too_short : length buffer < answer_space → step_into buffer s t ≡ without_room s
  unfolding step_into
  too_short h = rw (lt-leb answer_space (length buffer) h) refl

  pub step_into_is : answer_space ≤ length buffer → step_into buffer s t ≡ step_of s t
  unfolding step_into
  step_into_is h = rw (le-leb answer_space (length buffer) h) refl

pub at_end : (s : State) (t : List ℕ) → length t ≡ 0 → step_of s t ≡ halted s
unfolding step_of
at_end s t e = rw (eq-eqb (length t) 0 e) refl

pub at_block : (s : State) (t : List ℕ) → (length t ≡ 0 → ⊥) → step_of s t ≡ ran s (block_in t)
unfolding step_of
at_block s t h = rw (ne_eqb (length t) 0 h) refl

-- where nothing is done, refused or at the end, nothing is put
pub gives_nothing : (l : Words) (at number : ℕ) (buffer : List ℕ)
    → StepGives l (record { after = state_of l; keeps = true; used = 0; output = []; number = number; stop = true }) at buffer
    (record { next = at; written = 0; no = number; stop = true }) l buffer
gives_nothing l at number buffer =
    record {
      state = refl;
      kept = λ k. refl;
      prints = record { next = sym (add-zero at); written_length = refl; room = omega arith; bytes = sym (written_nothing 0 buffer); no = refl; stop = refl };
    }

module _ (before : Words) (input : List ℕ) (at : ℕ) (buffer : List ℕ) {after : Words} {left : List ℕ} {w : ℕ} where
  -- where a block is run, the place is that of what is left of the input
  pub block_ran : at ≤ length input → {rest : List ℕ} → BlockRun before (block_in (drop at input)) (drop at input) buffer w after left rest
      → StepGives before (ran (state_of before) (block_in (drop at input))) at buffer (record { next = length input - length rest; written = w; no = 0; stop = false }) after left
  block_ran h g =
      let p = g.gives.puts in
      rw g.block
      (record {
        state = g.gives.state;
        kept = g.gives.kept;
        prints = record {
          next = omega (arith, ap length g.rest_is, length-drop g.used (drop at input), length-drop at input, g.within, h);
          written_length = p.written_length;
          room = p.room;
          bytes = p.bytes;
          no = refl;
          stop = refl;
        };
      })

  -- where there is none, 8 is printed, and the lane is left as it is
  pub block_refused : block_in (drop at input) ≡ malformed → after ≡ before → {out : List ℕ} → out ≡ buffer → Puts (refusal 8) out w left
      → StepGives before (ran (state_of before) (block_in (drop at input))) at buffer (record { next = at; written = w; no = 0; stop = true }) after left
  block_refused e k f q =
      let p : Puts (refusal 8) buffer w left = rw f at q in
      rw e
      (record {
        state = ap state_of k;
        kept = λ t. k;
        prints = record { next = sym (add-zero at); written_length = p.written_length; room = p.room; bytes = p.bytes; no = refl; stop = refl };
      })
