-- `console::step` meets its contract: a short buffer is refused, at the end of the input nothing is done, else the block is read and run.
use mathlib.Core.Path.{ap}
use native.Mathlib.Omega.{arith}
use lib.ListN.{length, drop, length-drop}
use Rattle.lane.specs.Layout.{state_of}
use Rattle.console.proofs.Printing.{puts_refusal}
use Rattle.console.proofs.Steps.{too_short, step_into_is, at_end, at_block, gives_nothing, block_ran, block_refused}
use Rattle.console.proofs.step.Goals as goal

pub returns-then-out-lt-ANSWER_SPACE : goal.returns-then-out-lt-ANSWER_SPACE
returns-then-out-lt-ANSWER_SPACE c =
    let a = c.args in
    rw (c.halted.ensures, too_short a.out.now (state_of a.l.now) (drop a.at a.input.now) c.if-out-lt-ANSWER_SPACE.true)
    (gives_nothing a.l.now a.at 13 a.out.now)

pub returns-then-input-at : goal.returns-then-input-at
returns-then-input-at c =
    let a = c.args in
    let t = drop a.at a.input.now in
    let s = state_of a.l.now in
    rw (c.halted-then-input-at.ensures, step_into_is a.out.now s t (omega arith), at_end s t (omega (arith, length-drop a.at a.input.now)))
    (gives_nothing a.l.now a.at 0 a.out.now)

pub returns-in-Some : goal.returns-in-Some
returns-in-Some c =
    let a = c.args in
    let t = drop a.at a.input.now in
    let s = state_of a.l.now in
    rw (step_into_is a.out.now s t (omega arith), at_block s t (λ e. omega (arith, length-drop a.at a.input.now)))
    (block_ran a.l.now a.input.now a.at a.out.now (omega arith) (rw c.at-lines.ensures at c.in-Some.ensures))

pub returns-in-None : goal.returns-in-None
returns-in-None c =
    let a = c.args in
    let t = drop a.at a.input.now in
    let s = state_of a.l.now in
    let none = rw c.at-lines.ensures at c.in-None.ensures in
    let put = puts_refusal 8 (omega arith) (omega (arith, ap length none.2)) (c.put_refusal.ensures.out_after, c.put_refusal.ensures.value) in
    rw (step_into_is a.out.now s t (omega arith), at_block s t (λ e. omega (arith, length-drop a.at a.input.now)))
    (block_refused a.l.now a.input.now a.at a.out.now none.0 none.1 none.2 put)
