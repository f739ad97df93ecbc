-- `console::refuse_long` meets its contract: an input above 65,536 bytes is refused by 10, and for any other nothing is put.
use mathlib.Core.List.{[]}
use borrow.Author.Tests.{lt-ltb, le-ltb}
use native.Mathlib.Omega.{arith}
use Rattle.console.specs.Limits.{longest_input}
use Rattle.console.specs.Output.{refusal}
use Rattle.console.specs.Program.{too_long, length_answer}
use Rattle.console.proofs.Printing.{put_within, put_nothing}
use Rattle.console.proofs.refuse_long.Goals as goal

pub returns-then-bytes-gt-LONGEST_INPUT : goal.returns-then-bytes-gt-LONGEST_INPUT
unfolding too_long length_answer
returns-then-bytes-gt-LONGEST_INPUT c =
    let a = c.args in
    let put = put_within (refusal 10) a.out.now (c.put_refusal.ensures.out_after, c.put_refusal.ensures.value) in
    let long = lt-ltb longest_input a.bytes c.if-bytes-gt-LONGEST_INPUT.true in
    record { buffer = rw long put.0; length = rw long put.1.0; room = put.1.1 }

pub returns : goal.returns
unfolding too_long length_answer
returns c =
    let a = c.args in
    let put = put_within [] a.out.now (put_nothing a.out.now) in
    let short = le-ltb longest_input a.bytes (omega arith) in
    record { buffer = rw short put.0; length = rw short put.1.0; room = put.1.1 }
