-- `console::runs::put_answer` meets its contract: a refusal prints its number, else the line handed in.
use borrow.Author.Tests.{ne_eqb}
use native.Mathlib.Omega.{arith}
use Rattle.lane.proofs.Refused.{number_is}
use Rattle.console.proofs.Printing.{puts, puts_refusal}
use Rattle.console.proofs.runs.put_answer.Goals as goal

pub returns-in-Ok : goal.returns-in-Ok
returns-in-Ok c = rw c.in-Ok.is (puts c.args.line.now (omega arith) (c.put_bytes.ensures.out_after, c.put_bytes.ensures.value))

pub returns-in-Err : goal.returns-in-Err
returns-in-Err c =
    rw (c.in-Err.is, ne_eqb _ 0 (number_is c.in-Err.why), ← c.number.ensures)
    (puts_refusal _ (omega arith) c.requires.0 (c.put_refusal.ensures.out_after, c.put_refusal.ensures.value))
