-- `console::runs::run_show` meets its contract: a broken lane prints 21, else `ok=show` stands before the lane text.
use borrow.Author.Rules.{rules}
use mathlib.Core.Path.{refl}
use native.Mathlib.Omega.{arith}
use Rattle.lane.proofs.Refused.{number_is}
use Rattle.console.proofs.Printing.{puts_refusal}
use Rattle.console.proofs.Showing.{show_fits, show_refused, show_accepted}
use Rattle.console.proofs.runs.run_show.Goals as goal

pub returns-in-Err : goal.returns-in-Err
returns-in-Err c =
    show_refused c.args.l.now c.args.out.now c.requires c.in-Err.ensures (number_is c.in-Err.why)
    (rw (← c.number.ensures) (puts_refusal _ (omega arith) (search rules) (c.put_refusal.ensures.out_after, c.put_refusal.ensures.value)))

pub returns-in-Ok : goal.returns-in-Ok
returns-in-Ok c =
    show_accepted c.args.l.now c.args.out.now c.requires c.in-Ok.ensures refl (c.put_bytes.ensures.out_after, c.put_bytes.ensures.value)

pub overflow_add-result : goal.overflow_add-result
overflow_add-result c =
    let a = c.args in
    omega (arith, show_fits a.l.now a.out.now c.requires c.in-Ok.ensures refl (c.put_bytes.ensures.out_after, c.put_bytes.ensures.value))
