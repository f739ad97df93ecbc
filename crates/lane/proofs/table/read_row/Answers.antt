-- Each line is read where the one before ends.
use Rattle.text.proofs.GroupLaws.{group_end, group_stop, group_on, group_past}
use Rattle.lane.proofs.table.read_row.Goals as goal

pub returns-in_err-guaranteed : goal.returns-in_err-guaranteed
returns-in_err-guaranteed c = rw c.from_residual.ensures (group_stop _ _ _ c.in_err-guaranteed.ensures.0)

pub returns-in_err-hardest : goal.returns-in_err-hardest
returns-in_err-hardest c = rw c.from_residual-in_err-hardest.ensures (group_past _ _ _ c.in_ok-guaranteed.ensures (group_stop _ _ _ c.in_err-hardest.ensures.0))

pub returns-in_err-most : goal.returns-in_err-most
returns-in_err-most c = rw c.from_residual-in_err-most.ensures (group_past _ _ _ c.in_ok-guaranteed.ensures (group_past _ _ _ c.in_ok-hardest.ensures (group_stop _ _ _ c.in_err-most.ensures.0)))

pub returns : goal.returns
returns c = group_on _ _ _ c.in_ok-guaranteed.ensures (group_on _ _ _ c.in_ok-hardest.ensures (group_on _ _ _ c.in_ok-most.ensures (group_end _)))
