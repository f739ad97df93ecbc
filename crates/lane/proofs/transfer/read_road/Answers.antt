-- Each line is read where the one before ends.
use Rattle.text.proofs.GroupLaws.{group_end, group_stop, group_on, group_past}
use Rattle.lane.proofs.transfer.read_road.Goals as goal

pub returns-in_err-surface : goal.returns-in_err-surface
returns-in_err-surface c = rw c.from_residual.ensures (group_stop _ _ _ c.in_err-surface.ensures.0)

pub returns-in_err-end : goal.returns-in_err-end
returns-in_err-end c = rw c.from_residual-in_err-end.ensures (group_past _ _ _ c.in_ok-surface.ensures (group_stop _ _ _ c.in_err-end.ensures.0))

pub returns-in_err-limit : goal.returns-in_err-limit
returns-in_err-limit c = rw c.from_residual-in_err-limit.ensures (group_past _ _ _ c.in_ok-surface.ensures (group_past _ _ _ c.in_ok-end.ensures (group_stop _ _ _ c.in_err-limit.ensures.0)))

pub returns-in_err-cycle : goal.returns-in_err-cycle
returns-in_err-cycle c = rw c.from_residual-in_err-cycle.ensures (group_past _ _ _ c.in_ok-surface.ensures (group_past _ _ _ c.in_ok-end.ensures (group_past _ _ _ c.in_ok-limit.ensures (group_stop _ _ _ c.in_err-cycle.ensures.0))))

pub returns : goal.returns
returns c = group_on _ _ _ c.in_ok-surface.ensures (group_on _ _ _ c.in_ok-end.ensures (group_on _ _ _ c.in_ok-limit.ensures (group_on _ _ _ c.in_ok-cycle.ensures (group_end _))))
