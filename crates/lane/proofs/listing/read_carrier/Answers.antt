-- Each line is read where the one before ends.
use Rattle.text.proofs.GroupLaws.{group_end, group_stop, group_on, group_past}
use Rattle.lane.proofs.listing.read_carrier.Goals as goal

pub returns-in_err-number : goal.returns-in_err-number
returns-in_err-number c = rw c.from_residual.ensures (group_stop _ _ _ c.in_err-number.ensures.0)

pub returns-in_err-position : goal.returns-in_err-position
returns-in_err-position c = rw c.from_residual-in_err-position.ensures (group_past _ _ _ c.in_ok-number.ensures (group_stop _ _ _ c.in_err-position.ensures.0))

pub returns-in_err-speed : goal.returns-in_err-speed
returns-in_err-speed c = rw c.from_residual-in_err-speed.ensures (group_past _ _ _ c.in_ok-number.ensures (group_past _ _ _ c.in_ok-position.ensures (group_stop _ _ _ c.in_err-speed.ensures.0)))

pub returns-in_err-length : goal.returns-in_err-length
returns-in_err-length c = rw c.from_residual-in_err-length.ensures (group_past _ _ _ c.in_ok-number.ensures (group_past _ _ _ c.in_ok-position.ensures (group_past _ _ _ c.in_ok-speed.ensures (group_stop _ _ _ c.in_err-length.ensures.0))))

pub returns-in_err-rate : goal.returns-in_err-rate
returns-in_err-rate c = rw c.from_residual-in_err-rate.ensures (group_past _ _ _ c.in_ok-number.ensures (group_past _ _ _ c.in_ok-position.ensures (group_past _ _ _ c.in_ok-speed.ensures (group_past _ _ _ c.in_ok-length.ensures (group_stop _ _ _ c.in_err-rate.ensures.0)))))

pub returns : goal.returns
returns c = group_on _ _ _ c.in_ok-number.ensures (group_on _ _ _ c.in_ok-position.ensures (group_on _ _ _ c.in_ok-speed.ensures (group_on _ _ _ c.in_ok-length.ensures (group_on _ _ _ c.in_ok-rate.ensures (group_end _)))))
