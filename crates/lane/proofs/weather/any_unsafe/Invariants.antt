use Rattle.lane.specs.Layout.{records_in}
use Rattle.lane.proofs.calls.Order.{Clear}
use Rattle.lane.proofs.weather.any_unsafe.Given as goal

abbrev pub invariant-loop-place : goal.invariant-loop-place
invariant-loop-place l = Clear l.row (records_in l.l) l.place
