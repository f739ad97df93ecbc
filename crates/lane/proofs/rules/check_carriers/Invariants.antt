use Rattle.lane.specs.Layout.{records_in}
use Rattle.lane.proofs.checks.Faults.{Passed}
use Rattle.lane.proofs.rules.check_carriers.Given as goal

abbrev pub invariant-loop-i : goal.invariant-loop-i
invariant-loop-i l = Passed l.road l.row (records_in l.l) l.count l.first l.next l.behind l.stop l.safe l.i
