use Rattle.lane.specs.Layout.{records_in}
use Rattle.lane.proofs.driving.Converting.{Converting}
use Rattle.lane.proofs.motion.convert.Given as goal

abbrev pub invariant-loop-i : goal.invariant-loop-i
invariant-loop-i l =
    Converting l.count (records_in l.l) l.wishes l.units l.i
