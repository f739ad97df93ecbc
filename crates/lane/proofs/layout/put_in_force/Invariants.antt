use Rattle.lane.specs.Surface.{row_of}
use Rattle.lane.specs.Layout.{table_from}
use Rattle.lane.proofs.checks.Tables.{Put}
use Rattle.lane.proofs.layout.put_in_force.Given as goal

abbrev pub invariant-loop-code : goal.invariant-loop-code
invariant-loop-code l = Put 1 9 (row_of (table_from 9 l.initial.l)) l.initial.l l.l l.code
