use mathlib.Core.List.{map}
use Rattle.lane.specs.Surface.{row_of}
use Rattle.lane.specs.Layout.{surface_in}
use Rattle.lane.proofs.checks.Tables.{Put}
use Rattle.lane.proofs.layout.put_next.Given as goal

abbrev pub invariant-loop-code : goal.invariant-loop-code
invariant-loop-code l = Put 9 1 (row_of (map surface_in l.table)) l.initial.l l.l l.code
