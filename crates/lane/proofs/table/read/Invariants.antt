use mathlib.Core.Path.{◌≡◌}
use lib.ListN.{length, take}
use Rattle.text.proofs.GroupLaws.{GroupsRead}
use Rattle.lane.specs.Table.{row_keys}
use Rattle.lane.proofs.table.read.Given as goal

abbrev pub invariant-loop-row : goal.invariant-loop-row
invariant-loop-row l = (length l.row-items ≡ 8) × GroupsRead row_keys 8 l.initial.lines.rest.now l.row-index (take l.row-index l.row-items) l.lines.rest.now
