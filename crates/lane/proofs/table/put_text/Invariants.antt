use lib.ListN.{drop}
use Rattle.text.proofs.Laws.{Putting}
use Rattle.lane.specs.Layout.{table_from}
use Rattle.lane.specs.Table.{table_text}
use Rattle.lane.proofs.table.put_text.Given as goal

abbrev pub invariant-loop-code : goal.invariant-loop-code
invariant-loop-code l = Putting (table_text (table_from l.table l.l)) l.at l.initial.out l.out l.place (table_text (drop l.code (table_from l.table l.l)))
