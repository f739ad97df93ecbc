use mathlib.Core.Path.{◌≡◌}
use Prim.Native.Nat.{◌+◌, ◌*◌, ◌≤◌}
use lib.ListN.{length, drop}
use Rattle.lane.specs.Layout.{table_from}
use Rattle.lane.specs.Table.{table_text}
use Rattle.lane.proofs.table.text_length.Given as goal

abbrev pub invariant-loop-code : goal.invariant-loop-code
invariant-loop-code l =
    (l.n ≤ 69 * l.code) × (l.n + length (table_text (drop l.code (table_from l.table l.l))) ≡ length (table_text (table_from l.table l.l)))
