use mathlib.Core.Path.{◌≡◌}
use mathlib.Core.Bool.{false}
use Prim.Native.Nat.{◌≤◌}
use Rattle.lane.specs.Surface.{unsound_below}
use Rattle.lane.specs.Layout.{table_from}
use Rattle.lane.proofs.rows.unsound_in.Given as goal

abbrev pub invariant-loop-code : goal.invariant-loop-code
invariant-loop-code l = (l.code ≤ 8) × (unsound_below l.code (table_from l.table l.l) ≡ false)
