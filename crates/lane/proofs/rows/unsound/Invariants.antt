use mathlib.Core.Path.{◌≡◌}
use mathlib.Core.Bool.{false}
use mathlib.Core.List.{map}
use Prim.Native.Nat.{◌≤◌}
use Rattle.lane.specs.Surface.{unsound_below}
use Rattle.lane.specs.Layout.{surface_in}
use Rattle.lane.proofs.rows.unsound.Given as goal

abbrev pub invariant-loop-row : goal.invariant-loop-row
invariant-loop-row l = (l.row-index ≤ 8) × (unsound_below l.row-index (map surface_in l.row-items) ≡ false)
