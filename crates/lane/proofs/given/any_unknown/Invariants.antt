use mathlib.Core.Path.{◌≡◌}
use Prim.Native.Nat.{◌≤◌}
use lib.ListN.{length, take}
use lib.Seq.{slice}
use Rattle.lane.specs.Given.{any_unknown}
use Rattle.lane.proofs.given.any_unknown.Given as goal

abbrev pub invariant-loop-i : goal.invariant-loop-i
invariant-loop-i l =
    (l.count ≤ length l.sorts) × ((l.count ≤ length l.values)
    × (any_unknown (take l.count l.sorts) (take l.count l.values) ≡ any_unknown (slice l.i l.count l.sorts) (slice l.i l.count l.values)))
