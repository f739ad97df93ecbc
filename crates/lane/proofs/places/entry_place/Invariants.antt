use mathlib.Core.Path.{◌≡◌}
use Prim.Native.Nat.{◌+◌, ◌-◌, ◌≤◌}
use lib.ListN.{take}
use lib.Seq.{slice}
use Rattle.lane.specs.Layout.{records_in}
use Rattle.lane.specs.Calls.{walk}
use Rattle.lane.proofs.places.entry_place.Given as goal

abbrev pub invariant-loop-i : goal.invariant-loop-i
invariant-loop-i l =
    (l.i ≤ l.count) × (walk l.position (take l.count (records_in l.l)) ≡ l.i + walk l.position (slice l.i l.count (records_in l.l)))

abbrev pub decreases-loop-i : goal.decreases-loop-i
decreases-loop-i l = l.count - l.i
