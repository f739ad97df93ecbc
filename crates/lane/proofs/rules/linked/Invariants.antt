use mathlib.Core.Path.{◌≡◌}
use Prim.Native.Nat.{◌-◌, ◌%◌, ◌≤◌, ◌<◌}
use lib.ListN.{get_or}
use lib.Seq.{slice}
use Rattle.lane.specs.Layout.{records_in}
use Rattle.lane.specs.Safety.{any_of, numbered}
use Rattle.lane.specs.Calls.{none}
use Rattle.lane.proofs.rules.linked.Given as goal

abbrev pub invariant-loop-place : goal.invariant-loop-place
invariant-loop-place l =
    (l.first ≤ l.place)
    × ((any_of (numbered l.number) (slice l.first l.count (records_in l.l)) ≡ any_of (numbered l.number) (slice l.place l.count (records_in l.l)))
    × (l.place < l.count → (get_or (records_in l.l) l.place none).number % 64 ≡ l.number % 64))

abbrev pub decreases-loop-place : goal.decreases-loop-place
decreases-loop-place l = l.count - l.place
