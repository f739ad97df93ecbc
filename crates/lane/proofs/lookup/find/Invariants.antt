use mathlib.Core.Path.{◌≡◌}
use Prim.Native.Nat.{◌+◌}
use Rattle.std.specs.Prelude.{None}
use lib.ListN.{length}
use lib.Seq.{slice}
use Rattle.lane.specs.Layout.{state_of}
use Rattle.lane.specs.Safety.{first_place, numbered}
use Rattle.lane.proofs.lookup.find.Given as goal

abbrev pub invariant-loop-place : goal.invariant-loop-place
invariant-loop-place l =
    (l.lookup ≡ record { found = None; looked = l.place })
    × (first_place (numbered l.number) (state_of l.l).carriers ≡ l.place + first_place (numbered l.number) (slice l.place (length (state_of l.l).carriers) (state_of l.l).carriers))
