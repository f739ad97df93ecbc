use mathlib.Core.Path.{◌≡◌}
use Prim.Native.Nat.{◌+◌, ◌*◌, ◌≤◌}
use lib.ListN.{length, take}
use lib.Seq.{slice}
use Rattle.lane.specs.Layout.{records_in}
use Rattle.lane.specs.Listing.{carriers_text}
use Rattle.lane.proofs.listing.text_length.Given as goal

abbrev pub invariant-loop-i : goal.invariant-loop-i
invariant-loop-i l =
    (l.n ≤ 26 + 131 * l.i)
    × (l.n + length (carriers_text (slice l.i l.i-end (records_in l.l))) ≡ l.initial.n + length (carriers_text (take l.i-end (records_in l.l))))
