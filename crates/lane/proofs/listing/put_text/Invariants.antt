use lib.ListN.{take}
use lib.Seq.{slice}
use Rattle.text.proofs.Laws.{Putting}
use Rattle.lane.specs.Layout.{records_in}
use Rattle.lane.specs.Listing.{carriers_text}
use Rattle.lane.proofs.listing.put_text.Given as goal

abbrev pub invariant-loop-i : goal.invariant-loop-i
invariant-loop-i l =
    Putting (carriers_text (take l.i-end (records_in l.l))) l.initial.place l.initial.out l.out l.place (carriers_text (slice l.i l.i-end (records_in l.l)))
