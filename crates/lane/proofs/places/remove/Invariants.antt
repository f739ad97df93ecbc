use mathlib.Core.Path.{◌≡◌}
use Rattle.lane.specs.Layout.{figures_in, tables_in, records_in}
use Rattle.lane.proofs.lists.Shift.{Closed}
use Rattle.lane.proofs.places.remove.Given as goal

abbrev pub invariant-loop-i : goal.invariant-loop-i
invariant-loop-i l =
    ((figures_in l.l ≡ figures_in l.initial.l) × (tables_in l.l ≡ tables_in l.initial.l)) × Closed (records_in l.initial.l) (records_in l.l) l.place l.i
