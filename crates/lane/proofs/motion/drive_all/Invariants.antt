use mathlib.Core.Path.{◌≡◌}
use Rattle.lane.specs.Layout.{figures_in, tables_in, records_in}
use Rattle.lane.proofs.driving.Cycles.{Driving}
use Rattle.lane.proofs.motion.drive_all.Given as goal

abbrev pub invariant-loop-i : goal.invariant-loop-i
invariant-loop-i l =
    ((figures_in l.l ≡ figures_in l.initial.l) × (tables_in l.l ≡ tables_in l.initial.l)) × Driving l.row l.road l.count (records_in l.initial.l) l.units (records_in l.l) l.left l.word l.ahead l.i
