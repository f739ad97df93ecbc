use mathlib.Core.Path.{◌≡◌}
use Prim.Native.Nat.{◌≤◌}
use Rattle.lane.specs.Layout.{figures_in, tables_in, records_in}
use Rattle.lane.proofs.lists.Shift.{Opened}
use Rattle.lane.proofs.places.insert.Given as goal

abbrev pub invariant-loop-i : goal.invariant-loop-i
invariant-loop-i l =
    (l.place ≤ l.i)
    × (((figures_in l.l ≡ figures_in l.initial.l) × (tables_in l.l ≡ tables_in l.initial.l)) × Opened (records_in l.initial.l) (records_in l.l) l.f.count l.i)
