use mathlib.Core.Path.{◌≡◌}
use Rattle.lane.specs.Layout.{figures_in, tables_in, records_in}
use Rattle.lane.proofs.calls.Read.{CarriersRead}
use Rattle.lane.proofs.listing.read_carriers.Given as goal

abbrev pub invariant-loop-place : goal.invariant-loop-place
invariant-loop-place l =
    ((figures_in l.l ≡ figures_in l.initial.l) × (tables_in l.l ≡ tables_in l.initial.l))
    × CarriersRead l.count l.initial.lines.rest.now l.place (records_in l.l) l.lines.rest.now
