-- The carriers are the first `count` of 64 records.
use mathlib.Core.Path.{◌≡◌, ap}
use lib.ListN.{length-take}
use Rattle.lane.specs.declared.layout.Figures.{Figures}
use Rattle.lane.specs.Layout.{figures_in, records_in}
use Rattle.lane.proofs.lookup.present.Goals as goal

pub returns : goal.returns
returns c =
    let f = c.figures_of-f in
    let counted : f.result.count ≡ (figures_in c.args.l.now).count = ap (λ (f : Figures). f.count) f.ensures.value in
    rw (length-take (figures_in c.args.l.now).count (records_in c.args.l.now), f.ensures.l_len, ← counted) c.min.ensures
