-- The words that a record has are copied.
use mathlib.Core.Path.{ap, ◌∙◌}
use lib.ListN.{set}
use Rattle.lane.specs.Layout.{records_in}
use Rattle.lane.proofs.layout.copy_record.Goals as goal

pub returns : goal.returns
returns c =
    let a = c.args in
    record { l_unchanged = c.put_carrier.ensures.l_unchanged; l_after = c.put_carrier.ensures.l_after ∙ ap (set (records_in a.l.now) a.to) c.carrier_at-c.ensures }
