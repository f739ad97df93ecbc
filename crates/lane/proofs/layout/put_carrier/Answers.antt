-- A row put is a record put.
use Rattle.lane.proofs.checks.Records.{records_set, head_kept}
use Rattle.lane.proofs.layout.put_carrier.Goals as goal

pub returns : goal.returns
returns c = let a = c.args in
    record { l_unchanged = head_kept a.l.now a.place _; l_after = records_set a.l.now a.place _ }
