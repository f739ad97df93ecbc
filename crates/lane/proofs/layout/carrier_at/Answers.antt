-- A row's first five words are its record.
use Rattle.lane.proofs.checks.Records.{record_at}
use Rattle.lane.proofs.layout.carrier_at.Goals as goal

pub returns : goal.returns
returns c = record_at c.args.l.now c.args.place
