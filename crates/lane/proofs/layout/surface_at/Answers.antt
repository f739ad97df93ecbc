-- A row's first three words are its surface row.
use Rattle.lane.proofs.checks.Records.{surface_at}
use Rattle.lane.proofs.layout.surface_at.Goals as goal

pub returns : goal.returns
returns c = let a = c.args in surface_at a.l.now a.table a.code c.requires.1
