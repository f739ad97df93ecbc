-- The five tests are the definition's.
use Rattle.std.proofs.Common.{rules}
use Rattle.lane.specs.Surface.{sound_row}
use Rattle.lane.proofs.rows.sound.Goals as goal

pub returns : goal.returns
unfolding sound_row
returns c = search rules
