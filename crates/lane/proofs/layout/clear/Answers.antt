-- Row after row as the definition has it.
use Rattle.std.proofs.Common.{rules}
use Rattle.lane.specs.Surface.{house_rows, row_of}
use Rattle.lane.proofs.layout.clear.Goals as goal

pub returns : goal.returns
unfolding house_rows row_of
returns c = search rules
