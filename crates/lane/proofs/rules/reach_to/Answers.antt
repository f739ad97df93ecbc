-- The sum is of 32 bits.
use Rattle.lane.proofs.rules.reach_to.Goals as goal

pub returns : goal.returns
returns c = c.narrow.ensures
