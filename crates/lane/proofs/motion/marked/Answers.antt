-- `lane::motion::marked` meets its contract: a bit above all that are set is added.
use native.Mathlib.Omega.{arith}
use Rattle.lane.proofs.lists.Words.{bit_set_is}
use Rattle.lane.proofs.motion.marked.Goals as goal

pub returns-then-flag : goal.returns-then-flag
returns-then-flag c = rw c.if-flag.true (bit_set_is c.args.word c.args.i c.requires.0 c.requires.1)

pub returns-else-flag : goal.returns-else-flag
returns-else-flag c = rw c.if-flag.false (omega arith)
