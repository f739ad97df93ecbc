-- What is written stays within the slice.
use Rattle.std.proofs.Common.{◌≤◌, length}
use Rattle.supervise.proofs.pipe.write_whole.Given as goal

abbrev pub invariant-loop : goal.invariant-loop
invariant-loop g l = l.at ≤ length l.buf
