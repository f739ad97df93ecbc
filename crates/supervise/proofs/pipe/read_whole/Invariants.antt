-- What is read stays within the buffer, whose length does not change.
use Rattle.std.proofs.Common.{◌≡◌, ◌≤◌, length}
use Rattle.supervise.proofs.pipe.read_whole.Given as goal

abbrev pub invariant-loop : goal.invariant-loop
invariant-loop g l = (length l.buf ≡ length l.initial.buf) × (l.at ≤ length l.buf)
