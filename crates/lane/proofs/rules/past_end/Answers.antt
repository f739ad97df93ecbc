-- A tail before the lane's start is before its end; any other is where the subtraction finds it.
use mathlib.Core.Path.{sym}
use Prim.Native.Nat.{◌+◌}
use native.Mathlib.Omega.{arith}
use borrow.Author.Tests.{lt-leb}
use Rattle.lane.specs.Rules.{past_end}
use Rattle.lane.proofs.lists.Tests.{less_leb}
use Rattle.lane.proofs.rules.past_end.Goals as goal

pub returns-then-c : goal.returns-then-c
unfolding past_end
returns-then-c c = let a = c.args in sym (lt-leb (a.road.end + a.c.length) a.c.position (omega arith))

pub returns : goal.returns
unfolding past_end
returns c = let a = c.args in less_leb a.road.end a.c.position a.c.length (omega arith)
