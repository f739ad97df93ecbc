-- `headway::braking` meets its contract: the smaller of rate and speed, negated.
use native.Mathlib.Omega.{arith}
use Rattle.std.proofs.lemmas.Int.{ints}
use Rattle.headway.specs.Stopping.{braking}
use Rattle.headway.proofs.braking.Goals as goal

pub returns : goal.returns
unfolding braking
returns c = omega (arith, ints)
