-- `headway::Vehicle::reached` meets its contract.
use native.Mathlib.Omega.{arith}
use Rattle.std.proofs.lemmas.Int.{ints}
use Rattle.headway.specs.Motion.{position_after}
use Rattle.headway.proofs.Vehicle.reached.Goals as goal

pub returns : goal.returns
unfolding position_after
returns c = omega (arith, ints)
