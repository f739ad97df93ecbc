-- `headway::Vehicle::safe_behind` meets its contract.
use native.Mathlib.Omega.{arith}
use Rattle.std.proofs.lemmas.Bool.Decides.{nat_tests}
use Rattle.headway.specs.Stopping.{safe_behind}
use Rattle.headway.specs.Totals.{rest_of, rated, safe_of}
use Rattle.headway.proofs.Vehicle.safe_behind.Goals as goal

pub returns-then-self-leader : goal.returns-then-self-leader
unfolding rest_of rated safe_of safe_behind
returns-then-self-leader c = grind (arith, nat_tests)

pub returns-else-self-leader : goal.returns-else-self-leader
unfolding rest_of rated safe_of safe_behind
returns-else-self-leader c = grind (arith, nat_tests)
