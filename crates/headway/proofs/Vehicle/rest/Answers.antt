-- `headway::Vehicle::rest` meets its contract: at a rate of 0 it is 0, else the position and the distance together.
use borrow.Author.Rules.{rules}
use native.Mathlib.Omega.{arith}
use Rattle.std.proofs.lemmas.Bool.Decides.{nat_tests}
use Rattle.headway.specs.Totals.{rest_of}
use Rattle.headway.proofs.Stopping.{fits}
use Rattle.headway.proofs.Vehicle.rest.Goals as goal

pub returns-then-rate-eq0 : goal.returns-then-rate-eq0
unfolding rest_of
returns-then-rate-eq0 c = grind (arith, nat_tests)

pub overflow_add-result : goal.overflow_add-result
overflow_add-result c =
    let v = c.args.self in
    omega (arith, fits c.args.rate v.speed v.position (omega arith) (search rules) (search rules))

pub returns : goal.returns
unfolding rest_of
returns c = grind (arith, nat_tests)
