-- `headway::stopping_distance` meets its contract: at a rate of 0 there is no stop, else `distance` gives it.
use native.Mathlib.Omega.{arith}
use Rattle.std.proofs.lemmas.Bool.Decides.{nat_tests}
use Rattle.headway.specs.Totals.{stop_of}
use Rattle.headway.proofs.stopping_distance.Goals as goal

pub returns-then-rate-eq0 : goal.returns-then-rate-eq0
unfolding stop_of
returns-then-rate-eq0 c = grind (arith, nat_tests)

pub returns-else-rate-eq0 : goal.returns-else-rate-eq0
unfolding stop_of
returns-else-rate-eq0 c = grind (arith, nat_tests)
