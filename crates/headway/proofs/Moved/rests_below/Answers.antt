-- `headway::Moved::rests_below` meets its contract, compared by difference.
use native.Mathlib.Omega.{arith}
use Rattle.std.proofs.lemmas.Bool.Decides.{nat_tests}
use Rattle.headway.specs.Totals.{rests_below}
use Rattle.headway.proofs.Moved.rests_below.Goals as goal

pub returns-then-self-bound : goal.returns-then-self-bound
unfolding rests_below
returns-then-self-bound c = grind (arith, nat_tests)

pub returns-else-self-bound : goal.returns-else-self-bound
unfolding rests_below
returns-else-self-bound c = grind (arith, nat_tests)
