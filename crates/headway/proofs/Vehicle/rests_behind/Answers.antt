-- `headway::Vehicle::rests_behind` meets its contract: it goes by where the cycle leads, if to a speed at all.
use native.Mathlib.Omega.{arith}
use mir.Facts.{to_z-of_z}
use Rattle.std.proofs.lemmas.Bool.Decides.{nat_tests}
use Rattle.headway.specs.Totals.{moved_of, passes_of, rests_below, rest_of, rated}
use Rattle.headway.specs.Wishes.{rests_behind}
use Rattle.headway.proofs.Vehicle.rests_behind.Goals as goal

pub returns : goal.returns
unfolding moved_of passes_of rests_below rest_of rated rests_behind
returns c = grind (arith, nat_tests, to_z-of_z)
