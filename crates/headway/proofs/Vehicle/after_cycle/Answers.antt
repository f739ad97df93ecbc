-- `headway::Vehicle::after_cycle` meets its contract.
use native.Mathlib.Omega.{arith}
use mir.Facts.{to_z-of_z}
use Rattle.std.proofs.lemmas.Int.{ints}
use Rattle.headway.specs.Motion.{speed_after}
use Rattle.headway.specs.Totals.{moved_of, is_speed}
use Rattle.headway.proofs.Vehicle.after_cycle.Goals as goal

pub returns-in_err-sum : goal.returns-in_err-sum
unfolding moved_of is_speed
returns-in_err-sum c = grind (arith, ints, to_z-of_z, c.in_err-sum.ensures)

pub returns-in_err-next : goal.returns-in_err-next
unfolding moved_of is_speed
returns-in_err-next c = grind (arith, ints, to_z-of_z, c.in_err-next.ensures)

pub returns : goal.returns
unfolding moved_of is_speed speed_after
returns c = grind (arith, ints, to_z-of_z, c.in_ok-next.ensures)
