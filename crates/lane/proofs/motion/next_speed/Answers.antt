-- `lane::motion::next_speed` meets its contract: the machine's sum is the speed that is meant.
use mathlib.Core.Path.{◌≡◌, refl, ap, ap₂, ◌∙◌}
use Prim.Native.Nat.{ℕ}
use native.Mathlib.Omega.{arith}
use lib.IntN.{pos, ◌+ℤ◌}
use mir.Syntax.{w64}
use mir.Val.{SFits, to_z, of_z}
use mir.Facts.{to_z-of_z, to_z_pos}
use Rattle.headway.specs.Motion.{speed_after}
use Rattle.lane.proofs.motion.next_speed.Goals.{After-narrow}
use Rattle.lane.proofs.motion.next_speed.Goals as goal

module _ (c : After-narrow) where
  abbrev next : ℕ
  next = speed_after c.args.c.speed c.args.acceleration

  sum : to_z w64 c.narrow.result +ℤ to_z w64 (of_z w64 c.args.acceleration) ≡ pos next
  sum =
      ap₂ ◌+ℤ◌ (to_z_pos w64 {n = c.narrow.result} (omega (arith, c.narrow.ensures, c.requires.1.1)) ∙ ap pos c.narrow.ensures)
      (to_z-of_z c.ranges.acceleration)
      ∙ c.requires.0

  sum_fits : SFits w64 (to_z w64 c.narrow.result +ℤ to_z w64 (of_z w64 c.args.acceleration))
  sum_fits = rw sum (record { sfits = omega (arith, c.requires.1.0) })

  sum_read : to_z w64 (of_z w64 (to_z w64 c.narrow.result +ℤ to_z w64 (of_z w64 c.args.acceleration))) ≡ pos next
  sum_read = to_z-of_z sum_fits ∙ sum

pub overflow_add-result : goal.overflow_add-result
overflow_add-result c = sum_fits (goal.at.overflow_add-result c).After-narrow

pub overflow_cast-result-2 : goal.overflow_cast-result-2
overflow_cast-result-2 c = rw (sum_read (goal.at.overflow_cast-result-2 c).After-narrow) (tt, record { fits = omega (arith, c.requires.1.0) })

pub returns : goal.returns
returns c = rw (sum_read (goal.at.returns c).After-narrow) refl
