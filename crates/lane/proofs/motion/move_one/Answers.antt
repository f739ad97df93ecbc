-- `lane::motion::move_one` meets its contract: the cycle leads to the next speed, and gains both.
use mathlib.Core.Path.{ap, ◌∙◌}
use lib.IntN.{pos, ◌-ℤ◌}
use mir.Facts.{to_z-of_z}
use Rattle.headway.specs.declared.Vehicle.{Vehicle}
use Rattle.headway.specs.Motion.{speed_after, position_after}
use Rattle.lane.proofs.driving.Drives.{moved_is}
use Rattle.lane.proofs.motion.move_one.Goals as goal

pub returns : goal.returns
returns c =
    let a = c.args in
    moved_is a.c a.acceleration (record { sum = c.requires.0; small = c.requires.1.0 }) c.reached.result c.next_speed-next.result
    (c.next_speed-next.ensures ∙ ap (speed_after a.c.speed) (to_z-of_z c.ranges.acceleration))
    (c.reached.ensures ∙ ap (λ (f : Vehicle). position_after f.position f.speed (pos c.next_speed-next.result -ℤ pos f.speed)) c.front.ensures)
