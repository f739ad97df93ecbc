-- A row put is a surface row put.
use mathlib.Core.Path.{refl}
use Rattle.lane.proofs.layout.put_surface.Goals as goal

pub returns : goal.returns
returns c = (_, (refl, refl))
