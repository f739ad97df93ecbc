use mathlib.Core.Path.{refl}
use Rattle.lane.proofs.rules.rest.Goals as goal

pub returns : goal.returns
returns c = rw (c.rest.ensures, c.front.ensures) refl
