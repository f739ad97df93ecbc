use mathlib.Core.Path.{refl}
use Rattle.lane.specs.Rules.{unlawful}
use Rattle.lane.proofs.rules.unlawful.Goals as goal

pub returns : goal.returns
unfolding unlawful
returns c = rw (c.bad_number.ensures, c.bad_rate.ensures) refl
