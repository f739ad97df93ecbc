-- At rates of at least 1 it is headway's test of the two.
use mathlib.Core.Path.{◌∙◌}
use Rattle.headway.proofs.Laws.{safe_is}
use Rattle.lane.specs.Safety.{safe_with}
use Rattle.lane.proofs.rules.safe.Goals as goal

pub returns : goal.returns
unfolding safe_with
returns c =
    c.safe_behind.ensures
    ∙ rw (c.reach.ensures, c.front.ensures, c.rates.ensures)
    (safe_is _ _ _ _ _ _ c.requires.bound.0 c.requires.bound.1)
