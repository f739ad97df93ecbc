-- A lane breaks a rule where check 21 refuses something.
use mathlib.Core.Path.{ap, ◌∙◌}
use Rattle.lane.specs.Refusals.{outcome_no}
use Rattle.lane.proofs.checks.Checks.{broken_by}
use Rattle.lane.proofs.rules.check_sound.Goals as goal

pub returns : goal.returns
returns c = ap outcome_no c.or.ensures ∙ broken_by _ _ c.check_lane.ensures
