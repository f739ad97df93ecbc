-- `lane::given::unfit` meets its contract, by whether a wish cannot be made.
use mathlib.Core.Path.{refl, sym, ◌∙◌}
use Rattle.lane.proofs.given.unfit.Goals as goal

pub returns-then-any_unknown : goal.returns-then-any_unknown
returns-then-any_unknown c = rw (sym c.any_unknown.ensures ∙ c.if-any_unknown.true) refl

pub returns-else-any_unknown : goal.returns-else-any_unknown
returns-else-any_unknown c = rw (sym c.any_unknown.ensures ∙ c.if-any_unknown.false) refl
