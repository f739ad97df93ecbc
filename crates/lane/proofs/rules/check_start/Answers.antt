-- The rows for the next start come before the road.
use mathlib.Core.Path.{refl, ◌∙◌}
use Rattle.lane.specs.Calls.{start_no}
use Rattle.lane.proofs.rules.check_start.Goals as goal

pub returns-then-unsound_in : goal.returns-then-unsound_in
unfolding start_no
returns-then-unsound_in c = rw (← c.unsound_in.ensures, c.if-unsound_in.true) refl

pub returns : goal.returns
unfolding start_no
returns c = c.check_road.ensures ∙ rw (← c.unsound_in.ensures, c.if-unsound_in.false) refl
