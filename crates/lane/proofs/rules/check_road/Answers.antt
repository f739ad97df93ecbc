-- The checks are made in the order of `road_no`, and each answer is the first that fails.
use mathlib.Core.Path.{refl}
use borrow.Author.Tests.{lt-ltb, le-ltb}
use Rattle.lane.specs.Rules.{road_no}
use Rattle.lane.proofs.rules.check_road.Goals as goal

pub returns-then-road-gt-LAST_SURFACE : goal.returns-then-road-gt-LAST_SURFACE
unfolding road_no
returns-then-road-gt-LAST_SURFACE c = rw (lt-ltb _ _ c.if-road-gt-LAST_SURFACE.true) refl

pub returns-then-road : goal.returns-then-road
unfolding road_no
returns-then-road c = rw (le-ltb _ _ c.if-road-gt-LAST_SURFACE.false, c.if-road.true) refl

pub returns-then-road-2 : goal.returns-then-road-2
unfolding road_no
returns-then-road-2 c = rw (le-ltb _ _ c.if-road-gt-LAST_SURFACE.false, c.if-road.false, c.if-road-2.true) refl

pub returns : goal.returns
unfolding road_no
returns c = rw (le-ltb _ _ c.if-road-gt-LAST_SURFACE.false, c.if-road.false, c.if-road-2.false) refl
