-- The checks are made in the order of `values_no`, and each answer is the first that fails.
use mathlib.Core.Path.{◌≡◌, refl}
use mathlib.Core.Bool.{cond}
use borrow.Author.Tests.{lt-ltb, le-ltb}
use Rattle.lane.specs.Rules.{values_no}
use Rattle.lane.proofs.rules.check_values.Goals.{After-bad_rate}
use Rattle.lane.proofs.rules.check_values.Goals as goal

pub returns-then-road-c : goal.returns-then-road-c
returns-then-road-c c = rw (lt-ltb _ _ c.if-road-c.true) refl

pub returns-then-c-gt-LONGEST_CARRIER : goal.returns-then-c-gt-LONGEST_CARRIER
returns-then-c-gt-LONGEST_CARRIER c = rw (le-ltb _ _ c.if-road-c.false, lt-ltb _ _ c.if-c-gt-LONGEST_CARRIER.true) refl

-- past speed and length the own rate decides
rate_decides : (c : After-bad_rate) → let a = c.args in values_no a.road a.c ≡ cond c.bad_rate.result 35 0
rate_decides c =
    rw (le-ltb _ _ c.if-road-c.false, le-ltb _ _ c.if-c-gt-LONGEST_CARRIER.false, c.bad_rate.ensures) refl

pub returns-then-bad_rate : goal.returns-then-bad_rate
returns-then-bad_rate c = rw (rate_decides (goal.at.returns-then-bad_rate c).After-bad_rate, c.if-bad_rate.true) refl

pub returns : goal.returns
returns c = rw (rate_decides (goal.at.returns c).After-bad_rate, c.if-bad_rate.false) refl
