-- `lane::motion::wish_stands` meets its contract: the three ways in which a trimmed wish stands, in their order.
use borrow.Author.Rules.{rules}
use mathlib.Core.Path.{◌≡◌, sym, ap₂, ◌∙◌}
use mathlib.Core.Bool.{Bool}
use lib.Signed.{le_z}
use mir.Syntax.{w64}
use mir.Val.{SFits, to_z, of_z}
use mir.Facts.{to_z-of_z}
use Rattle.headway.specs.Stopping.{braking}
use Rattle.lane.specs.Safety.{guaranteed_rate}
use Rattle.lane.proofs.driving.Drives.{foremost_stands, braking_stands, test_stands}
use Rattle.lane.proofs.motion.wish_stands.Goals.{After-braking}
use Rattle.lane.proofs.motion.wish_stands.Goals as goal

module _ (c : After-braking) where
  -- the test against guaranteed braking, said of the wish itself
  tested : (t : Bool) → le_z (to_z w64 (of_z w64 c.args.w)) (to_z w64 (of_z w64 c.braking.result)) ≡ t
      → le_z c.args.w (braking (guaranteed_rate c.args.row c.args.c) c.args.c.speed) ≡ t
  tested t e =
      let f : SFits w64 c.braking.result = search rules in
      let rate = c.guaranteed_rate.ensures in
      let speed = c.narrow.ensures in
      ap₂ le_z (sym (to_z-of_z c.ranges.w)) (sym (to_z-of_z f ∙ c.braking.ensures ∙ ap₂ braking rate speed)) ∙ e

pub returns-then-foremost : goal.returns-then-foremost
returns-then-foremost c =
    let a = c.args in
    foremost_stands a.row a.foremost a.ahead a.c a.w c.if-foremost.true

pub returns-then-w-braking : goal.returns-then-w-braking
returns-then-w-braking c =
    let a = c.args in
    braking_stands a.row a.foremost a.ahead a.c a.w c.if-foremost.false (tested (goal.at.returns-then-w-braking c).After-braking _ c.if-w-braking.true)

pub returns : goal.returns
returns c =
    let a = c.args in
    c.rests_behind.ensures
    ∙ rw (c.reach.ensures, c.front.ensures, c.rates.ensures, to_z-of_z c.ranges.w)
    (test_stands a.row a.foremost a.ahead a.c a.w c.if-foremost.false c.requires.bound.0 c.requires.bound.1
    (record { sum = c.requires.w_value.0; small = c.requires.w_value.1 }) (tested (goal.at.returns c).After-braking _ c.if-w-braking.false))
