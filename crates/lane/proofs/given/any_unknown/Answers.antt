-- `lane::given::any_unknown` meets its contract. The invariant: whether a wish is unknown goes by those that are still to be looked at.
use mathlib.Core.Path.{◌≡◌, sym, ap, ◌∙◌}
use mathlib.Core.Bool.{Bool, not}
use native.Mathlib.Omega.{arith}
use lib.ListN.{get_or}
use Rattle.lane.specs.Given.{wish_made, is_unknown}
use Rattle.lane.proofs.driving.Making.{unknown_here, known_here, all_known}
use Rattle.lane.proofs.given.any_unknown.Goals.{After-is_none}
use Rattle.lane.proofs.given.any_unknown.Goals as goal

module _ (u : After-is_none) where
  -- whether the wish at the loop's place is unknown
  told : (t : Bool) → u.is_none.result ≡ t → is_unknown (wish_made (get_or u.args.sorts.now u.loop-i.i 0) (get_or u.args.values.now u.loop-i.i 0)) ≡ not (not t)
  told t e = sym u.make.ensures.unknown ∙ ap not (u.is_none.ensures ∙ ap not e)

pub bounds-sorts-i : goal.bounds-sorts-i
bounds-sorts-i c = omega arith

pub bounds-values-i : goal.bounds-values-i
bounds-values-i c = omega arith

pub returns-then-is_none : goal.returns-then-is_none
returns-then-is_none c =
    let a = c.args in
    let v = c.loop-i.invariant in
    sym (unknown_here a.count a.sorts.now a.values.now v.0 v.1.0 c.loop-i.i v.1.1 (omega arith) (told (goal.at.returns-then-is_none c).After-is_none _ c.if-is_none.true))

pub loop-i-preserved : goal.loop-i-preserved
loop-i-preserved c =
    let a = c.args in
    let v = c.loop-i.invariant in
    (v.0, (v.1.0, known_here a.count a.sorts.now a.values.now v.0 v.1.0 c.loop-i.i v.1.1 (omega arith) (told (goal.at.loop-i-preserved c).After-is_none _ c.if-is_none.false)))

pub returns : goal.returns
returns c =
    let a = c.args in
    let v = c.loop-i.invariant in
    sym (all_known a.count a.sorts.now a.values.now v.0 v.1.0 c.loop-i.i v.1.1 (omega arith))
