-- `lane::motion::convert` meets its contract.
use borrow.Author.Rules.{rules}
use mathlib.Core.Path.{◌≡◌, refl, sym, ap, ◌∙◌}
use native.Mathlib.Omega.{arith}
use lib.IntN.{pos}
use mir.Syntax.{w32}
use mir.Val.{SFits}
use mir.Facts.{to_z-of_z}
use lib.ListN.{length, get_or, set}
use Rattle.wish.specs.declared.Wish.{Wish}
use Rattle.wish.specs.declared.Wish.TheVariants.{Units}
use Rattle.lane.specs.Wishes.{is_outside, units_in}
use Rattle.lane.proofs.checks.Records.{records_long}
use Rattle.lane.proofs.driving.Ready.{ready_few, ready_narrow}
use Rattle.lane.proofs.driving.Converting.{converting_start, outside_here, converted_here, none_outside, all_converted}
use Rattle.lane.proofs.motion.convert.Goals.{After-units_at}
use Rattle.lane.proofs.motion.convert.Goals as goal

-- the wish at the loop's place
module _ (u : After-units_at) where
  abbrev w : Wish
  w = get_or u.args.wishes u.loop-i.i (Units (pos 0))

pub loop-i-init : goal.loop-i-init
loop-i-init c =
    let few = ready_few c.args.l.now c.args.count c.requires in
    let long : length c.args.wishes ≡ 64 = search rules in
    converting_start _ _ _ _ few (records_long _ (omega arith)) (omega arith) (omega arith)

pub units_at-requires : goal.units_at-requires
units_at-requires c =
    (omega arith, (ready_narrow c.args.l.now c.args.count c.requires c.loop-i.i (omega arith) c.loop-i.invariant.carriers).slow)

pub returns-in_default-clause-number : goal.returns-in_default-clause-number
returns-in_default-clause-number c =
    rw (outside_here c.loop-i.invariant (Units (pos 0)) (w (goal.at.returns-in_default-clause-number c).After-units_at) (λ v. refl) _ c.units_at.ensures (omega arith) c.in_default.is) refl

pub loop-i-preserved : goal.loop-i-preserved
loop-i-preserved c =
    let f : SFits w32 c.in-Some.z = search rules in
    converted_here c.loop-i.invariant (Units (pos 0)) (w (goal.at.loop-i-preserved c).After-units_at) (λ v. refl) _ c.units_at.ensures (omega arith) (ap is_outside c.in-Some.is) _
    (ap (set c.loop-i.units c.loop-i.i) (to_z-of_z f ∙ sym (ap units_in c.in-Some.is)))

pub returns : goal.returns
returns c =
    let m = c.loop-i.invariant in
    record { number = rw (none_outside m (omega arith)) refl; units = all_converted m (omega arith) }
