-- Each turn moves one record forward, so that the front part is the list without the place, as far as the loop has come.
use mathlib.Core.Path.{◌≡◌, refl, ap, ap₂, ◌∙◌}
use Prim.Native.Nat.{◌-◌}
use native.Mathlib.Omega.{arith}
use Rattle.lane.specs.declared.layout.Figures.{Figures}
use Rattle.lane.specs.Layout.{figures_in, records_in}
use Rattle.lane.specs.Calls.{none}
use Rattle.lane.proofs.checks.Records.{same_head, counting, carriers_are}
use Rattle.lane.proofs.lists.Shift.{closed_start, closed_up, closed_end}
use Rattle.lane.proofs.places.remove.Goals.{After-figures_of-f}
use Rattle.lane.proofs.places.remove.Goals as goal

counted : (c : After-figures_of-f) → c.figures_of-f.result.count ≡ (figures_in c.args.l.now).count
counted c = ap (λ (g : Figures). g.count) c.figures_of-f.ensures.value

pub overflow_sub-last : goal.overflow_sub-last
overflow_sub-last c =
    let e = counted (goal.at.overflow_sub-last c).After-figures_of-f in
    omega arith

pub loop-i-init : goal.loop-i-init
loop-i-init c = ((refl, refl), closed_start (records_in c.args.l.now) c.args.place)

pub loop-i-preserved : goal.loop-i-preserved
loop-i-preserved c =
    let at = c.loop-i in
    let e = counted (goal.at.loop-i-preserved c).After-figures_of-f in
    let o = closed_up none _ _ _ _ (omega arith) (omega (arith, c.figures_of-f.ensures.l_len)) at.invariant.1 in
    (same_head c.copy_record.ensures.l_unchanged at.invariant.0, rw c.copy_record.ensures.l_after o)

pub returns : goal.returns
returns c =
    let f = c.figures_of-f in
    let l = c.args.l.now in
    let inv = c.loop-i.invariant in
    let n = (figures_in l).count in
    let k = counted (goal.at.returns c).After-figures_of-f in
    let e : c.loop-i.i ≡ n - 1 = omega arith in
    carriers_are l _ _ (n - 1) _ _
    (c.put_count.ensures.l_after ∙ ap₂ (λ (g h : Figures). counting g h.cycle (h.count - 1)) inv.0.0 f.ensures.value)
    (c.put_count.ensures.l_unchanged ∙ inv.0.1)
    c.put_count.ensures.l_unchanged_2
    (omega (arith, inv.1.long, f.ensures.l_len))
    (closed_end _ _ _ _ (omega arith) (rw e at inv.1))
