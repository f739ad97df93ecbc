-- Each turn moves one record back and widens the part that stands one place on; the carrier then goes in before that part.
use mathlib.Core.Path.{◌≡◌, refl, ap, ap₂, ◌∙◌}
use Prim.Native.Nat.{◌+◌, ◌-◌}
use native.Mathlib.Omega.{arith}
use lib.ListN.{set, length-set}
use Rattle.lane.specs.declared.layout.Figures.{Figures}
use Rattle.lane.specs.Layout.{figures_in, records_in}
use Rattle.lane.specs.Calls.{none}
use Rattle.lane.proofs.checks.Records.{same_head, counting, carriers_are}
use Rattle.lane.proofs.lists.Shift.{opened_start, opened_down, opened_end}
use Rattle.lane.proofs.places.insert.Goals.{After-figures_of-f}
use Rattle.lane.proofs.places.insert.Goals as goal

counted : (c : After-figures_of-f) → c.figures_of-f.result.count ≡ (figures_in c.args.l.now).count
counted c = ap (λ (g : Figures). g.count) c.figures_of-f.ensures.value

pub loop-i-init : goal.loop-i-init
loop-i-init c =
    let e = counted (goal.at.loop-i-init c).After-figures_of-f in
    (omega arith, ((refl, refl), opened_start (records_in c.args.l.now) _))

pub loop-i-preserved : goal.loop-i-preserved
loop-i-preserved c =
    let at = c.loop-i in
    let n = counted (goal.at.loop-i-preserved c).After-figures_of-f in
    let e : at.i - 1 + 1 ≡ at.i = omega arith in
    let o = opened_down none _ _ _ _ (omega arith) (omega arith) (omega (arith, n, c.figures_of-f.ensures.l_len)) at.invariant.1.1 in
    (omega arith, (same_head c.copy_record.ensures.l_unchanged at.invariant.1.0, rw c.copy_record.ensures.l_after (rw e o)))

pub returns : goal.returns
returns c =
    let a = c.args in
    let l = a.l.now in
    let f = c.figures_of-f in
    let n = counted (goal.at.returns c).After-figures_of-f in
    let head = same_head c.put_carrier.ensures.l_unchanged c.loop-i.invariant.1.0 in
    let e : c.loop-i.i ≡ a.place = omega arith in
    let o = rw (n, e) at c.loop-i.invariant.1.1 in
    let records = set (records_in c.loop-i.l) a.place a.c in
    carriers_are l _ _ ((figures_in l).count + 1) records _
    (c.put_count.ensures.l_after ∙ ap₂ (λ (g h : Figures). counting g h.cycle (h.count + 1)) head.0 f.ensures.value)
    (c.put_count.ensures.l_unchanged ∙ head.1)
    (c.put_count.ensures.l_unchanged_2 ∙ c.put_carrier.ensures.l_after)
    (omega (arith, o.long, length-set (records_in c.loop-i.l) a.place a.c, f.ensures.l_len))
    (opened_end _ _ _ _ _ (omega arith) (omega (arith, f.ensures.l_len)) o)
