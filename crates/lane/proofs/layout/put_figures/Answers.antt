-- The first word is 1 for a lane that was started, and else 0; the other words are the figures.
use mathlib.Core.Path.{◌≡◌, refl, sym, ap, ◌∙◌}
use Prim.Native.Nat.{ℕ}
use native.Mathlib.Omega.{arith}
use lib.Dec.{eqb}
use Rattle.lane.proofs.checks.Records.{figures_put, tables_kept, records_kept}
use Rattle.lane.proofs.layout.put_figures.Goals.{then-f, else-f}
use Rattle.lane.proofs.layout.put_figures.Goals as goal

pub returns : goal.returns
returns c =
    let a = c.args in
    let e : eqb c.if-f.started 1 ≡ a.f.started =
    elim c.if-f.branch [ then-f w ↦ ap (λ (n : ℕ). eqb n 1) w.started-is ∙ sym w.if-f.true | else-f w ↦ ap (λ (n : ℕ). eqb n 1) w.started-is ∙ sym w.if-f.false ]
    in
    record { l_after = figures_put a.l.now _ (omega arith) ∙ rw e refl; l_unchanged = tables_kept a.l.now 0 _ (λ code h e. omega arith); l_unchanged_2 = records_kept a.l.now 0 _ (omega arith) }
