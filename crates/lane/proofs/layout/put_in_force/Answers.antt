-- Each turn puts one row of the other table in force.
use mathlib.Core.Path.{ap, ap₂, ◌∙◌}
use mathlib.Core.List.{List}
use native.Mathlib.Omega.{arith}
use Rattle.lane.specs.declared.Row.{Row}
use Rattle.lane.specs.Surface.{row_of}
use Rattle.lane.specs.Layout.{table_from}
use Rattle.lane.proofs.checks.Records.{code_by_code, table_eight}
use Rattle.lane.proofs.checks.Tables.{put_start, put_next, put_all}
use Rattle.lane.proofs.layout.put_in_force.Goals as goal

pub loop-code-init : goal.loop-code-init
loop-code-init c = put_start 1 9 _ _ (omega arith)

pub loop-code-preserved : goal.loop-code-preserved
loop-code-preserved c =
    let inv = c.loop-code.invariant in
    let put = c.put_surface.ensures in
    put_next inv (omega arith) (omega arith) (omega arith) (λ k below e. omega arith) _ put.0 put.1.0
    (put.1.1 ∙ c.surface_at-surface.ensures ∙ ap (λ (t : List Row). row_of t c.loop-code.code) inv.other_table)

pub returns : goal.returns
returns c =
    let l₀ = c.args.l.now in
    let inv = c.loop-code.invariant in
    let whole = put_all inv (omega arith) ∙ code_by_code (table_from 9 l₀) (table_eight 9 l₀) in
    record { l_unchanged = inv.figures; l_after = ap₂ (λ (a b : List Row). record { in_force = a; next = b }) whole inv.other_table; l_unchanged_2 = inv.records }
