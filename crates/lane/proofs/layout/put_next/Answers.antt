-- Each turn puts one row of the table.
use mathlib.Core.Path.{◌≡◌, sym, ap₂, ◌∙◌}
use mathlib.Core.List.{List, map}
use native.Mathlib.Omega.{arith}
use borrow.Author.Rules.{rules}
use lib.ListN.{length, length-map}
use Rattle.lane.specs.declared.Row.{Row}
use Rattle.lane.specs.Layout.{surface_in}
use Rattle.lane.proofs.checks.Records.{code_by_code}
use Rattle.lane.proofs.checks.Tables.{row_read, put_start, put_next, put_all}
use Rattle.lane.proofs.layout.put_next.Goals as goal

pub loop-code-init : goal.loop-code-init
loop-code-init c = put_start 9 1 _ _ (omega arith)

pub loop-code-preserved : goal.loop-code-preserved
loop-code-preserved c =
    let table = c.args.table in
    let put = c.put_surface.ensures in
    put_next c.loop-code.invariant (omega arith) (omega arith) (omega arith) (λ k below e. omega arith) _ put.0 put.1.0
    (put.1.1 ∙ sym (row_read table c.loop-code.code))

pub returns : goal.returns
returns c =
    let table = c.args.table in
    let inv = c.loop-code.invariant in
    let eight : length table ≡ 8 = search rules in
    let whole = put_all inv (omega arith) ∙ code_by_code (map surface_in table) (length-map table surface_in ∙ eight) in
    record { l_unchanged = inv.figures; l_after = ap₂ (λ (a b : List Row). record { in_force = a; next = b }) inv.other_table whole; l_unchanged_2 = inv.records }
