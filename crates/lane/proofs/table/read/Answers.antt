-- The rows passed stand in the table, and the others are still in the text.
use mathlib.Core.Path.{◌≡◌, ◌∙◌}
use mathlib.Core.List.{[], ◌∷◌, ◌++◌}
use Prim.Native.Nat.{◌+◌}
use native.Mathlib.Numerals.{add-one}
use native.Mathlib.Omega.{arith}
use lib.ListN.{take, set, length-set}
use lib.Seq.{take_all, take-suc-set}
use Rattle.text.proofs.GroupLaws.{groups_on, groups_stop, groups_end}
use Rattle.lane.proofs.table.read.Goals as goal

pub returns-in_err-row : goal.returns-in_err-row
returns-in_err-row c = rw c.from_residual.ensures (groups_stop c.loop-row.invariant.1 (omega arith) c.in_err-row.ensures)

pub loop-row-preserved : goal.loop-row-preserved
loop-row-preserved c =
    let row = c.in_ok-row.field-0 in
    let table = c.loop-row.row-items in
    let code = c.loop-row.row-index in
    let one_more : take (code + 1) (set table code row) ≡ take code table ++ (row ∷ []) = rw (add-one code) (take-suc-set table code row (omega arith)) in
    (length-set table code row ∙ c.loop-row.invariant.0, rw one_more (groups_on c.loop-row.invariant.1 (omega arith) c.in_ok-row.ensures))

pub returns : goal.returns
returns c =
    let all = take_all c.loop-row.row-index c.loop-row.row-items (omega arith) in
    rw all at (groups_end c.loop-row.invariant.1 (omega arith))
