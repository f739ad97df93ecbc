-- What follows the rows decides, and then whether they are sound.
use mathlib.Core.Path.{◌≡◌, sym, ◌∙◌}
use native.Mathlib.Omega.{arith}
use borrow.Author.Tests.{eqb-true, eqb-false}
use lib.ListN.{length}
use Rattle.lane.proofs.checks.TableTexts.{bad_missing, bad_more, loaded_all}
use Rattle.lane.proofs.table.loaded.Goals.{Else-not-is_empty}
use Rattle.lane.proofs.table.loaded.Goals as goal

pub returns-in_err-table : goal.returns-in_err-table
returns-in_err-table c = rw c.from_residual.ensures (bad_missing _ c.in_err-table.ensures)

pub returns-then-not-is_empty : goal.returns-then-not-is_empty
returns-then-not-is_empty c =
    let more = eqb-false (length c.read.new.lines.rest.now) 0 (sym c.is_empty.ensures ∙ c.if-not-is_empty.true) in
    bad_more _ c.in_ok-table.ensures (omega arith)

nothing_more : (c : Else-not-is_empty) → length c.read.new.lines.rest.now ≡ 0
nothing_more c = eqb-true _ 0 (sym c.is_empty.ensures ∙ c.if-not-is_empty.false)

pub returns-then-unsound : goal.returns-then-unsound
returns-then-unsound c =
    (loaded_all _ c.in_ok-table.ensures (nothing_more (goal.at.returns-then-unsound c).Else-not-is_empty)).0 ∙ sym c.unsound.ensures ∙ c.if-unsound.true

pub returns : goal.returns
returns c =
    let all = loaded_all _ c.in_ok-table.ensures (nothing_more (goal.at.returns c).Else-not-is_empty) in
    (all.0 ∙ sym c.unsound.ensures ∙ c.if-unsound.false, all.1)
