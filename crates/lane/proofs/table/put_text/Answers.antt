-- The rows still to see, put after those seen, give the whole text.
use native.Mathlib.Omega.{arith}
use Rattle.text.proofs.Laws.{putting_next, putting_end}
use Rattle.lane.specs.Layout.{table_from}
use Rattle.lane.proofs.checks.Records.{table_eight}
use Rattle.lane.proofs.checks.TableTexts.{text_next, text_past, length_next}
use Rattle.lane.proofs.table.put_text.Goals as goal

pub put_row-place-requires : goal.put_row-place-requires
put_row-place-requires c =
    let a = c.args in
    let next = length_next (table_from a.table a.l.now) c.loop-code.code (omega (arith, table_eight a.table a.l.now)) in
    rw c.surface_at.ensures (omega (arith, c.loop-code.invariant.room))

pub loop-code-preserved : goal.loop-code-preserved
loop-code-preserved c =
    let a = c.args in
    let here = c.surface_at.ensures in
    let next = text_next (table_from a.table a.l.now) c.loop-code.code (omega (arith, table_eight a.table a.l.now)) in
    putting_next c.loop-code.invariant _ _ next (rw here at c.put_row-place.ensures.out_after) (rw here at c.put_row-place.ensures.value)

pub returns : goal.returns
returns c =
    let a = c.args in
    let past = text_past (table_from a.table a.l.now) c.loop-code.code (omega (arith, table_eight a.table a.l.now)) in
    let end = putting_end c.loop-code.invariant past in
    record { out_after = end.0; value = end.1 }
