-- The length so far and that of the rows still to see make up the whole's.
use mathlib.Core.Path.{ap}
use native.Mathlib.Omega.{arith}
use lib.ListN.{length}
use Rattle.lane.specs.declared.Row.{Row}
use Rattle.lane.specs.Layout.{table_from}
use Rattle.lane.specs.Table.{row_text}
use Rattle.lane.proofs.checks.Records.{table_eight}
use Rattle.lane.proofs.checks.TableTexts.{length_next, length_past}
use Rattle.lane.proofs.table.text_length.Goals as goal

pub loop-code-preserved : goal.loop-code-preserved
loop-code-preserved c =
    let rows = table_from c.args.table c.args.l.now in
    let next = length_next rows c.loop-code.code (omega (arith, table_eight c.args.table c.args.l.now)) in
    let here = ap (λ (r : Row). length (row_text r)) c.surface_at.ensures in
    (omega (arith, c.row_length-n.ensures), omega (arith, c.row_length-n.ensures))

pub returns : goal.returns
returns c =
    let rows = table_from c.args.table c.args.l.now in
    let past = length_past rows c.loop-code.code (omega (arith, table_eight c.args.table c.args.l.now)) in
    (omega (arith, c.loop-code.invariant), omega (arith, c.loop-code.invariant))
