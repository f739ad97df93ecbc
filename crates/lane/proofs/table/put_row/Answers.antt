-- The three lines, put one after the other, are the row's text.
use Rattle.text.proofs.GroupLaws.{key_at, put_first, put_next, group_put}
use Rattle.lane.specs.Layout.{surface_in}
use Rattle.lane.specs.Table.{row_keys, row_text}
use Rattle.lane.proofs.table.put_row.Goals as goal

pub returns : goal.returns
unfolding row_text
returns c =
    let row = surface_in c.args.row in
    let first = put_first (key_at row_keys 0) row.guaranteed c.args.at c.args.out.now _ _ (c.put_decimal_line-guaranteed.ensures.out_after, c.put_decimal_line-guaranteed.ensures.value) in
    let second = put_next first (key_at row_keys 1) row.hardest _ _ (c.put_decimal_line-hardest.ensures.out_after, c.put_decimal_line-hardest.ensures.value) in
    let all = group_put (put_next second (key_at row_keys 2) row.most _ _ (c.put_decimal_line.ensures.out_after, c.put_decimal_line.ensures.value)) c.requires in
    record { out_after = all.0; value = all.1 }
