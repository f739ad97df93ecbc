-- The four lines, put one after the other.
use Rattle.text.proofs.GroupLaws.{key_at, put_first, put_next, group_put}
use Rattle.lane.specs.Handover.{road_keys}
use Rattle.lane.proofs.transfer.put_road.Goals as goal

pub returns : goal.returns
returns c =
    let first = put_first (key_at road_keys 0) c.args.road.surface c.args.at c.args.out.now _ _ (c.put_decimal_line-surface.ensures.out_after, c.put_decimal_line-surface.ensures.value) in
    let second = put_next first (key_at road_keys 1) c.args.road.end _ _ (c.put_decimal_line-end.ensures.out_after, c.put_decimal_line-end.ensures.value) in
    let third = put_next second (key_at road_keys 2) c.args.road.limit _ _ (c.put_decimal_line-limit.ensures.out_after, c.put_decimal_line-limit.ensures.value) in
    let all = group_put (put_next third (key_at road_keys 3) c.args.cycle _ _ (c.put_decimal_line.ensures.out_after, c.put_decimal_line.ensures.value)) c.requires in
    record { out_after = all.0; value = all.1 }
