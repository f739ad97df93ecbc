-- `lane::listing::put_carrier` meets its contract: the five lines, put one after the other, are the carrier's text.
use Rattle.text.proofs.GroupLaws.{key_at, put_first, put_next, group_put}
use Rattle.lane.specs.Listing.{carrier_keys, carrier_text}
use Rattle.lane.proofs.listing.put_carrier.Goals as goal

pub returns : goal.returns
unfolding carrier_text
returns c =
    let x = c.args.c in
    let first = put_first (key_at carrier_keys 0) x.number c.args.at c.args.out.now _ _ (c.put_decimal_line-number.ensures.out_after, c.put_decimal_line-number.ensures.value) in
    let second = put_next first (key_at carrier_keys 1) x.position _ _ (c.put_decimal_line-position.ensures.out_after, c.put_decimal_line-position.ensures.value) in
    let third = put_next second (key_at carrier_keys 2) x.speed _ _ (c.put_decimal_line-speed.ensures.out_after, c.put_decimal_line-speed.ensures.value) in
    let fourth = put_next third (key_at carrier_keys 3) x.length _ _ (c.put_decimal_line-length.ensures.out_after, c.put_decimal_line-length.ensures.value) in
    let all = group_put (put_next fourth (key_at carrier_keys 4) x.rate _ _ (c.put_decimal_line.ensures.out_after, c.put_decimal_line.ensures.value)) c.requires in
    record { out_after = all.0; value = all.1 }
