-- An entry's own values in numbers: 5 is of its front, 33 of a length above 65,535 and after 6, 35 of an own rate outside 1 to 255 and after 33, and a
-- tail before the start is let in.
use mathlib.Core.Path.{◌≡◌, refl}
use mathlib.Core.Bool.{false, ◌||◌, cond}
use Prim.Native.Nat.{ℕ, ◌≤◌, ◌<◌}
use borrow.Author.Tests.{le-ltb, lt-leb, ltb-false, leb-false}
use lib.Dec.{leb, ltb}
use Rattle.lane.specs.declared.Carrier.{Carrier}
use Rattle.lane.specs.declared.Road.{Road}
use Rattle.lane.specs.Rules.{outside_of, bad_number, too_fast, too_long, bad_rate, values_no, newcomer_no}
use Rattle.lane.proofs.lists.Passed.{passed}
use Rattle.lane.proofs.lists.Tests.{neither}

-- ends included
pub within : (low high n : ℕ) → outside_of low high n ≡ false → (low ≤ n) × (n ≤ high)
within low high n e = let t = neither (ltb n low) (ltb high n) e in (ltb-false n low t.0, ltb-false high n t.1)

-- who passes 6, 33 and 35
pub values_are : (road : Road) (c : Carrier) → values_no road c ≡ 0 → (c.speed ≤ road.limit) × (c.length ≤ 65535) × (1 ≤ c.rate) × (c.rate ≤ 255)
values_are road c e =
    let speed = passed (too_fast road c) 5 _ e in
    let length = passed (too_long c) 32 _ speed.1 in
    let rates = within 1 255 c.rate (passed (bad_rate c.rate) 34 0 length.1).0 in
    (ltb-false road.limit c.speed speed.0, ltb-false 65535 c.length length.0, rates.0, rates.1)

pub record Newcomer (road : Road) (c : Carrier) : Type 0 where
  pub number_least : 1 ≤ c.number
  pub number_most_is : c.number ≤ 65535
  pub front_before_end : c.position < road.end
  pub slow : c.speed ≤ road.limit
  pub short : c.length ≤ 65535
  pub rate_least : 1 ≤ c.rate
  pub rate_most : c.rate ≤ 255

-- who passes its own checks is such a one,
pub newcomer_is : (road : Road) (c : Carrier) → newcomer_no road c ≡ 0 → Newcomer road c
unfolding newcomer_no
newcomer_is road c e =
    let number = passed (bad_number c.number) 3 _ e in
    let position = passed (leb road.end c.position) 4 _ number.1 in
    let numbers = within 1 65535 c.number number.0 in
    let values = values_are road c position.1 in
    record {
      number_least = numbers.0;
      number_most_is = numbers.1;
      front_before_end = leb-false road.end c.position position.0;
      slow = values.0;
      short = values.1;
      rate_least = values.2;
      rate_most = values.3;
    }

-- and every such one passes them, however far its tail lies before the start
pub newcomer_passes : (road : Road) (c : Carrier) → Newcomer road c → newcomer_no road c ≡ 0
unfolding newcomer_no
newcomer_passes road c h =
    rw (
      le-ltb c.number 1 h.number_least,
      le-ltb 65535 c.number h.number_most_is,
      lt-leb road.end c.position h.front_before_end,
      le-ltb road.limit c.speed h.slow,
      le-ltb 65535 c.length h.short,
      le-ltb c.rate 1 h.rate_least,
      le-ltb 255 c.rate h.rate_most,
    )
    refl

-- 4, 5 and 6 in this order; "33 length too large, after 6"; "35 own rate outside its range, after 33": who breaks several is told the first
pub own_values_in_order : (road : Road) (c : Carrier) → newcomer_no road c
    ≡ cond (ltb c.number 1 || ltb 65535 c.number) 4
    (cond (leb road.end c.position) 5
    (cond (ltb road.limit c.speed) 6 (cond (ltb 65535 c.length) 33 (cond (ltb c.rate 1 || ltb 255 c.rate) 35 0))))
unfolding newcomer_no
own_values_in_order road c = refl
