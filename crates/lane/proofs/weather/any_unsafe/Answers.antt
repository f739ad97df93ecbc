-- The pairs that the loop has passed are safe, and the first that is not makes the lane unsafe.
use mathlib.Core.Path.{◌≡◌, sym, ap, ap₂, ◌∙◌}
use mathlib.Core.Bool.{not}
use mathlib.Core.List.{List}
use Prim.Native.Nat.{◌-◌}
use native.Mathlib.Omega.{arith}
use lib.ListN.{get_or}
use Rattle.lane.specs.declared.Carrier.{Carrier}
use Rattle.lane.specs.Layout.{records_in}
use Rattle.lane.specs.Safety.{leader, safe_with}
use Rattle.lane.specs.Calls.{none}
use Rattle.lane.proofs.checks.Surfaces.{rate_brakes}
use Rattle.lane.proofs.calls.Order.{clear_first, clear_on, clear_all, clear_not}
use Rattle.lane.proofs.weather.any_unsafe.Goals.{After-safe}
use Rattle.lane.proofs.weather.any_unsafe.Goals as goal

pub loop-place-init : goal.loop-place-init
loop-place-init c = clear_first c.args.row (records_in c.args.l.now)

pub overflow_sub-place : goal.overflow_sub-place
overflow_sub-place c = c.loop-place.invariant.least

pub carrier_at-ahead-requires : goal.carrier_at-ahead-requires
carrier_at-ahead-requires c = omega (arith, c.requires.count_bound.0)

pub carrier_at-requires : goal.carrier_at-requires
carrier_at-requires c = omega (arith, c.requires.count_bound.0)

pub safe-requires : goal.safe-requires
safe-requires c =
    let ahead = rw (← c.carrier_at-ahead.ensures) at (c.requires.by_index (c.loop-place.place - 1) (omega arith)) in
    let own = rw (← c.carrier_at.ensures) at (c.requires.by_index c.loop-place.place (omega arith)) in
    record { bound = rate_brakes c.args.row c.carrier_at.result c.requires.le_guaranteed own.1.1.1; length_bound = (omega (arith, own, ahead), (own.1.0, (omega (arith, ahead), ahead.1.0))) }

-- the pair at the place
module _ (k : After-safe) where
  abbrev records : List Carrier
  records = records_in k.args.l.now

  tested : k.safe.result ≡ safe_with k.args.row (leader (get_or records (k.loop-place.place - 1) none)) (get_or records k.loop-place.place none)
  tested =
      k.safe.ensures
      ∙ ap₂ (λ (ahead c : Carrier). safe_with k.args.row (leader ahead) c) k.carrier_at-ahead.ensures k.carrier_at.ensures

pub returns-then-not-safe : goal.returns-then-not-safe
returns-then-not-safe c =
    let a = c.args in
    let place = c.loop-place.place in
    sym (ap not (clear_not a.row (records (goal.at.returns-then-not-safe c).After-safe) a.count (omega (arith, c.requires.count_bound)) place c.loop-place.invariant.least (omega arith) (sym (tested (goal.at.returns-then-not-safe c).After-safe) ∙ c.if-not-safe.true)))

pub loop-place-preserved : goal.loop-place-preserved
loop-place-preserved c =
    clear_on c.args.row (records (goal.at.loop-place-preserved c).After-safe) c.loop-place.place c.loop-place.invariant (sym (tested (goal.at.loop-place-preserved c).After-safe) ∙ c.if-not-safe.false)

pub returns : goal.returns
returns c =
    let a = c.args in
    sym (ap not (clear_all a.row (records_in a.l.now) a.count (omega (arith, c.requires.count_bound)) c.loop-place.place c.loop-place.invariant (omega arith)))
