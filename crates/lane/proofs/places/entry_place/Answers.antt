-- The walk is a search for a lower position: what it has passed is no answer, and where it stops is one.
use native.Mathlib.Omega.{arith}
use borrow.Author.Tests.{lt-ltb, le-ltb}
use Rattle.lane.specs.Layout.{records_in}
use Rattle.lane.specs.Calls.{walk}
use Rattle.lane.proofs.checks.Records.{records_long}
use Rattle.lane.proofs.lists.Search.{place_past, place_found, place_on}
use Rattle.lane.proofs.places.entry_place.Goals as goal

pub loop-i-preserved : goal.loop-i-preserved
unfolding walk
loop-i-preserved c = (
  omega arith,
  place_on _ (records_in c.args.l.now) c.args.count c.loop-i.i _ c.loop-i.invariant.1 _ c.carrier_at.ensures (omega arith) (omega (arith, records_long _ c.told-l)) (le-ltb _ _ c.if-carrier_at-position.false),
)

pub returns-then-count-i : goal.returns-then-count-i
unfolding walk
returns-then-count-i c = place_past _ (records_in c.args.l.now) c.args.count c.loop-i.i _ c.loop-i.invariant.1 (omega arith)

pub returns-then-carrier_at-position : goal.returns-then-carrier_at-position
unfolding walk
returns-then-carrier_at-position c =
    place_found _ (records_in c.args.l.now) c.args.count c.loop-i.i _ c.loop-i.invariant.1 _ c.carrier_at.ensures (omega arith) (omega (arith, records_long _ c.told-l)) (lt-ltb _ _ c.if-carrier_at-position.true)
