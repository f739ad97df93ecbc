-- The carriers read stand in the first records, and the others are still in the text.
use mathlib.Core.Path.{refl}
use native.Mathlib.Omega.{arith}
use Rattle.lane.proofs.checks.Records.{same_head, records_long}
use Rattle.lane.proofs.calls.Read.{carriers_start, carriers_on, carriers_stop, carriers_end}
use Rattle.lane.proofs.listing.read_carriers.Goals as goal

pub loop-place-init : goal.loop-place-init
loop-place-init c = ((refl, refl), carriers_start _ _ _ (records_long _ (omega arith)))

pub returns-in_err-carrier-clause-text_value : goal.returns-in_err-carrier-clause-text_value
returns-in_err-carrier-clause-text_value c =
    rw c.from_residual.ensures (carriers_stop c.loop-place.invariant.1 (omega arith) c.in_err-carrier.ensures)

pub loop-place-preserved : goal.loop-place-preserved
loop-place-preserved c =
    let inv = c.loop-place.invariant in
    let on = carriers_on inv.1 (omega arith) _ (omega arith) c.in_ok-carrier.ensures in
    (same_head c.put_carrier.ensures.l_unchanged inv.0, rw c.put_carrier.ensures.l_after on)

pub returns-clause-text_value : goal.returns-clause-text_value
returns-clause-text_value c = carriers_end c.loop-place.invariant.1 (omega arith)
