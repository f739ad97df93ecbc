-- The parts of the text are read one after the other, and what each says is put in the lane.
use mathlib.Core.Path.{◌≡◌, sym, ap, ◌∙◌}
use mathlib.Core.List.{List, [], ◌∷◌, map}
use Prim.Native.Nat.{ℕ, ◌≤◌}
use native.Mathlib.Omega.{arith}
use borrow.Author.Tests.{eqb-true, eqb-false}
use lib.ListN.{length}
use Rattle.text.specs.Groups.{got, missing, whole}
use Rattle.text.proofs.GroupLaws.{whole_end, whole_more, line_taken}
use Rattle.lane.specs.declared.Carrier.{Carrier}
use Rattle.lane.specs.State.{State}
use Rattle.lane.specs.Layout.{surface_in}
use Rattle.lane.specs.Listing.{cars_key, carriers_in}
use Rattle.lane.specs.Handover.{handed, handover_in}
use Rattle.lane.proofs.checks.TableTexts.{rows_told, rows_missing}
use Rattle.lane.proofs.calls.Read.{lane_none, lane_told}
use Rattle.lane.proofs.calls.Handing.{in_force_missing, next_missing, road_missing, lane_missing, parts_told, tables_put, holds_it}
use Rattle.lane.proofs.transfer.read.Goals.{In_ok-cars}
use Rattle.lane.proofs.transfer.read.Goals as goal

pub returns-in_err-in_force : goal.returns-in_err-in_force
returns-in_err-in_force c = rw c.from_residual.ensures (in_force_missing _ (rows_missing _ c.in_err-in_force.ensures))

pub returns-in_err-next : goal.returns-in_err-next
returns-in_err-next c =
    rw c.from_residual-in_err-next.ensures (next_missing _ (rows_told _ c.in_ok-in_force.ensures) (rows_missing _ c.in_err-next.ensures))

pub returns-in_err-road : goal.returns-in_err-road
returns-in_err-road c =
    rw c.from_residual-in_err-road.ensures
    (road_missing _ (rows_told _ c.in_ok-in_force.ensures) (rows_told _ c.in_ok-next.ensures) c.in_err-road.ensures)

pub returns-in_err-cars : goal.returns-in_err-cars
returns-in_err-cars c =
    rw c.from_residual-in_err-cars.ensures
    (lane_missing _ (rows_told _ c.in_ok-in_force.ensures) (rows_told _ c.in_ok-next.ensures) c.in_ok-road.ensures (lane_none _ c.in_err-cars.ensures.0))

-- the carriers decide what is left
module _ (c : In_ok-cars) where
  few : c.in_ok-cars.cars ≤ 64
  few = (line_taken cars_key _ _ _ c.in_ok-cars.ensures).1

  none : carriers_in c.in_ok-cars.cars c.number.new.self.rest.now ≡ missing → handover_in c.args.text.now ≡ missing
  none e =
      lane_missing _ (rows_told _ c.in_ok-in_force.ensures) (rows_told _ c.in_ok-next.ensures) c.in_ok-road.ensures (lane_told _ c.in_ok-cars.ensures ∙ e)

  all : {cs : List Carrier} {rest : List ℕ} → carriers_in c.in_ok-cars.cars c.number.new.self.rest.now ≡ got cs rest
      → handover_in c.args.text.now ≡ whole (got (handed (map surface_in c.in_ok-in_force.in_force) (map surface_in c.in_ok-next.next) (c.in_ok-road.road.surface ∷ c.in_ok-road.road.end ∷ c.in_ok-road.road.limit ∷ c.in_ok-road.cycle ∷ []) cs) rest)
  all e = parts_told _ (rows_told _ c.in_ok-in_force.ensures) (rows_told _ c.in_ok-next.ensures) c.in_ok-road.ensures (lane_told _ c.in_ok-cars.ensures ∙ e)

pub read_carriers-requires : goal.read_carriers-requires
read_carriers-requires c = few (goal.at.read_carriers-requires c).In_ok-cars

pub returns-in_err-read_carriers : goal.returns-in_err-read_carriers
returns-in_err-read_carriers c =
    rw c.from_residual-in_err-read_carriers.ensures
    (none (goal.at.returns-in_err-read_carriers c).In_ok-cars c.in_err-read_carriers.ensures.text_value)

pub returns-then-not-is_empty : goal.returns-then-not-is_empty
returns-then-not-is_empty c =
    let more = eqb-false (length c.read_carriers.new.lines.rest.now) 0 (sym c.is_empty.ensures ∙ c.if-not-is_empty.true) in
    all (goal.at.returns-then-not-is_empty c).In_ok-cars c.in_ok-read_carriers.ensures.text_value ∙ whole_more _ _ (omega arith)

pub returns : goal.returns
returns c =
    let k = (goal.at.returns c).In_ok-cars in
    let road = c.in_ok-road.road in
    let in_force = map surface_in c.in_ok-in_force.in_force in
    let next = map surface_in c.in_ok-next.next in
    let stay = c.in_ok-read_carriers.ensures.l_unchanged in
    let tables = tables_put _ in_force next c.put_next.ensures.l_after c.put_in_force.ensures.l_after c.put_next-2.ensures.l_after in
    let l = c.read_carriers.new.l in
    all k c.in_ok-read_carriers.ensures.text_value
    ∙ whole_end _ _ (eqb-true _ 0 (sym c.is_empty.ensures ∙ c.if-not-is_empty.false))
    ∙ ap (λ (s : State). got s [])
    (holds_it l in_force next road c.in_ok-road.cycle c.in_ok-cars.cars (stay.0 ∙ c.put_figures.ensures.l_after) (stay.1 ∙ c.put_figures.ensures.l_unchanged ∙ tables) (few k) c.in_ok-read_carriers.ensures.l_len)
