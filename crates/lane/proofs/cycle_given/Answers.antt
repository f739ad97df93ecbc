use mathlib.Core.Path.{◌≡◌, sym, ap, ◌∙◌}
use lib.ListN.{take}
use Rattle.lane.specs.Layout.{records_in, state_of}
use Rattle.lane.specs.Wishes.{wished_units, any_outside}
use Rattle.lane.specs.Calls.{ready_no}
use Rattle.lane.specs.Given.{wishes_no, wishes_given}
use Rattle.lane.proofs.driving.Making.{given_take, fit_wishes}
use Rattle.lane.proofs.Refused.{passed_up}
use Rattle.lane.proofs.calls.Runs.{has_run, given_not_ready, given_unfit, given_made}
use Rattle.lane.proofs.cycle_given.Goals.{In_ok-check_ready}
use Rattle.lane.proofs.cycle_given.Goals as goal

-- the lane is ready
module _ (c : In_ok-check_ready) where
  ready : ready_no (state_of c.args.l.now) c.args.count ≡ 0
  ready = sym c.in_ok-check_ready.ensures

pub returns-in_err-check_ready : goal.returns-in_err-check_ready
returns-in_err-check_ready c =
    let a = c.args in
    rw (passed_up _ c.from_residual.ensures.1) (given_not_ready a.l.now a.count a.sorts.now a.values.now _ c.in_err-check_ready.ensures)

pub convert-requires : goal.convert-requires
convert-requires c = ready (goal.at.convert-requires c).In_ok-check_ready

pub returns-in_err-units : goal.returns-in_err-units
returns-in_err-units c =
    let a = c.args in
    rw (passed_up _ c.from_residual-in_err-units.ensures.1)
    (given_unfit a.l.now a.count a.sorts.now a.values.now _ (ready (goal.at.returns-in_err-units c).In_ok-check_ready) c.in_err-units.ensures.number)

pub run-requires : goal.run-requires
run-requires c = ready (goal.at.run-requires c).In_ok-check_ready

pub returns : goal.returns
returns c =
    let a = c.args in
    let cs = take a.count (records_in a.l.now) in
    let wishes = wishes_given a.count a.sorts.now a.values.now in
    let all = given_take a.count a.sorts.now a.values.now in
    let known = fit_wishes (wishes_no a.count a.sorts.now a.values.now) (any_outside cs wishes) (sym c.in_ok-units.ensures.number) in
    given_made a.l.now a.count a.sorts.now a.values.now c.run.new.l _ known.0
    (has_run a.l.now a.count wishes (ready (goal.at.returns c).In_ok-check_ready) c.run.new.l c.run.result _
    (ap (any_outside cs) all ∙ known.1)
    (c.in_ok-units.ensures.units ∙ ap (wished_units cs) (sym all))
    c.run.ensures.word_value c.run.ensures.replaced_value c.run.ensures.l_after c.run.ensures.l_after_2)
