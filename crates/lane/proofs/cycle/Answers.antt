use mathlib.Core.Path.{◌≡◌, sym}
use Rattle.lane.specs.Layout.{state_of}
use Rattle.lane.specs.Calls.{ready_no}
use Rattle.lane.proofs.Refused.{passed_up}
use Rattle.lane.proofs.calls.Runs.{not_ready, outside_refused, none_outside, has_run}
use Rattle.lane.proofs.cycle.Goals.{In_ok-check_ready}
use Rattle.lane.proofs.cycle.Goals as goal

-- the checks before the wishes are passed
module _ (c : In_ok-check_ready) where
  ready : ready_no (state_of c.args.l.now) c.args.count ≡ 0
  ready = sym c.in_ok-check_ready.ensures

pub returns-in_err-check_ready : goal.returns-in_err-check_ready
returns-in_err-check_ready c =
    let a = c.args in
    rw (passed_up _ c.from_residual.ensures.1) (not_ready a.l.now a.count a.wishes _ c.in_err-check_ready.ensures)

pub convert-requires : goal.convert-requires
convert-requires c = ready (goal.at.convert-requires c).In_ok-check_ready

pub returns-in_err-units : goal.returns-in_err-units
returns-in_err-units c =
    let a = c.args in
    rw (passed_up _ c.from_residual-in_err-units.ensures.1)
    (outside_refused a.l.now a.count a.wishes (ready (goal.at.returns-in_err-units c).In_ok-check_ready) _ c.in_err-units.ensures.number)

pub run-requires : goal.run-requires
run-requires c = ready (goal.at.run-requires c).In_ok-check_ready

pub returns : goal.returns
returns c =
    let a = c.args in
    let inside = none_outside _ c.in_ok-units.ensures.number in
    has_run a.l.now a.count a.wishes (ready (goal.at.returns c).In_ok-check_ready) c.run.new.l c.run.result _ inside c.in_ok-units.ensures.units
    c.run.ensures.word_value c.run.ensures.replaced_value c.run.ensures.l_after c.run.ensures.l_after_2
