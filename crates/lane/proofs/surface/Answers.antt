-- The one word that is put is the surface code.
use mathlib.Core.Path.{◌≡◌, sym, ap, ◌∙◌}
use Rattle.lane.specs.Layout.{state_of}
use Rattle.lane.specs.Calls.{surface_no}
use Rattle.lane.specs.Call.{surface_call}
use Rattle.lane.proofs.Refused.{number_is, passed_up}
use Rattle.lane.proofs.checks.Records.{code_state}
use Rattle.lane.proofs.calls.Answers.{gives_refusal, gives_accepted, surface_tells}
use Rattle.lane.proofs.surface.Goals as goal

pub returns-in_err-check_surface : goal.returns-in_err-check_surface
returns-in_err-check_surface c =
    let a = c.args in
    rw (passed_up _ c.from_residual.ensures.1)
    (record {
      given = gives_refusal (surface_call a.code) a.l.now _ c.in_err-check_surface.ensures;
      words = λ z. absurd (number_is _ z);
    })

pub returns : goal.returns
returns c =
    let a = c.args in
    let z : surface_no (state_of a.l.now) a.code ≡ 0 = sym c.in_ok-check_surface.ensures in
    let ends = (surface_tells (state_of a.l.now) a.code z).sound.road.end_least in
    record { given = gives_accepted (surface_call a.code) a.l.now c.put_code.new.l z (ap state_of c.put_code.ensures ∙ code_state a.l.now a.code ends); words = λ e. c.put_code.ensures }
