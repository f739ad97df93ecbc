use mathlib.Core.Path.{sym, ap₂, ◌∙◌}
use Rattle.lane.specs.declared.layout.Figures.{Figures}
use Rattle.lane.specs.Surface.{Tables}
use Rattle.lane.specs.Layout.{records_in, state_with}
use Rattle.lane.specs.Call.{start_call}
use Rattle.lane.proofs.Refused.{passed_up}
use Rattle.lane.proofs.calls.Answers.{gives_refusal, gives_accepted}
use Rattle.lane.proofs.start.Goals as goal

pub returns-in_err-check_start : goal.returns-in_err-check_start
returns-in_err-check_start c =
    let a = c.args in
    rw (passed_up _ c.from_residual.ensures.1) (gives_refusal (start_call a.road a.first) a.l.now _ c.in_err-check_start.ensures)

pub returns : goal.returns
returns c =
    let a = c.args in
    gives_accepted (start_call a.road a.first) a.l.now c.put_figures.new.l (sym c.in_ok-check_start.ensures)
    (ap₂ (λ (f : Figures) (t : Tables). state_with f t (records_in c.put_figures.new.l)) c.put_figures.ensures.l_after
    (c.put_figures.ensures.l_unchanged ∙ c.put_in_force.ensures.l_after))
