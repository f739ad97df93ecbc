-- The checks are made in the order of `opening_no`.
use mathlib.Core.Path.{◌≡◌, refl, sym, ap, ◌∙◌}
use borrow.Author.Tests.{ne_eqb}
use Rattle.lane.specs.declared.Carrier.{Carrier}
use Rattle.lane.specs.declared.Gap.{Gap}
use Rattle.lane.specs.declared.Newcomer.{Newcomer}
use Rattle.lane.specs.declared.layout.Figures.{Figures}
use Rattle.lane.specs.Refusals.{outcome_no}
use Rattle.lane.specs.State.{State}
use Rattle.lane.specs.Layout.{state_of}
use Rattle.lane.specs.Rules.{values_no}
use Rattle.lane.specs.Opening.{newcomer_at, gap_named_no, opening_no}
use Rattle.lane.proofs.Refused.{number_is, passed_up}
use Rattle.lane.proofs.checks.Checks.{refused_as, accepted_as}
use Rattle.lane.proofs.calls.Answers.{accepted_has}
use Rattle.lane.proofs.openings.check_opening.Goals.{After-check_values}
use Rattle.lane.proofs.openings.check_opening.Goals as goal

gap_first : (s : State) (g : Gap) (n : Newcomer) → ¬ (gap_named_no s g ≡ 0) → opening_no s g n ≡ gap_named_no s g
unfolding opening_no
gap_first s g n h = rw (ne_eqb (gap_named_no s g) 0 h) refl

values_then : (s : State) (g : Gap) (n : Newcomer) → gap_named_no s g ≡ 0 → opening_no s g n ≡ values_no s.road (newcomer_at n 0)
unfolding opening_no
values_then s g n e = rw e refl

pub returns-in_err-place : goal.returns-in_err-place
returns-in_err-place c =
    let a = c.args in
    let no = c.in_err-place.ensures.0 in
    rw (passed_up _ c.from_residual.ensures.1)
    (refused_as (opening_no (state_of a.l.now) a.gap a.n) _ _ (gap_first (state_of a.l.now) a.gap a.n (λ z. number_is _ (no ∙ z)) ∙ sym no))

-- past the gap the newcomer's values decide
module _ (c : After-check_values) where
  gap_named : gap_named_no (state_of c.args.l.now) c.args.gap ≡ 0
  gap_named = sym c.in_ok-place.ensures.0

  values_decide : opening_no (state_of c.args.l.now) c.args.gap c.args.n ≡ outcome_no c.check_values.result
  values_decide =
      values_then (state_of c.args.l.now) c.args.gap c.args.n gap_named
      ∙ sym (c.check_values.ensures ∙ ap (λ (k : Carrier). values_no c.figures_of-f.result.road k) c.at_start.ensures ∙ ap (λ (f : Figures). values_no f.road (newcomer_at c.args.n 0)) c.figures_of-f.ensures.value)

pub returns-in_err-check_values : goal.returns-in_err-check_values
returns-in_err-check_values c =
    rw (passed_up _ c.from_residual-in_err-check_values.ensures.1)
    (refused_as _ _ _ (values_decide (goal.at.returns-in_err-check_values c).After-check_values ∙ ap outcome_no c.in_err-check_values.was))

pub returns : goal.returns
returns c =
    accepted_as _ _ _ (values_decide (goal.at.returns c).After-check_values ∙ ap outcome_no c.in_ok-check_values.was) (c.in_ok-place.ensures.1 ∙ accepted_has _ _ 0 (gap_named (goal.at.returns c).After-check_values))
