-- The checks are made in the order of `enter_no`: check 21, the newcomer by itself, and then its place.
use mathlib.Core.Path.{◌≡◌, sym, ap, ◌∙◌}
use mathlib.Core.Bool.{false}
use Rattle.lane.specs.Refusals.{outcome_no}
use Rattle.lane.specs.Layout.{state_of}
use Rattle.lane.specs.Rules.{broken, newcomer_no}
use Rattle.lane.specs.Calls.{enter_no}
use Rattle.lane.proofs.Refused.{number_is, passed_up}
use Rattle.lane.proofs.EntryLaws.{entry_refused}
use Rattle.lane.proofs.checks.Checks.{passes_21, refuses_21, refused_as}
use Rattle.lane.proofs.rules.check_enter.Goals.{After-check_newcomer, In_ok-check_sound}
use Rattle.lane.proofs.rules.check_enter.Goals as goal

pub returns-in_err-check_sound : goal.returns-in_err-check_sound
returns-in_err-check_sound c =
    let a = c.args in
    let why = refuses_21 (state_of a.l.now) _ c.in_err-check_sound.ensures in
    rw (passed_up _ c.from_residual.ensures.1) (refused_as _ _ _ ((entry_refused (state_of a.l.now) a.c).0 why.0 ∙ sym why.1))

unbroken : (c : In_ok-check_sound) → broken (state_of c.args.l.now) ≡ false
unbroken c = passes_21 _ c.in_ok-check_sound.ensures

-- the newcomer by itself
newcomer : (c : After-check_newcomer) → let a = c.args in newcomer_no (state_of a.l.now).road a.c ≡ outcome_no c.check_newcomer.result
newcomer c = sym (rw c.figures_of-f.ensures.value at c.check_newcomer.ensures)

pub returns-in_err-check_newcomer : goal.returns-in_err-check_newcomer
returns-in_err-check_newcomer c =
    let a = c.args in
    let number = newcomer (goal.at.returns-in_err-check_newcomer c).After-check_newcomer ∙ ap outcome_no c.in_err-check_newcomer.was in
    let own = (entry_refused (state_of a.l.now) a.c).1 (unbroken (goal.at.returns-in_err-check_newcomer c).In_ok-check_sound) (λ z. number_is _ (sym number ∙ z)) in
    rw (passed_up _ c.from_residual-in_err-check_newcomer.ensures.1) (refused_as _ _ _ (own ∙ number))

pub find_place-requires : goal.find_place-requires
find_place-requires c =
    (unbroken (goal.at.find_place-requires c).In_ok-check_sound, newcomer (goal.at.find_place-requires c).After-check_newcomer ∙ ap outcome_no c.in_ok-check_newcomer.was)

pub returns : goal.returns
unfolding enter_no
returns c =
    rw (unbroken (goal.at.returns c).In_ok-check_sound, newcomer (goal.at.returns c).After-check_newcomer ∙ ap outcome_no c.in_ok-check_newcomer.was) c.find_place.ensures
