-- The checks are made in the order of `ready_no`, and the first that fails gives the number.
use mathlib.Core.Path.{◌≡◌, refl}
use mathlib.Core.Bool.{false}
use borrow.Author.Tests.{eq-eqb, ne_eqb}
use Rattle.lane.specs.Layout.{state_of}
use Rattle.lane.specs.Rules.{broken}
use Rattle.lane.specs.Calls.{ready_no}
use Rattle.lane.proofs.Refused.{passed_up}
use Rattle.lane.proofs.checks.Checks.{ready_checks, passes_21, refuses_21}
use Rattle.lane.proofs.rules.check_ready.Goals.{In_ok-check_sound}
use Rattle.lane.proofs.rules.check_ready.Goals as goal

pub returns-in_err-check_sound : goal.returns-in_err-check_sound
unfolding ready_no
returns-in_err-check_sound c =
    let why = refuses_21 (state_of c.args.l.now) _ c.in_err-check_sound.ensures in
    rw (passed_up _ c.from_residual.ensures.1, why.0) why.1

unbroken : (c : In_ok-check_sound) → broken (state_of c.args.l.now) ≡ false
unbroken c = passes_21 _ c.in_ok-check_sound.ensures

pub returns-then-count-f : goal.returns-then-count-f
returns-then-count-f c =
    rw (ready_checks _ _ c.figures_of-f.ensures.value, unbroken (goal.at.returns-then-count-f c).In_ok-check_sound, ne_eqb _ _ c.if-count-f.true) refl

pub returns-then-f : goal.returns-then-f
returns-then-f c =
    rw (ready_checks _ _ c.figures_of-f.ensures.value, unbroken (goal.at.returns-then-f c).In_ok-check_sound, eq-eqb _ _ c.if-count-f.false, eq-eqb _ _ c.if-f.true) refl

pub returns : goal.returns
returns c =
    rw (ready_checks _ _ c.figures_of-f.ensures.value, unbroken (goal.at.returns c).In_ok-check_sound, eq-eqb _ _ c.if-count-f.false, ne_eqb _ _ c.if-f.false) refl
