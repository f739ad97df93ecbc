-- The checks are made in the order of `newcomer_no`, and each answer is the first that fails.
use mathlib.Core.Path.{◌≡◌, refl, sym, ◌∙◌}
use mathlib.Core.Bool.{false}
use borrow.Author.Tests.{le-leb, lt-leb}
use Rattle.lane.specs.Rules.{bad_number, newcomer_no}
use Rattle.lane.proofs.Newcomers.{own_values_in_order}
use Rattle.lane.proofs.rules.check_newcomer.Goals.{Else-bad_number}
use Rattle.lane.proofs.rules.check_newcomer.Goals as goal

pub returns-then-bad_number : goal.returns-then-bad_number
unfolding newcomer_no
returns-then-bad_number c = rw (← c.bad_number.ensures, c.if-bad_number.true) refl

good_number : (c : Else-bad_number) → bad_number c.args.c.number ≡ false
good_number c = sym c.bad_number.ensures ∙ c.if-bad_number.false

pub returns-then-road-c : goal.returns-then-road-c
unfolding newcomer_no
returns-then-road-c c = rw (good_number (goal.at.returns-then-road-c c).Else-bad_number, le-leb _ _ c.if-road-c.true) refl

-- past the position speed, length and own rate decide
pub returns : goal.returns
returns c =
    let a = c.args in
    c.check_values.ensures
    ∙ sym (own_values_in_order a.road a.c ∙ rw (good_number (goal.at.returns c).Else-bad_number, lt-leb _ _ c.if-road-c.false) refl)
