-- The checks are made in the order of `named_no`, and the lookup gives the place.
use mathlib.Core.Path.{◌≡◌, refl, sym, ◌∙◌}
use mathlib.Core.Bool.{false, cond}
use Rattle.lane.specs.declared.refusal.Refusal.TheVariants.{NumberOutOfRange, NumberAbsent}
use Rattle.lane.specs.Layout.{state_of}
use Rattle.lane.specs.Safety.{any_of, numbered}
use Rattle.lane.specs.Rules.{broken}
use Rattle.lane.specs.Calls.{named_no}
use Rattle.lane.proofs.Refused.{passed_up}
use Rattle.lane.proofs.lists.Lookups.{found_at, found_nowhere}
use Rattle.lane.proofs.checks.Checks.{passes_21, refuses_21, refused_as, accepted_as}
use Rattle.lane.proofs.rules.check_named.Goals.{After-find-named, In_ok-check_sound}
use Rattle.lane.proofs.rules.check_named.Goals as goal

pub returns-in_err-check_sound : goal.returns-in_err-check_sound
unfolding named_no
returns-in_err-check_sound c =
    let why = refuses_21 (state_of c.args.l.now) _ c.in_err-check_sound.ensures in
    rw (passed_up _ c.from_residual.ensures.1) (refused_as _ _ _ (rw why.0 (sym why.1)))

unbroken : (c : In_ok-check_sound) → broken (state_of c.args.l.now) ≡ false
unbroken c = passes_21 _ c.in_ok-check_sound.ensures

pub returns-then-bad_number : goal.returns-then-bad_number
unfolding named_no
returns-then-bad_number c =
    let a = c.args in
    refused_as (named_no (state_of a.l.now) a.number) _ NumberOutOfRange (rw (unbroken (goal.at.returns-then-bad_number c).In_ok-check_sound, ← c.bad_number.ensures, c.if-bad_number.true) refl)

-- past 21 and 4 what is found decides
found_decides : (c : After-find-named) → let a = c.args in
    named_no (state_of a.l.now) a.number ≡ cond (any_of (numbered a.number) (state_of a.l.now).carriers) 0 24
unfolding named_no
found_decides c = rw (unbroken c.before.before.before, ← c.bad_number.ensures, c.if-bad_number.false) refl

pub returns-in-Some : goal.returns-in-Some
returns-in-Some c =
    let there = found_at _ _ _ c.find-named.ensures.found _ c.in-Some.is in
    accepted_as _ _ _ (found_decides (goal.at.returns-in-Some c).After-find-named ∙ rw there.0 refl) there.1

pub returns-in-None : goal.returns-in-None
returns-in-None c =
    let none = found_nowhere _ _ _ c.find-named.ensures.found c.in-None.is in
    refused_as _ _ NumberAbsent (found_decides (goal.at.returns-in-None c).After-find-named ∙ rw none refl)
