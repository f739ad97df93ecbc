-- The head has no number to check; the place behind the one named is the one after its own.
use mathlib.Core.Path.{◌≡◌, refl, sym, ◌∙◌}
use mathlib.Core.Bool.{cond}
use mathlib.Core.List.{List}
use Prim.Native.Nat.{ℕ, suc}
use native.Mathlib.Omega.{arith}
use Rattle.lane.specs.declared.Carrier.{Carrier}
use Rattle.lane.specs.declared.Gap.{Gap}
use Rattle.lane.specs.declared.Gap.TheVariants.{Behind, AheadOfAll}
use Rattle.lane.specs.State.{State}
use Rattle.lane.specs.Layout.{state_of}
use Rattle.lane.specs.Rules.{broken}
use Rattle.lane.specs.Calls.{named_no, place_of}
use Rattle.lane.specs.Opening.{gap_place, gap_named_no}
use Rattle.lane.proofs.Refused.{passed_up}
use Rattle.lane.proofs.checks.Checks.{passes_21, refuses_21, refused_as, accepted_as}
use Rattle.lane.proofs.calls.Answers.{accepted_has, named_tells, counted_most}
use Rattle.lane.proofs.openings.check_gap.Goals.{In_ok-place-in-Behind}
use Rattle.lane.proofs.openings.check_gap.Goals as goal

behind_no : (s : State) (g : Gap) (number : ℕ) → g ≡ Behind number → gap_named_no s g ≡ named_no s number
unfolding gap_named_no
behind_no s g number e = rw e refl

behind_place : (g : Gap) (number : ℕ) (cs : List Carrier) → g ≡ Behind number → gap_place g cs ≡ suc (place_of number cs)
unfolding gap_place
behind_place g number cs e = rw e refl

head_no : (s : State) (g : Gap) → g ≡ AheadOfAll → gap_named_no s g ≡ cond (broken s) 21 0
unfolding gap_named_no
head_no s g e = rw e refl

head_place : (g : Gap) (cs : List Carrier) → g ≡ AheadOfAll → gap_place g cs ≡ 0
unfolding gap_place
head_place g cs e = rw e refl

pub returns-in_err-place-in-Behind : goal.returns-in_err-place-in-Behind
returns-in_err-place-in-Behind c =
    let a = c.args in
    rw (passed_up _ c.from_residual.ensures.1)
    (refused_as (gap_named_no (state_of a.l.now) a.gap) _ _ (behind_no (state_of a.l.now) a.gap _ c.in-Behind.is ∙ sym c.in_err-place-in-Behind.ensures.0))

-- the carrier named is there
module _ (c : In_ok-place-in-Behind) where
  abbrev s : State
  s = state_of c.args.l.now

  abbrev number : ℕ
  number = c.in-Behind.number

  accepted : named_no s number ≡ 0
  accepted = sym c.in_ok-place-in-Behind.ensures.0

  place_is : c.in_ok-place-in-Behind.place ≡ place_of number s.carriers
  place_is = c.in_ok-place-in-Behind.ensures.1 ∙ accepted_has _ _ 0 accepted

pub overflow_add-result : goal.overflow_add-result
overflow_add-result c =
    let at = (goal.at.overflow_add-result c).In_ok-place-in-Behind in
    let there = named_tells (s at) _ (accepted at) in
    omega (arith, place_is at, there.within, counted_most c.args.l.now, there.sound.count)

pub returns-in_ok-place-in-Behind : goal.returns-in_ok-place-in-Behind
returns-in_ok-place-in-Behind c =
    let gap = c.args.gap in
    let e = c.in-Behind.is in
    accepted_as (gap_named_no (s c) gap) (gap_place gap (s c).carriers) _ (behind_no (s c) gap _ e ∙ accepted c) (omega (arith, place_is c, behind_place gap _ (s c).carriers e))

pub returns-in_err-check_sound-in-AheadOfAll : goal.returns-in_err-check_sound-in-AheadOfAll
returns-in_err-check_sound-in-AheadOfAll c =
    let a = c.args in
    let why = refuses_21 (state_of a.l.now) _ c.in_err-check_sound-in-AheadOfAll.ensures in
    rw (passed_up _ c.from_residual-in_err-check_sound-in-AheadOfAll.ensures.1)
    (refused_as (gap_named_no (state_of a.l.now) a.gap) _ _ (head_no (state_of a.l.now) a.gap c.in-AheadOfAll.is ∙ rw why.0 (sym why.1)))

pub returns-in_ok-check_sound-in-AheadOfAll : goal.returns-in_ok-check_sound-in-AheadOfAll
returns-in_ok-check_sound-in-AheadOfAll c =
    let a = c.args in
    let e = c.in-AheadOfAll.is in
    accepted_as (gap_named_no (state_of a.l.now) a.gap) _ 0 (head_no (state_of a.l.now) a.gap e ∙ rw (passes_21 _ c.in_ok-check_sound-in-AheadOfAll.ensures) refl) (sym (head_place a.gap _ e))
