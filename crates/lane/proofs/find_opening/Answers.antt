use mathlib.Core.Path.{◌≡◌, refl, sym, ap, ◌∙◌, subst}
use Prim.Native.Nat.{ℕ}
use Rattle.lane.specs.declared.Gap.{Gap}
use Rattle.lane.specs.declared.Newcomer.{Newcomer}
use Rattle.lane.specs.Layout.{Words, state_of}
use Rattle.lane.specs.Opening.{gap_place, opens, span_of, opening_in, opening_no}
use Rattle.lane.specs.Call.{opening_call, Answer, spanned, Gives}
use Rattle.lane.proofs.Refused.{passed_up}
use Rattle.lane.proofs.calls.Answers.{gives_refusal, gives_accepted, accepted_has, opening_tells}
use Rattle.lane.proofs.checks.Soundness.{sound_holds}
use Rattle.lane.proofs.find_opening.Goals.{In_ok-place}
use Rattle.lane.proofs.find_opening.Goals as goal

pub returns-in_err-place : goal.returns-in_err-place
returns-in_err-place c =
    let a = c.args in
    rw (passed_up _ c.from_residual.ensures.1) (gives_refusal (opening_call a.gap a.newcomer) a.l.now _ c.in_err-place.ensures.0)

-- the checks are passed
module _ (c : In_ok-place) where
  abbrev l : Words
  l = c.args.l.now

  abbrev gap : Gap
  gap = c.args.gap

  abbrev n : Newcomer
  n = c.args.newcomer

  accepted : opening_no (state_of l) gap n ≡ 0
  accepted = sym c.in_ok-place.ensures.0

  place_is : c.in_ok-place.place ≡ gap_place gap (state_of l).carriers
  place_is = c.in_ok-place.ensures.1 ∙ accepted_has _ _ 0 accepted

pub opening_at-requires : goal.opening_at-requires
opening_at-requires c =
    let told = opening_tells (state_of (l (goal.at.opening_at-requires c).In_ok-place)) (gap (goal.at.opening_at-requires c).In_ok-place) (n (goal.at.opening_at-requires c).In_ok-place) (accepted (goal.at.opening_at-requires c).In_ok-place) in
    (sound_holds (state_of (l (goal.at.opening_at-requires c).In_ok-place)) told.sound, (rw (place_is (goal.at.opening_at-requires c).In_ok-place) told.within, told.values))

pub returns : goal.returns
unfolding opening_in
returns c =
    subst (λ (a : Answer). Gives (opening_call (gap (goal.at.returns c).In_ok-place) (n (goal.at.returns c).In_ok-place)) (l (goal.at.returns c).In_ok-place) a (l (goal.at.returns c).In_ok-place))
    (sym (ap (spanned 0) c.opening_at.ensures ∙ ap (λ (place : ℕ). spanned 0 (span_of (opens (state_of (l (goal.at.returns c).In_ok-place)) place (n (goal.at.returns c).In_ok-place)))) (place_is (goal.at.returns c).In_ok-place)))
    (gives_accepted (opening_call (gap (goal.at.returns c).In_ok-place) (n (goal.at.returns c).In_ok-place)) (l (goal.at.returns c).In_ok-place) (l (goal.at.returns c).In_ok-place) (accepted (goal.at.returns c).In_ok-place) refl)
