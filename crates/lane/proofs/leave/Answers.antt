use mathlib.Core.Path.{◌≡◌, sym, ap, ◌∙◌}
use Prim.Native.Nat.{ℕ}
use native.Mathlib.Omega.{arith}
use Rattle.lane.specs.Layout.{Words, state_of}
use Rattle.lane.specs.Calls.{named_no, place_of, remove_at, with_carriers, left_state}
use Rattle.lane.specs.Call.{leave_call}
use Rattle.lane.proofs.Refused.{passed_up}
use Rattle.lane.proofs.calls.Answers.{gives_refusal, gives_accepted, accepted_has, named_tells, counted_most}
use Rattle.lane.proofs.leave.Goals.{In_ok-place}
use Rattle.lane.proofs.leave.Goals as goal

-- the checks are passed
module _ (c : In_ok-place) where
  abbrev lane : Words
  lane = c.args.l.now

  abbrev number : ℕ
  number = c.args.number

  accepted : named_no (state_of lane) number ≡ 0
  accepted = sym c.in_ok-place.ensures.0

  place_is : c.in_ok-place.place ≡ place_of number (state_of lane).carriers
  place_is = c.in_ok-place.ensures.1 ∙ accepted_has _ _ 0 accepted

pub returns-in_err-place : goal.returns-in_err-place
returns-in_err-place c =
    let a = c.args in
    rw (passed_up _ c.from_residual.ensures.1) (gives_refusal (leave_call a.number) a.l.now _ c.in_err-place.ensures.0)

pub remove-requires : goal.remove-requires
remove-requires c =
    let l = lane (goal.at.remove-requires c).In_ok-place in
    let t = named_tells (state_of l) (number (goal.at.remove-requires c).In_ok-place) (accepted (goal.at.remove-requires c).In_ok-place) in
    (omega (arith, place_is (goal.at.remove-requires c).In_ok-place, t.within, counted_most l), t.sound.count)

pub returns : goal.returns
unfolding left_state
returns c =
    let s = state_of (lane (goal.at.returns c).In_ok-place) in
    gives_accepted (leave_call (number (goal.at.returns c).In_ok-place)) (lane (goal.at.returns c).In_ok-place) c.remove.new.l (accepted (goal.at.returns c).In_ok-place)
    (c.remove.ensures ∙ ap (λ (n : ℕ). with_carriers s (remove_at n s.carriers)) (place_is (goal.at.returns c).In_ok-place))
