use mathlib.Core.Path.{◌≡◌, sym, ap, ◌∙◌, subst}
use Prim.Native.Nat.{ℕ}
use native.Mathlib.Omega.{arith}
use Rattle.lane.specs.declared.Carrier.{Carrier}
use Rattle.lane.specs.Layout.{Words, state_of}
use Rattle.lane.specs.Calls.{walk, enter_no, insert_at, with_carriers, entered_state}
use Rattle.lane.specs.Call.{enter_call, placed, Gives}
use Rattle.lane.proofs.Refused.{passed_up}
use Rattle.lane.proofs.calls.Answers.{gives_refusal, gives_accepted, accepted_has, enter_tells, walk_le, counted_most}
use Rattle.lane.proofs.enter.Goals.{In_ok-place}
use Rattle.lane.proofs.enter.Goals as goal

-- the checks are passed
module _ (c : In_ok-place) where
  abbrev lane : Words
  lane = c.args.l.now

  abbrev newcomer : Carrier
  newcomer = c.args.c

  accepted : enter_no (state_of lane) newcomer ≡ 0
  accepted = sym c.in_ok-place.ensures.0

  place_is : c.in_ok-place.place ≡ walk newcomer.position (state_of lane).carriers
  place_is = c.in_ok-place.ensures.1 ∙ accepted_has _ _ 0 accepted

pub returns-in_err-place : goal.returns-in_err-place
returns-in_err-place c =
    let a = c.args in
    rw (passed_up _ c.from_residual.ensures.1) (gives_refusal (enter_call a.c) a.l.now _ c.in_err-place.ensures.0)

pub insert-requires : goal.insert-requires
insert-requires c =
    let l = lane (goal.at.insert-requires c).In_ok-place in
    let place = walk_le (newcomer (goal.at.insert-requires c).In_ok-place).position (state_of l).carriers in
    (omega (arith, place_is (goal.at.insert-requires c).In_ok-place, place, counted_most l), (enter_tells (state_of l) (newcomer (goal.at.insert-requires c).In_ok-place) (accepted (goal.at.insert-requires c).In_ok-place)).room)

pub returns : goal.returns
unfolding entered_state
returns c =
    let x = enter_call (newcomer (goal.at.returns c).In_ok-place) in
    let e = place_is (goal.at.returns c).In_ok-place in
    let s = state_of (lane (goal.at.returns c).In_ok-place) in
    subst (λ (n : ℕ). Gives x (lane (goal.at.returns c).In_ok-place) (placed 0 n) c.insert.new.l) (sym e)
    (gives_accepted x (lane (goal.at.returns c).In_ok-place) c.insert.new.l (accepted (goal.at.returns c).In_ok-place)
    (c.insert.ensures ∙ ap (λ (n : ℕ). with_carriers s (insert_at n (newcomer (goal.at.returns c).In_ok-place) s.carriers)) e))
