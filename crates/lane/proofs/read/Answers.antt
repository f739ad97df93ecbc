use mathlib.Core.Path.{◌≡◌, refl, sym, ap, ap₂, ◌∙◌, subst}
use mathlib.Core.Bool.{false}
use Prim.Native.Nat.{ℕ}
use native.Mathlib.Omega.{arith}
use lib.Ieee.Exact.{HasValue}
use lib.ListN.{get_or}
use Rattle.wish.specs.Reading.{reading_of}
use Rattle.wish.specs.declared.Reading.{Reading}
use Rattle.lane.specs.declared.Carrier.{Carrier}
use Rattle.lane.specs.Layout.{Words, records_in, state_of}
use Rattle.lane.specs.Calls.{none, named_no, place_of, named_carrier}
use Rattle.lane.specs.Call.{read_call, shown, Gives}
use Rattle.lane.proofs.Refused.{passed_up}
use Rattle.lane.proofs.calls.Answers.{Names, gives_refusal, gives_accepted, accepted_has, named_tells, counted_most, record_at}
use Rattle.lane.proofs.checks.Soundness.{Narrow, fit_at, fit_narrow}
use Rattle.lane.proofs.read.Goals.{In_ok-place}
use Rattle.lane.proofs.read.Goals as goal

-- the checks are passed
module _ (c : In_ok-place) where
  abbrev lane : Words
  lane = c.args.l.now

  abbrev number : ℕ
  number = c.args.number

  accepted : named_no (state_of lane) number ≡ 0
  accepted = sym c.in_ok-place.ensures.0

  abbrev told : Names (state_of lane) number
  told = named_tells (state_of lane) number accepted

  place_is : c.in_ok-place.place ≡ place_of number (state_of lane).carriers
  place_is = c.in_ok-place.ensures.1 ∙ accepted_has _ _ 0 accepted

  -- the record that is read is the carrier named
  named : get_or (records_in lane) c.in_ok-place.place none ≡ named_carrier (state_of lane) number
  named = ap (λ (n : ℕ). get_or (records_in lane) n none) place_is ∙ record_at lane _ told.within

  narrow : Narrow (named_carrier (state_of lane) number)
  narrow =
      let h = told.sound in
      let road = (state_of lane).road in
      fit_narrow road _ h.road (fit_at road (state_of lane).carriers _ none h.carriers told.within)

pub returns-in_err-place : goal.returns-in_err-place
returns-in_err-place c =
    rw (passed_up _ c.from_residual.ensures.1) (record { given = gives_refusal (read_call c.args.number) c.args.l.now _ c.in_err-place.ensures.0; exact = tt })

pub carrier_at-c-requires : goal.carrier_at-c-requires
carrier_at-c-requires c = omega (arith, place_is (goal.at.carrier_at-c-requires c).In_ok-place, (told (goal.at.carrier_at-c-requires c).In_ok-place).within, counted_most (lane (goal.at.carrier_at-c-requires c).In_ok-place), (told (goal.at.carrier_at-c-requires c).In_ok-place).sound.count)

pub narrow-requires : goal.narrow-requires
narrow-requires c = rw (c.carrier_at-c.ensures ∙ named (goal.at.narrow-requires c).In_ok-place) (omega (arith, (narrow (goal.at.narrow-requires c).In_ok-place).position))

pub narrow-requires-2 : goal.narrow-requires-2
narrow-requires-2 c = rw (c.carrier_at-c.ensures ∙ named (goal.at.narrow-requires-2 c).In_ok-place) (narrow (goal.at.narrow-requires-2 c).In_ok-place).speed

pub returns : goal.returns
returns c =
    let x = read_call (number (goal.at.returns c).In_ok-place) in
    let e : c.carrier_at-c.result ≡ named_carrier (state_of (lane (goal.at.returns c).In_ok-place)) (number (goal.at.returns c).In_ok-place) = c.carrier_at-c.ensures ∙ named (goal.at.returns c).In_ok-place in
    let position : c.narrow.result ≡ (named_carrier (state_of (lane (goal.at.returns c).In_ok-place)) (number (goal.at.returns c).In_ok-place)).position = c.narrow.ensures ∙ ap (λ (k : Carrier). k.position) e in
    let speed : c.narrow-2.result ≡ (named_carrier (state_of (lane (goal.at.returns c).In_ok-place)) (number (goal.at.returns c).In_ok-place)).speed = c.narrow-2.ensures ∙ ap (λ (k : Carrier). k.speed) e in
    record {
      given = subst (λ (r : Reading). Gives x (lane (goal.at.returns c).In_ok-place) (shown 0 r) (lane (goal.at.returns c).In_ok-place)) (sym (c.reading_of.ensures.value ∙ ap₂ reading_of position speed))
          (gives_accepted x (lane (goal.at.returns c).In_ok-place) (lane (goal.at.returns c).In_ok-place) (accepted (goal.at.returns c).In_ok-place) refl);
      exact = (
        subst (λ (n : ℕ). HasValue c.reading_of.result.position false n 2048) position c.reading_of.ensures.has_value.0,
        subst (λ (n : ℕ). HasValue c.reading_of.result.speed false n 128) speed c.reading_of.ensures.has_value.1,
      );
    }
