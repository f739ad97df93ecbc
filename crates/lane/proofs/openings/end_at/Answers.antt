-- Where nobody is ahead the lane end alone bounds.
use mathlib.Core.Path.{◌≡◌, sym, ap, ◌∙◌}
use mathlib.Core.Bool.{not, ◌&&◌}
use mathlib.Core.Logic.{by_cases}
use Prim.Native.Nat.{ℕ, ◌-◌, ◌≤◌, ◌<◌, min}
use native.Mathlib.Decide.{dec_le}
use native.Mathlib.Omega.{arith}
use borrow.Author.Tests.{ne_eqb, lt-ltb}
use lib.Dec.{leb, ltb}
use lib.ListN.{length, get_or}
use Rattle.lane.specs.declared.Carrier.{Carrier}
use mathlib.Core.Bool.{false}
use Rattle.lane.specs.Layout.{Words, state_of, records_in}
use Rattle.lane.specs.Rules.{broken}
use Rattle.lane.specs.Safety.{leader, safe_with}
use Rattle.lane.specs.Calls.{none, ahead_of}
use Rattle.lane.specs.Opening.{newcomer_at}
use Rattle.lane.proofs.EntryLaws.{safe_numbers}
use Rattle.lane.proofs.checks.Soundness.{Sound, sound, row_sound, Fit, fit_narrow}
use Rattle.lane.proofs.checks.Surfaces.{row_brakes}
use Rattle.lane.proofs.calls.Answers.{counted_most, record_at, fit_there}
use Rattle.lane.proofs.calls.Openings.{end_alone, end_or_leader}
use Rattle.lane.proofs.openings.end_at.Goals.{After-below_leader}
use Rattle.lane.proofs.openings.end_at.Goals as goal

pub returns-then-place-eq0 : goal.returns-then-place-eq0
unfolding safe_with
returns-then-place-eq0 c = (λ p. rw c.if-place-eq0.true (end_alone c.args.end p), omega arith)

-- somebody is ahead
module _ (l : Words) (place : ℕ) (fine : broken (state_of l) ≡ false) (some : ¬ (place ≡ 0)) (few : place ≤ length (state_of l).carriers) where
  within : place - 1 < length (state_of l).carriers
  within = omega arith

  known : Sound (state_of l)
  known = sound (state_of l) fine

  -- it is the carrier before the place
  there : {x : Carrier} → x ≡ get_or (records_in l) (place - 1) none → x ≡ get_or (state_of l).carriers (place - 1) none
  there e = e ∙ record_at l _ within

  -- whose tail is before the end
  fits : {x : Carrier} → x ≡ get_or (records_in l) (place - 1) none → Fit (state_of l).road x
  fits e = rw (← e) at (fit_there l known _ within)

pub carrier_at-requires : goal.carrier_at-requires
carrier_at-requires c =
    let l = c.args.l.now in
    let r = c.requires.l_value in
    omega (arith, within l c.args.place r.0 c.if-place-eq0.false r.1.1, counted_most l, (known l c.args.place r.0 c.if-place-eq0.false r.1.1).count)

pub below_leader-requires : goal.below_leader-requires
below_leader-requires c =
    let l = c.args.l.now in
    let r = c.requires.l_value in
    let h = known l c.args.place r.0 c.if-place-eq0.false r.1.1 in
    let narrow = fit_narrow _ _ h.road (fits l c.args.place r.0 c.if-place-eq0.false r.1.1 c.carrier_at.ensures) in
    let own = c.requires.end_value.1 in
    (rw r.1.0 (row_brakes _ (row_sound h)), (own.1, (own.0, (narrow.slow, narrow.short))))

-- so that who is safe behind it is
before_end : (c : After-below_leader) → c.below_leader.result ≤ c.args.end
before_end c = by_cases (dec_le c.below_leader.result c.args.end) (λ h. h) past
  where
    past : ¬ (c.below_leader.result ≤ c.args.end) → c.below_leader.result ≤ c.args.end
    past h =
        let r = c.requires.l_value in
        let safe = safe_numbers c.args.row c.carrier_at.result (newcomer_at c.args.n c.args.end) (c.below_leader.ensures c.args.end ∙ lt-ltb c.args.end c.below_leader.result (omega arith)) in
        omega (arith, safe.0, (fits c.args.l.now c.args.place r.0 c.if-place-eq0.false r.1.1 c.carrier_at.ensures).before_end, c.requires.end_value.0)

pub returns : goal.returns
returns c = (λ p. bounds p, before_end (goal.at.returns c).After-below_leader)
  where
    bounds : (p : ℕ) → let a = c.args in
        not (leb a.end p) && safe_with a.row (ahead_of a.place (state_of a.l.now).carriers) (newcomer_at a.n p) ≡ ltb p c.below_leader.result
    bounds p =
        let a = c.args in
        let l = a.l.now in
        let r = c.requires.l_value in
        let ahead : safe_with a.row (leader (get_or (state_of l).carriers (a.place - 1) none)) (newcomer_at a.n p) ≡ ltb p c.below_leader.result =
        ap (λ (k : Carrier). safe_with a.row (leader k) (newcomer_at a.n p)) (sym (there l a.place r.0 c.if-place-eq0.false r.1.1 c.carrier_at.ensures)) ∙ c.below_leader.ensures p in
        let least : min a.end c.below_leader.result ≡ c.below_leader.result = omega (arith, before_end (goal.at.returns c).After-below_leader) in
        rw (ne_eqb a.place 0 c.if-place-eq0.false, ahead) (end_or_leader a.end c.below_leader.result p ∙ ap (ltb p) least)
