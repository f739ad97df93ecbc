-- Where nobody is behind every position will do.
use mathlib.Core.Path.{◌≡◌, refl, sym, ap, ◌∙◌}
use mathlib.Core.Bool.{not}
use Prim.Native.Nat.{◌<◌}
use native.Mathlib.Omega.{arith}
use borrow.Author.Tests.{lt-ltb, le-ltb, le-leb}
use lib.ListN.{length, get_or}
use Rattle.lane.specs.declared.Carrier.{Carrier}
use Rattle.lane.specs.Layout.{Words, state_of}
use Rattle.lane.specs.Safety.{leader, safe_with}
use Rattle.lane.specs.Calls.{none}
use Rattle.lane.specs.Opening.{newcomer_at}
use Rattle.lane.proofs.checks.Soundness.{Sound, sound, row_sound, fit_narrow}
use Rattle.lane.proofs.checks.Surfaces.{row_brakes}
use Rattle.lane.proofs.calls.Answers.{counted_most, record_at, fit_there}
use Rattle.lane.proofs.openings.lowest_at.Goals.{After-carrier_at, Else-count-place}
use Rattle.lane.proofs.openings.lowest_at.Goals as goal

pub returns-then-count-place : goal.returns-then-count-place
returns-then-count-place c p =
    rw (le-ltb c.args.place (length (state_of c.args.l.now).carriers) (omega (arith, c.requires.l_value.1.1, c.if-count-place.true)), le-leb 0 p (omega arith)) refl

-- somebody is behind
module _ (c : Else-count-place) where
  abbrev l : Words
  l = c.args.l.now

  within : c.args.place < length (state_of l).carriers
  within = omega (arith, c.requires.l_value.1.1, c.if-count-place.false)

  known : Sound (state_of l)
  known = sound (state_of l) c.requires.l_value.0

pub carrier_at-requires : goal.carrier_at-requires
carrier_at-requires c = omega (arith, within (goal.at.carrier_at-requires c).Else-count-place, counted_most (l (goal.at.carrier_at-requires c).Else-count-place), (known (goal.at.carrier_at-requires c).Else-count-place).count)

-- it is the carrier at the place
there : (c : After-carrier_at) → c.carrier_at.result ≡ get_or (state_of (l c.before)).carriers c.args.place none
there c = c.carrier_at.ensures ∙ record_at (l c.before) _ (within c.before)

pub above_follower-requires : goal.above_follower-requires
above_follower-requires c =
    let h = known (goal.at.above_follower-requires c).Else-count-place in
    let fits = rw (← c.carrier_at.ensures) at (fit_there (l (goal.at.above_follower-requires c).Else-count-place) h _ (within (goal.at.above_follower-requires c).Else-count-place)) in
    let narrow = fit_narrow _ _ h.road fits in
    let own = c.requires.speed_bound in
    (rw c.requires.l_value.1.0 (row_brakes _ (row_sound h)), (fits.rate_least, (narrow.slow, (own.0, (own.1, omega (arith, narrow.position))))))

pub returns : goal.returns
returns c p =
    let a = c.args in
    rw (lt-ltb a.place (length (state_of (l (goal.at.returns c).Else-count-place)).carriers) (within (goal.at.returns c).Else-count-place))
    (ap not (ap (λ (k : Carrier). safe_with a.row (leader (newcomer_at a.n p)) k) (sym (there (goal.at.returns c).After-carrier_at)) ∙ c.above_follower.ensures p))
