-- No stop is longer than the square of the highest limit, so that nothing wraps.
use mathlib.Core.Path.{◌≡◌, refl, sym, ◌∙◌}
use Prim.Native.Nat.{◌-◌, ◌≤◌}
use native.Mathlib.Omega.{arith}
use Rattle.headway.proofs.Laws.{stopping_most}
use Rattle.headway.specs.Stopping.{stopping_distance}
use Rattle.lane.specs.Safety.{guaranteed_rate}
use Rattle.lane.proofs.checks.Surfaces.{rate_brakes}
use Rattle.lane.proofs.calls.Openings.{above_follower_is}
use Rattle.lane.proofs.openings.above_follower.Goals.{After-saturating_sub-longer}
use Rattle.lane.proofs.openings.above_follower.Goals as goal

-- how much longer the stop of the one behind is than the newcomer's
longer : (c : After-saturating_sub-longer) → let a = c.args in
    c.saturating_sub-longer.result ≡ stopping_distance (guaranteed_rate a.row a.behind) a.behind.speed - stopping_distance a.row.hardest a.n.speed
longer c =
    c.saturating_sub-longer.ensures ∙ rw (c.stopping.ensures, c.stopping-2.ensures, c.guaranteed_rate-rate.ensures) refl

longer_most : (c : After-saturating_sub-longer) → c.saturating_sub-longer.result ≤ 67108864
longer_most c =
    let a = c.args in
    let rate = (rate_brakes a.row a.behind c.requires.0 c.requires.1.0).0 in
    omega (arith, longer c, stopping_most (guaranteed_rate a.row a.behind) a.behind.speed 8192 rate c.requires.1.1.0)

pub overflow_add-result-2 : goal.overflow_add-result-2
overflow_add-result-2 c = omega (arith, longer_most (goal.at.overflow_add-result-2 c).After-saturating_sub-longer, c.requires)

pub overflow_add-result-3 : goal.overflow_add-result-3
overflow_add-result-3 c = omega (arith, longer_most (goal.at.overflow_add-result-3 c).After-saturating_sub-longer, c.requires)

pub returns : goal.returns
returns c p =
    let a = c.args in
    above_follower_is a.row a.n a.behind p ∙ sym (rw (longer (goal.at.returns c).After-saturating_sub-longer) refl)
