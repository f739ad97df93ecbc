-- No stop is longer than the square of the highest limit, so that nothing wraps.
use mathlib.Core.Path.{◌≡◌, refl, sym, ◌∙◌}
use Prim.Native.Nat.{◌-◌, ◌≤◌}
use native.Mathlib.Omega.{arith}
use Rattle.headway.proofs.Laws.{stopping_most}
use Rattle.headway.specs.Stopping.{stopping_distance}
use Rattle.lane.specs.Safety.{guaranteed_rate}
use Rattle.lane.specs.Opening.{newcomer_at}
use Rattle.lane.proofs.checks.Surfaces.{rate_brakes}
use Rattle.lane.proofs.calls.Openings.{below_leader_is}
use Rattle.lane.proofs.openings.below_leader.Goals.{After-guaranteed_rate-rate, After-saturating_sub-longer}
use Rattle.lane.proofs.openings.below_leader.Goals as goal

-- the newcomer's guaranteed rate
rate_is : (c : After-guaranteed_rate-rate) → let a = c.args in c.guaranteed_rate-rate.result ≡ guaranteed_rate a.row (newcomer_at a.n 0)
rate_is c = c.guaranteed_rate-rate.ensures ∙ rw c.at_start.ensures refl

rate_least : (c : After-guaranteed_rate-rate) → 1 ≤ c.guaranteed_rate-rate.result
rate_least c = rw (rate_is c) (rate_brakes c.args.row (newcomer_at c.args.n 0) c.requires.0 c.requires.1.0).0

pub stopping-requires : goal.stopping-requires
stopping-requires c = (rate_least (goal.at.stopping-requires c).After-guaranteed_rate-rate, omega (arith, c.requires))

-- how much longer the newcomer's stop is than that of the one ahead
longer : (c : After-saturating_sub-longer) → let a = c.args in
    c.saturating_sub-longer.result ≡ stopping_distance (guaranteed_rate a.row (newcomer_at a.n 0)) a.n.speed - stopping_distance a.row.hardest a.ahead.speed
longer c =
    c.saturating_sub-longer.ensures ∙ rw (c.stopping.ensures, c.stopping-2.ensures, rate_is c.before.before.before) refl

pub overflow_add-ahead : goal.overflow_add-ahead
overflow_add-ahead c =
    let most = stopping_most c.guaranteed_rate-rate.result c.args.n.speed 8192 (rate_least (goal.at.overflow_add-ahead c).After-guaranteed_rate-rate) c.requires.1.1.0 in
    omega (arith, c.saturating_sub-longer.ensures, c.stopping.ensures, most, c.requires)

pub returns : goal.returns
returns c p =
    let a = c.args in
    below_leader_is a.row a.n a.ahead p ∙ sym (rw (c.saturating_sub.ensures, longer (goal.at.returns c).After-saturating_sub-longer) refl)
