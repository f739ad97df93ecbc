-- What a lane holds that 21 passes, in numbers: each carrier's own values.
use mathlib.Core.Path.{◌≡◌}
use mathlib.Core.Bool.{false}
use Prim.Native.Nat.{ℕ, ◌+◌, ◌≤◌, ◌<◌}
use lib.ListN.{length, get_or}
use Rattle.lane.specs.State.{State}
use Rattle.lane.specs.Rules.{broken}
use Rattle.lane.specs.Calls.{none}
use Rattle.lane.proofs.checks.Soundness.{fit_at, sound}

-- "a number 0 .., a speed above the limit, a position at or past the end"; T-03: by the tail, "and at a length out of range"; T-06: "21 covers a rate
-- out of range too."
pub carriers_lawful : (s : State) → broken s ≡ false → (i : ℕ) → i < length s.carriers →
    let c = get_or s.carriers i none in
    (1 ≤ c.number) × (c.number ≤ 65535) × (c.speed ≤ s.road.limit) × (c.length ≤ 65535) × (1 ≤ c.rate) × (c.rate ≤ 255) × (c.position < s.road.end + c.length)
carriers_lawful s e i p =
    let f = fit_at s.road s.carriers i none (sound s e).carriers p in
    (f.number_least, f.number_most_is, f.slow, f.short, f.rate_least, f.rate_most, f.before_end)
