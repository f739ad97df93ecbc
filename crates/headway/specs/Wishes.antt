-- Document 01, "Wishes": the test of a trimmed wish w behind a carrier ahead.
use Rattle.std.specs.Prelude.{ℕ, ◌+◌, Bool, ltb, ℤ}
use Rattle.headway.specs.Motion.{speed_after, position_after}
use Rattle.headway.specs.Stopping.{stopping_distance}

-- "p + 2v + w + S(b, v + w) below p of the carrier ahead + S(B, its v)"
unfoldable pub rests_behind : (b B p v : ℕ) → ℤ → (pL vL : ℕ) → Bool
rests_behind b B p v w pL vL = ltb (position_after p v w + stopping_distance b (speed_after v w)) (pL + stopping_distance B vL)
