-- Document 01, "Units": how a carrier moves within one cycle. Positions and speeds are natural numbers and accelerations
-- integers; an acceleration is at least −v, so that the sums below are not negative and `nat_abs` is the number itself
-- (laws `speed_sum`, `position_sum`, `fraction_not_negative`).
use Rattle.std.specs.Prelude.{ℕ, ◌*◌, ℤ, pos, nat_abs, ◌+ℤ◌, ◌*ℤ◌}

-- "One cycle with a: the speed becomes v + a,"
unfoldable pub speed_after : ℕ → ℤ → ℕ
speed_after v a = nat_abs (pos v +ℤ a)

-- "the position p + 2v + a."
unfoldable pub position_after : ℕ → ℕ → ℤ → ℕ
position_after p v a = nat_abs (pos p +ℤ pos (2 * v) +ℤ a)

-- "After the fraction k/n of it (n at least 1, k from 0 to n), n² times the position is n²p + 2vkn + ak²."
unfoldable pub position_at : (n k p v : ℕ) → ℤ → ℤ
position_at n k p v a = pos (n * n * p) +ℤ pos (2 * v * k * n) +ℤ a *ℤ pos (k * k)
