-- One cycle in natural numbers: with u the speed afterwards, a carrier gains v + u.
use mathlib.Core.Path.{◌≡◌, ap, ◌∙◌, subst}
use Prim.Native.Nat.{ℕ, ◌+◌, ◌-◌, ◌*◌, ◌≤◌}
use native.Mathlib.Nat.{add-sub_of_le}
use native.Mathlib.Omega.{arith}
use Rattle.std.proofs.lemmas.Int.{ints}
use lib.IntN.{ℤ, pos, nat_abs, ◌+ℤ◌, ◌-ℤ◌, ◌*ℤ◌}
use lib.Signed.{◌≤ℤ◌}
use Rattle.headway.specs.Motion.{speed_after, position_after, position_at}
use Rattle.headway.specs.Stopping.{braking}
use Rattle.headway.proofs.Integers.{more, times}

-- (k + m)² times the position at k/(k + m): the control points p, p + v and p + v + u weighted by m², 2mk and k²
abbrev pub weighted_at : (m k p v u : ℕ) → ℕ
weighted_at m k p v u = m * m * p + 2 * m * k * (p + v) + k * k * (p + v + u)

module _ (v : ℕ) (a : ℤ) (u : ℕ) (e : pos v +ℤ a ≡ pos u) where
  pub speed_is : speed_after v a ≡ u
  unfolding speed_after
  speed_is = ap nat_abs e

  pub position_sum_is : (p : ℕ) → pos p +ℤ pos (2 * v) +ℤ a ≡ pos (p + v + u)
  position_sum_is p = omega (arith, ints)

  pub position_is : (p : ℕ) → position_after p v a ≡ p + v + u
  unfolding position_after
  position_is p = ap nat_abs (position_sum_is p)

  pub trajectory_is : (n k p : ℕ) → k ≤ n → position_at n k p v a ≡ pos (weighted_at (n - k) k p v u)
  unfolding position_at
  trajectory_is n k p h = subst (λ (x : ℕ). position_at x k p v a ≡ pos (weighted_at (n - k) k p v u)) (add-sub_of_le h) (of_sum k (n - k) p)
    where
      apart : (k m p v : ℕ) → (k + m) * (k + m) * p + 2 * v * k * (k + m) ≡ weighted_at m k p v 0 + v * (k * k)
      apart k m p v = omega arith

      joined : (k m p v u : ℕ) → weighted_at m k p v 0 + u * (k * k) ≡ weighted_at m k p v u
      joined k m p v u = omega arith

      of_sum : (k m p : ℕ) → position_at (k + m) k p v a ≡ pos (weighted_at m k p v u)
      of_sum k m p =
          ap (λ (x : ℕ). pos x +ℤ a *ℤ pos (k * k)) (apart k m p v)
          ∙ more (weighted_at m k p v 0) (v * (k * k)) (a *ℤ pos (k * k)) (u * (k * k)) (times v a u (k * k) e)
          ∙ ap pos (joined k m p v u)

-- the acceleration that leads from v to u
pub from_to : (v u : ℕ) → pos v +ℤ (pos u -ℤ pos v) ≡ pos u
from_to v u = omega (arith, ints)

-- braking takes the speed to v − c, or to 0
pub braked : (c v : ℕ) → pos v +ℤ braking c v ≡ pos (v - c)
unfolding braking
braked c v = omega (arith, ints)

-- an acceleration no harder than braking at rate c leads to a speed of at least v − c
pub driven : (c v : ℕ) (a : ℤ) → braking c v ≤ℤ a → (u : ℕ) × (pos v +ℤ a ≡ pos u) × (v - c ≤ u)
unfolding braking
driven c v a h = (nat_abs (pos v +ℤ a), omega (arith, ints), omega (arith, ints))

-- an acceleration at least as hard as braking at rate c leads to a speed of at most v − c
pub slower : (c v : ℕ) (a : ℤ) (u : ℕ) → pos v +ℤ a ≡ pos u → a ≤ℤ braking c v → u ≤ v - c
unfolding braking
slower c v a u e h = omega (arith, ints)
