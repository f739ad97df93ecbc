-- Two carriers over one cycle, in natural numbers: the follower at p with speed v, then u; the one ahead at pL with speed vL, then uL.
use mathlib.Core.Logic.{by_cases}
use Prim.Native.Nat.{ℕ, ◌+◌, ◌-◌, ◌*◌, ◌≤◌, ◌<◌}
use native.Mathlib.Nat.{mul-le-mul_left, mul-le-mul}
use native.Mathlib.Decide.{dec_le}
use native.Mathlib.Omega.{arith}
use Rattle.headway.specs.Stopping.{stopping_distance}
use Rattle.headway.proofs.Stopping.{mono, step}

-- braking at least at the guaranteed rate gains no more than the stopping distance
pub braking_gains : (b v u : ℕ) → 1 ≤ b → u ≤ v - b → v + u + stopping_distance b u ≤ stopping_distance b v
braking_gains b v u hb h = omega (arith, step b v hb, mono {c = b} {d = b} {v = u} {w = v - b} (omega arith) h)

-- three control points below three others, weighted by m², 2mk and k², which are not all 0
pub weighted : (m k x₀ x₁ x₂ y₀ y₁ y₂ : ℕ) → 1 ≤ k + m → x₀ < y₀ → x₁ < y₁ → x₂ < y₂
    → m * m * x₀ + 2 * m * k * x₁ + k * k * x₂ < m * m * y₀ + 2 * m * k * y₁ + k * k * y₂
weighted m k x₀ x₁ x₂ y₀ y₁ y₂ hn h₀ h₁ h₂ =
    omega (
      arith,
      mul-le-mul {n₁ = 1} {m₁ = 1} {n₂ = k + m} {m₂ = k + m} hn hn,
      mul-le-mul_left (m * m) h₀,
      mul-le-mul_left (2 * m * k) h₁,
      mul-le-mul_left (k * k) h₂,
    )

module _ (b B p v u pL vL uL : ℕ) (hb : 1 ≤ b) (hB : b ≤ B) (behind : p < pL)
    (test : p + v + u + stopping_distance b u < pL + stopping_distance B vL) (low : v - B ≤ u) (lowL : vL - B ≤ uL) where
  -- the stops, with the one ahead braking no harder than B
  pub stops_apart : p + v + u + stopping_distance b u < pL + vL + uL + stopping_distance B uL
  stops_apart = omega (arith, step B vL (omega arith), mono {c = B} {d = B} {v = vL - B} {w = uL} (omega arith) lowL)

  -- where the follower is at the end no slower than the one ahead that brakes hardest, it is behind that one
  faster : vL - B ≤ u → p + v + u < pL + vL + (vL - B)
  faster h = omega (arith, step B vL (omega arith), mono {c = B} {d = b} {v = vL - B} {w = u} hB h)

  pub middle_apart : p + v < pL + vL
  middle_apart = by_cases (dec_le v vL) (λ h. omega arith) (λ h. omega (arith, faster (omega arith)))

  pub ends_apart : p + v + u < pL + vL + uL
  ends_apart = by_cases (dec_le (vL - B) u) (λ h. omega (arith, faster h)) (λ h. omega arith)
