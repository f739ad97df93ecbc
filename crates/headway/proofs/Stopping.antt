-- The stopping distance at any rate of at least 1: how it grows, one cycle of it, and its quotient form.
use mathlib.Core.Path.{◌≡◌, refl, sym, ap, ◌∙◌}
use mathlib.Core.Logic.{by_cases}
use Prim.Native.Nat.{ℕ, zero, suc, ◌+◌, ◌-◌, ◌*◌, ◌/◌, ◌%◌, ◌^◌, ◌≤◌, ◌<◌, zero-le}
use native.Mathlib.Nat.{div-eq_of_lt, mod-eq_of_lt, div-eq-sub-div, mod-eq-sub-mod, div-add-mod', mul-le-mul, div-one, mod-one, mod-lt, zero-sub}
use native.Mathlib.Decide.{dec_lt}
use native.Mathlib.Omega.{arith}
use Rattle.headway.specs.Motion.{speed_after, position_after}
use Rattle.headway.specs.Stopping.{braking, slowed, gained, stopping_distance}
use Rattle.headway.proofs.Motion.{speed_is, position_is, braked}

-- one cycle of braking, in natural numbers
pub next_speed : (c v : ℕ) → speed_after v (braking c v) ≡ v - c
next_speed c v = speed_is v (braking c v) (v - c) (braked c v)

pub next_position : (c p v : ℕ) → position_after p v (braking c v) ≡ p + v + (v - c)
next_position c p v = position_is v (braking c v) (v - c) (braked c v) p

pub slowed_next : (k c v : ℕ) → slowed (suc k) c v ≡ slowed k c (v - c)
unfolding slowed
slowed_next k c v = ap (slowed k c) (next_speed c v)

pub gained_next : (k c v : ℕ) → gained (suc k) c v ≡ v + (v - c) + gained k c (v - c)
unfolding gained
gained_next k c v = rw (next_position c 0 v, next_speed c v) (omega arith)

pub slowed_none : (c v : ℕ) → slowed 0 c v ≡ v
unfolding slowed
slowed_none c v = refl

pub gained_none : (c v : ℕ) → gained 0 c v ≡ 0
unfolding gained
gained_none c v = refl

-- braking at a rate of at least 1, v cycles end at rest
pub rests : (k c v : ℕ) → 1 ≤ c → v ≤ k → slowed k c v ≡ 0
unfolding slowed
rests zero c v hc hk = omega arith
rests (suc k) c v hc hk = rw (next_speed c v) (rests k c (v - c) hc (omega arith))

-- from rest nothing is gained
gained_rest : (k c : ℕ) → gained k c 0 ≡ 0
gained_rest zero c = gained_none c 0
gained_rest (suc k) c = rw (gained_next k c 0, zero-sub c) (omega (arith, gained_rest k c))

-- more cycles, more speed and a lower rate gain no less
gained_mono : (k l c d v w : ℕ) → k ≤ l → d ≤ c → v ≤ w → gained k c v ≤ gained l d w
gained_mono zero l c d v w hk hd hv = rw (gained_none c v) zero-le
gained_mono (suc k) zero c d v w hk hd hv = omega arith
gained_mono (suc k) (suc l) c d v w hk hd hv =
    rw (gained_next k c v, gained_next l d w)
    (omega (arith, gained_mono k l c d (v - c) (w - d) (omega arith) hd (omega arith)))

-- cycles beyond rest gain nothing
gained_enough : (k l c v : ℕ) → 1 ≤ c → v ≤ k → v ≤ l → gained k c v ≡ gained l c v
gained_enough zero l c v hc hk hl =
    let e : v ≡ 0 = omega arith in
    rw e (gained_none c 0 ∙ sym (gained_rest l c))
gained_enough (suc k) zero c v hc hk hl =
    let e : v ≡ 0 = omega arith in
    rw e (gained_rest (suc k) c ∙ sym (gained_none c 0))
gained_enough (suc k) (suc l) c v hc hk hl =
    rw (gained_next k c v, gained_next l c v)
    (ap (λ (n : ℕ). v + (v - c) + n) (gained_enough k l c (v - c) hc (omega arith) (omega arith)))

pub mono : {c d v w : ℕ} → d ≤ c → v ≤ w → stopping_distance c v ≤ stopping_distance d w
unfolding stopping_distance
mono {c} {d} {v} {w} hd hv = gained_mono v w c d v w hv hd hv

pub step : (c v : ℕ) → 1 ≤ c → stopping_distance c v ≡ v + (v - c) + stopping_distance c (v - c)
unfolding stopping_distance
step c v hc =
    gained_enough v (suc v) c v hc (omega arith) (omega arith) ∙ gained_next v c v
    ∙ ap (λ (n : ℕ). v + (v - c) + n) (gained_enough v (v - c) c (v - c) hc (omega arith) (omega arith))

-- the quotient form
abbrev pub quotient_form : ℕ → ℕ → ℕ
quotient_form c v = (v / c) * (v / c) * c + 2 * (v / c) * (v % c) + v % c

gained_quotient : (k c v : ℕ) → 1 ≤ c → v ≤ k → gained k c v ≡ quotient_form c v
gained_quotient zero c v hc hk =
    let e : v ≡ 0 = omega arith in
    rw (e, gained_none c 0) (rw (div-eq_of_lt {n = 0} {m = c}, mod-eq_of_lt {n = 0} {m = c}) (omega arith))
gained_quotient (suc k) c v hc hk =
    gained_next k c v ∙ by_cases (dec_lt v c) below (λ h. above (gained_quotient k c (v - c) hc) (omega arith))
  where
    below : v < c → v + (v - c) + gained k c (v - c) ≡ quotient_form c v
    below h =
        let e : v - c ≡ 0 = omega arith in
        let z : gained k c (v - c) ≡ 0 = rw e (gained_rest k c) in
        rw (div-eq_of_lt h, mod-eq_of_lt h) (omega arith)

    above : (v - c ≤ k → gained k c (v - c) ≡ quotient_form c (v - c)) → c ≤ v → v + (v - c) + gained k c (v - c) ≡ quotient_form c v
    above ih h = rw (div-eq-sub-div hc h, mod-eq-sub-mod h) (omega (arith, ih (omega arith), div-add-mod' (v - c) c))

pub quotient : (c v : ℕ) → 1 ≤ c → stopping_distance c v ≡ quotient_form c v
unfolding stopping_distance
quotient c v hc = gained_quotient v c v hc (omega arith)

-- the same in one product, as the machine computes it
abbrev pub product_form : ℕ → ℕ → ℕ
product_form c v = (v / c) * (v + v % c) + v % c

pub in_one_product : (c v : ℕ) → 1 ≤ c → stopping_distance c v ≡ product_form c v
in_one_product c v hc = quotient c v hc ∙ go (v / c) (v % c) (div-add-mod' v c)
  where
    go : (q r : ℕ) → q * c + r ≡ v → q * q * c + 2 * q * r + r ≡ q * (v + r) + r
    go q r e = rw (← e) (omega arith)

-- c × S = v² + r(c − r)
pub product : (c v : ℕ) → 1 ≤ c → c * stopping_distance c v ≡ v * v + (v % c) * (c - v % c)
product c v hc = go (v / c) (v % c) (c - v % c) (div-add-mod' v c) (omega (arith, mod-lt v hc)) (quotient c v hc)
  where
    go : (q r s : ℕ) → q * c + r ≡ v → r + s ≡ c → stopping_distance c v ≡ q * q * c + 2 * q * r + r → c * stopping_distance c v ≡ v * v + r * s
    go q r s e f g = rw (g, ← e) (rw (← f) (omega arith))

-- at rate 1 the distance is the square, and no rate gives more: from a speed of 32 bits it fits 64 bits, with a position too
pub at_most_square : (c v : ℕ) → 1 ≤ c → stopping_distance c v ≤ v * v
at_most_square c v hc =
    let one : stopping_distance 1 v ≡ v * v = quotient 1 v (omega arith) ∙ rw (div-one, mod-one) (omega arith) in
    omega (arith, mono {c = c} {d = 1} {v = v} {w = v} hc (omega arith))

pub fits : (c v p : ℕ) → 1 ≤ c → v < 2 ^ 32 → p < 2 ^ 32 → p + stopping_distance c v < 2 ^ 64
fits c v p hc hv hp =
    omega (arith, at_most_square c v hc, mul-le-mul {n₁ = v} {m₁ = v} {n₂ = 2 ^ 32 - 1} {m₂ = 2 ^ 32 - 1} (omega arith) (omega arith))
