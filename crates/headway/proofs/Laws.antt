-- The laws of two carriers: all that the crates above use of `specs/`, whose definitions they leave shut.
-- b and B are any rates with 1 ≤ b ≤ B; nothing here knows of rows, places or lanes.
use mathlib.Core.Path.{◌≡◌, refl, sym, ap, ◌∙◌}
use mathlib.Core.Bool.{true, ◌&&◌}
use Prim.Native.Nat.{ℕ, zero, suc, ◌+◌, ◌-◌, ◌*◌, ◌/◌, ◌%◌, ◌^◌, ◌≤◌, ◌<◌, min}
use native.Mathlib.Nat.{add-zero, le_refl, le_trans, sub_self}
use native.Mathlib.Omega.{arith}
use borrow.Author.Tests.{lt-ltb, ltb-true}
use lib.Dec.{ltb}
use Rattle.std.proofs.lemmas.Bool.Decides.{nat_tests}
use Rattle.std.proofs.lemmas.Int.{ints}
use lib.IntN.{ℤ, pos, neg_ℤ, nat_abs, ◌+ℤ◌, ◌-ℤ◌, ◌*ℤ◌, +ℤ_assoc, +ℤ_comm, *ℤ-zero}
use lib.Signed.{◌≤ℤ◌, ◌<ℤ◌, ≤ℤ_refl}
use Rattle.headway.specs.Motion.{speed_after, position_after, position_at}
use Rattle.headway.specs.Stopping.{braking, slowed, gained, stopping_distance, safe_behind}
use Rattle.headway.specs.Wishes.{rests_behind}
use Rattle.headway.specs.Totals.{rest_of, safe_of, passes_of}
use Rattle.headway.proofs.Integers.{lt_pos}
use Rattle.headway.proofs.Motion.{weighted_at, speed_is, position_sum_is, position_is, trajectory_is, from_to, braked, driven, slower}
use Rattle.headway.proofs.Totals.{two_rates, rest_is, is_speed_is}
use Rattle.headway.proofs.Stopping as S
use Rattle.headway.proofs.Pair.{braking_gains, weighted, stops_apart, middle_apart, ends_apart}

-- ---- one cycle

-- "−c, or −v where v is below c"
pub braking_is : (c v : ℕ) → braking c v ≡ neg_ℤ (pos (min c v))
unfolding braking
braking_is c v = refl

-- the speed to which an acceleration of at least −v leads
leads : (v : ℕ) (a : ℤ) → neg_ℤ (pos v) ≤ℤ a → (u : ℕ) × (pos v +ℤ a ≡ pos u)
leads v a h = (nat_abs (pos v +ℤ a), omega (arith, ints))

-- "One cycle with a: the speed becomes v + a, the position p + 2v + a", for every acceleration of at least −v: neither sum is negative, and no
-- absolute value folds it
pub speed_sum : (v : ℕ) (a : ℤ) → neg_ℤ (pos v) ≤ℤ a → pos (speed_after v a) ≡ pos v +ℤ a
speed_sum v a h = let r = leads v a h in ap pos (speed_is v a r.0 r.1) ∙ sym r.1

pub position_sum : (p v : ℕ) (a : ℤ) → neg_ℤ (pos v) ≤ℤ a → pos (position_after p v a) ≡ pos p +ℤ pos (2 * v) +ℤ a
position_sum p v a h =
    let r = leads v a h in
    ap pos (position_is v a r.0 r.1 p) ∙ sym (position_sum_is v a r.0 r.1 p)

-- what is no harder than braking at some rate is such an acceleration
pub not_past_rest : (c v : ℕ) (a : ℤ) → braking c v ≤ℤ a → neg_ℤ (pos v) ≤ℤ a
not_past_rest c v a h = let d = driven c v a h in omega (arith, ints, d.1)

-- "After the fraction k/n of it (n at least 1, k from 0 to n), n² times the position is n²p + 2vkn + ak²."
pub fraction_form : (n k p v : ℕ) (a : ℤ) → position_at n k p v a ≡ pos (n * n * p) +ℤ pos (2 * v * k * n) +ℤ a *ℤ pos (k * k)
unfolding position_at
fraction_form n k p v a = refl

-- so at 0/n the cycle has not begun
pub fraction_at_start : (n p v : ℕ) (a : ℤ) → position_at n 0 p v a ≡ pos (n * n * p)
unfolding position_at
fraction_at_start n p v a = ap (λ (z : ℤ). pos (n * n * p + 2 * v * 0 * n) +ℤ z) (*ℤ-zero a) ∙ ap pos (omega arith)

-- at n/n it has ended,
pub fraction_at_end : (n p v : ℕ) (a : ℤ) → neg_ℤ (pos v) ≤ℤ a → position_at n n p v a ≡ pos (n * n * position_after p v a)
fraction_at_end n p v a h =
    let r = leads v a h in
    rw (position_is v a r.0 r.1 p) (trajectory_is v a r.0 r.1 n n p (le_refl n) ∙ ap pos (rw (sub_self n) (omega arith)))

-- and between them no position is negative
pub fraction_not_negative : (n k p v : ℕ) (a : ℤ) → k ≤ n → neg_ℤ (pos v) ≤ℤ a → (x : ℕ) × (position_at n k p v a ≡ pos x)
fraction_not_negative n k p v a hk h =
    let r = leads v a h in
    (weighted_at (n - k) k p v r.0, trajectory_is v a r.0 r.1 n k p hk)

-- a cycle that leads to the speed u gains v + u
pub speed_after_is : (v : ℕ) (a : ℤ) (u : ℕ) → pos v +ℤ a ≡ pos u → speed_after v a ≡ u
speed_after_is = speed_is

pub position_after_is : (p v : ℕ) (a : ℤ) (u : ℕ) → pos v +ℤ a ≡ pos u → position_after p v a ≡ p + v + u
position_after_is p v a u e = position_is v a u e p

-- and of the acceleration only that speed counts
pub reached_after : (p v : ℕ) (a : ℤ) (u : ℕ) → pos v +ℤ a ≡ pos u → position_after p v (pos u -ℤ pos v) ≡ position_after p v a
reached_after p v a u e = position_is v (pos u -ℤ pos v) u (from_to v u) p ∙ sym (position_is v a u e p)

-- a position moved by m moves all that it leads to
pub position_moved : (p m v : ℕ) (a : ℤ) (u : ℕ) → pos v +ℤ a ≡ pos u → position_after (p + m) v a ≡ position_after p v a + m
position_moved p m v a u e = rw (position_is v a u e (p + m), position_is v a u e p) (omega arith)

pub fraction_moved : (n k p m v : ℕ) (a : ℤ) → position_at n k (p + m) v a ≡ position_at n k p v a +ℤ pos (n * n * m)
unfolding position_at
fraction_moved n k p m v a =
    let rest = a *ℤ pos (k * k) in
    ap (λ (x : ℕ). pos x +ℤ rest) (omega arith)
    ∙ +ℤ_assoc (pos (n * n * m)) (pos (n * n * p + 2 * v * k * n)) rest
    ∙ +ℤ_comm (pos (n * n * m)) (position_at n k p v a)

pub braking_speed : (c v : ℕ) → pos v +ℤ braking c v ≡ pos (v - c)
braking_speed = braked

-- ---- the functions' outcomes for the numbers of the document

pub safe_is : (b B p v pL vL : ℕ) → 1 ≤ b → 1 ≤ B → safe_of b B p v pL vL ≡ safe_behind b B p v pL vL
unfolding safe_of
safe_is b B p v pL vL hb hB = rw (two_rates b B hb hB) refl

pub passes_is : (b B p v : ℕ) (w : ℤ) (pL vL u : ℕ) → 1 ≤ b → 1 ≤ B → pos v +ℤ w ≡ pos u → u < 2 ^ 32
    → passes_of b B p v w pL vL ≡ rests_behind b B p v w pL vL
unfolding passes_of
passes_is b B p v w pL vL u hb hB e h = rw (two_rates b B hb hB, is_speed_is v w u e h) refl

-- ---- the stopping distance

-- "a carrier comes to rest at a cycle's end": v cycles of braking are enough
pub comes_to_rest : (c v : ℕ) → 1 ≤ c → slowed v c v ≡ 0
comes_to_rest c v hc = S.rests v c v hc (omega arith)

-- one cycle of braking, and then the rest
pub stopping_step : (c v : ℕ) → 1 ≤ c
    → stopping_distance c v ≡ position_after 0 v (braking c v) + stopping_distance c (speed_after v (braking c v))
stopping_step c v hc = rw (S.next_position c 0 v, S.next_speed c v) (S.step c v hc ∙ ap (λ (n : ℕ). n + stopping_distance c (v - c)) (omega arith))

-- "With q and r the quotient and remainder of v by c it is q²c + 2qr + r,"
pub stopping_quotient : (c v : ℕ) → 1 ≤ c
    → stopping_distance c v ≡ (v / c) * (v / c) * c + 2 * (v / c) * (v % c) + v % c
stopping_quotient = S.quotient

-- "and c × S = v² + r(c − r)."
pub stopping_product : (c v : ℕ) → 1 ≤ c → c * stopping_distance c v ≡ v * v + (v % c) * (c - v % c)
stopping_product = S.product

-- it is at most the square of the speed, so at most that of a faster one
pub stopping_most : (c v w : ℕ) → 1 ≤ c → v ≤ w → stopping_distance c v ≤ w * w
stopping_most c v w hc h = le_trans (S.mono {c = c} {d = c} {v = v} {w = w} (le_refl c) h) (S.at_most_square c w hc)

-- from the lane's start a carrier comes to rest where it ends
pub rest_from_start : (c v : ℕ) → 1 ≤ c → rest_of c 0 v ≡ stopping_distance c v
rest_from_start c v hc = sym (rest_is c 0 v hc) ∙ omega arith

-- ---- safe behind

pub record Safe (b B p v pL vL : ℕ) : Type 0 where
  pub below : p < pL
  pub stops_below : p + stopping_distance b v < pL + stopping_distance B vL

-- the test says both halves, and is passed where both hold
pub safe_says : (b B p v pL vL : ℕ) → safe_behind b B p v pL vL ≡ true → Safe b B p v pL vL
unfolding safe_behind
safe_says b B p v pL vL e = record { below = grind (arith, nat_tests); stops_below = grind (arith, nat_tests) }

pub safe_holds : (b B p v pL vL : ℕ) → Safe b B p v pL vL → safe_behind b B p v pL vL ≡ true
unfolding safe_behind
safe_holds b B p v pL vL h = grind (arith, nat_tests)

-- the same by where the two rest
pub safe_by_rests : (b B p v pL vL : ℕ) → 1 ≤ b → 1 ≤ B → safe_behind b B p v pL vL ≡ ltb p pL && ltb (rest_of b p v) (rest_of B pL vL)
unfolding safe_behind
safe_by_rests b B p v pL vL hb hB = rw (← rest_is b p v hb, ← rest_is B pL vL hB) refl

-- a position moved by m moves the rest
pub rest_moved : (c p m v : ℕ) → 1 ≤ c → rest_of c (p + m) v ≡ rest_of c p v + m
rest_moved c p m v hc = rw (← rest_is c (p + m) v hc, ← rest_is c p v hc) (omega arith)

-- behind one ahead of length m, the length on the follower's side, is behind a point at its tail; and nothing can tell whether a tail before the
-- start is taken as 0, since nobody is behind it either way
pub safe_behind_tail : (b B p m v pL vL : ℕ) → safe_behind b B (p + m) v pL vL ≡ safe_behind b B p v (pL - m) vL
unfolding safe_behind
safe_behind_tail b B p m v pL vL = grind (arith, nat_tests)

-- what lets a carrier leave from the middle, whose rate is c and whose length m; l is the length of the one ahead of it: who was behind its tail is
-- behind that one's
pub safe_trans : (b c B p v m q w l pL vL : ℕ) → c ≤ B
    → safe_behind b B (p + m) v q w ≡ true → safe_behind c B (q + l) w pL vL ≡ true → safe_behind b B (p + l) v pL vL ≡ true
safe_trans b c B p v m q w l pL vL hB e f =
    let x = safe_says b B (p + m) v q w e in
    let y = safe_says c B (q + l) w pL vL f in
    let stops = S.mono {c = B} {d = c} {v = w} {w = w} hB (omega arith) in
    safe_holds b B (p + l) v pL vL (record { below = omega arith; stops_below = omega arith })

-- ---- one cycle of a safe pair: the follower drives w, the one ahead a

-- "p + 2v + w + S(b, v + w) below p of the carrier ahead + S(B, its v)", with u the speed v + w
pub rests_is : (b B p v : ℕ) (w : ℤ) (pL vL u : ℕ) → pos v +ℤ w ≡ pos u
    → rests_behind b B p v w pL vL ≡ ltb (p + v + u + stopping_distance b u) (pL + stopping_distance B vL)
unfolding rests_behind
rests_is b B p v w pL vL u e = rw (position_is v w u e p, speed_is v w u e) refl

tested : (b B p v : ℕ) (w : ℤ) (pL vL u : ℕ) → pos v +ℤ w ≡ pos u
    → rests_behind b B p v w pL vL ≡ true → p + v + u + stopping_distance b u < pL + stopping_distance B vL
tested b B p v w pL vL u e t = ltb-true _ _ (sym (rests_is b B p v w pL vL u e) ∙ t)

-- a wish at or below guaranteed braking passes the test of a carrier that is safe behind
pub braking_passes : (b B p v : ℕ) (w : ℤ) (pL vL : ℕ) → 1 ≤ b → b ≤ B → safe_behind b B p v pL vL ≡ true
    → braking B v ≤ℤ w → w ≤ℤ braking b v → rests_behind b B p v w pL vL ≡ true
braking_passes b B p v w pL vL hb hB s lo hi =
    let d = driven B v w lo in
    let h = safe_says b B p v pL vL s in
    rests_is b B p v w pL vL d.0 d.1
    ∙ lt-ltb (p + v + d.0 + stopping_distance b d.0) (pL + stopping_distance B vL)
    (omega (arith, h.stops_below, braking_gains b v d.0 hb (slower b v w d.0 d.1 hi)))

module _ (b B p v : ℕ) (w : ℤ) (pL vL : ℕ) (a : ℤ) (hb : 1 ≤ b) (hB : b ≤ B)
    (safe : safe_behind b B p v pL vL ≡ true) (test : rests_behind b B p v w pL vL ≡ true)
    (lo : braking B v ≤ℤ w) (loL : braking B vL ≤ℤ a) where
  -- the pair is safe again after the cycle
  pub cycle_keeps_safe : safe_behind b B (position_after p v w) (speed_after v w) (position_after pL vL a) (speed_after vL a) ≡ true
  cycle_keeps_safe =
      let d = driven B v w lo in
      let e = driven B vL a loL in
      let t = tested b B p v w pL vL d.0 d.1 test in
      rw (position_is v w d.0 d.1 p, speed_is v w d.0 d.1, position_is vL a e.0 e.1 pL, speed_is vL a e.0 e.1)
      (safe_holds b B (p + v + d.0) d.0 (pL + vL + e.0) e.0
      (record {
        below = ends_apart b B p v d.0 pL vL e.0 hb hB (safe_says b B p v pL vL safe).below t d.2 e.2;
        stops_below = stops_apart b B p v d.0 pL vL e.0 hb hB (safe_says b B p v pL vL safe).below t d.2 e.2;
      }))

  -- and the follower is below the one ahead at every fraction of it
  pub apart_at : (n k : ℕ) → 1 ≤ n → k ≤ n → position_at n k p v w <ℤ position_at n k pL vL a
  apart_at n k hn hk =
      let d = driven B v w lo in
      let e = driven B vL a loL in
      let t = tested b B p v w pL vL d.0 d.1 test in
      let below = (safe_says b B p v pL vL safe).below in
      rw (trajectory_is v w d.0 d.1 n k p hk, trajectory_is vL a e.0 e.1 n k pL hk)
      (lt_pos
      (weighted (n - k) k p (p + v) (p + v + d.0) pL (pL + vL) (pL + vL + e.0) (omega arith) below
      (middle_apart b B p v d.0 pL vL e.0 hb hB below t d.2 e.2)
      (ends_apart b B p v d.0 pL vL e.0 hb hB below t d.2 e.2)))

-- ---- what safe behind is for: where both brake, the follower at b and the one ahead at B, they never touch, at no fraction of any cycle

-- guaranteed braking is no harder than the hardest
pub braking_order : (b B v : ℕ) → b ≤ B → braking B v ≤ℤ braking b v
unfolding braking
braking_order b B v h = omega (arith, ints)

pub stops_without_touching : (b B p v pL vL : ℕ) → 1 ≤ b → b ≤ B → safe_behind b B p v pL vL ≡ true
    → (j n k : ℕ) → 1 ≤ n → k ≤ n
    → position_at n k (p + gained j b v) (slowed j b v) (braking b (slowed j b v))
    <ℤ position_at n k (pL + gained j B vL) (slowed j B vL) (braking B (slowed j B vL))
stops_without_touching b B p v pL vL hb hB s zero n k hn hk =
    rw (S.gained_none b v, S.gained_none B vL, S.slowed_none b v, S.slowed_none B vL, add-zero p, add-zero pL)
    (apart_at b B p v (braking b v) pL vL (braking B vL) hb hB s
    (braking_passes b B p v (braking b v) pL vL hb hB s (braking_order b B v hB) (≤ℤ_refl (braking b v)))
    (braking_order b B v hB) (≤ℤ_refl (braking B vL)) n k hn hk)
stops_without_touching b B p v pL vL hb hB s (suc j) n k hn hk =
    rw (S.gained_next j b v, S.gained_next j B vL, S.slowed_next j b v, S.slowed_next j B vL, moved p v (v - b) (gained j b (v - b)), moved pL vL (vL - B) (gained j B (vL - B)))
    (stops_without_touching b B (p + v + (v - b)) (v - b) (pL + vL + (vL - B)) (vL - B) hb hB
    (rw (S.next_position b p v, S.next_speed b v, S.next_position B pL vL, S.next_speed B vL) at
    (cycle_keeps_safe b B p v (braking b v) pL vL (braking B vL) hb hB s
    (braking_passes b B p v (braking b v) pL vL hb hB s (braking_order b B v hB) (≤ℤ_refl (braking b v)))
    (braking_order b B v hB) (≤ℤ_refl (braking B vL))))
    j n k hn hk)
  where
    moved : (x y z g : ℕ) → x + (y + z + g) ≡ x + y + z + g
    moved x y z g = omega arith
