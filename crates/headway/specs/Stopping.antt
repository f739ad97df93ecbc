-- Document 01, "Stopping": braking, the stopping distance, and who is safe behind whom.
use Rattle.std.specs.Prelude.{ℕ, zero, suc, ◌+◌, min, Bool, ◌&&◌, ltb, ℤ, pos, neg_ℤ}
use Rattle.headway.specs.Motion.{speed_after, position_after}

-- "Braking at rate c means: each cycle the acceleration is −c, or −v where v is below c,"
unfoldable pub braking : ℕ → ℕ → ℤ
braking c v = neg_ℤ (pos (min c v))

-- the speed after k cycles of braking
unfoldable pub slowed : ℕ → ℕ → ℕ → ℕ
slowed zero c v = v
slowed (suc k) c v = slowed k c (speed_after v (braking c v))

-- the sum of the positions gained in k cycles of braking
unfoldable pub gained : ℕ → ℕ → ℕ → ℕ
gained zero c v = 0
gained (suc k) c v = position_after 0 v (braking c v) + gained k c (speed_after v (braking c v))

-- "The stopping distance S(c, v) is the sum of the positions gained until rest." At a rate of at least 1 each cycle takes
-- at least 1 off the speed, so v cycles end at rest, and a carrier at rest gains nothing more. "A stop is reckoned past the lane
-- end as before it": no lane end enters here. (The sentence on q and r is two laws about this: `stopping_quotient`, `stopping_product`.)
unfoldable pub stopping_distance : ℕ → ℕ → ℕ
stopping_distance c v = gained v c v

-- "F is safe behind L if p of F is below p of L, and p of F + S(b, v of F) is below p of L + S(B, v of L)."
unfoldable pub safe_behind : (b B p v pL vL : ℕ) → Bool
safe_behind b B p v pL vL = ltb p pL && ltb (p + stopping_distance b v) (pL + stopping_distance B vL)
