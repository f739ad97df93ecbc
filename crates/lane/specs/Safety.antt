-- Document 01, "Stopping", and document 02, T-03 and T-06: who is safe behind whom, and a lane that is safe; and searches over its carriers.
use Rattle.std.specs.Prelude.{ℕ, suc, ◌+◌, min, Bool, true, false, ◌&&◌, ◌||◌, cond, List, [], ◌∷◌, eqb}
use Rattle.headway.specs.Stopping.{safe_behind}
use Rattle.lane.specs.declared.Carrier.{Carrier}
use Rattle.lane.specs.declared.Row.{Row}

-- the carrier next ahead, if there is one
pub data Ahead : Type 0 where
  nobody : Ahead
  leader : Carrier → Ahead

-- the rate at which a carrier is sure to brake, g: T-06, "Its guaranteed braking is the smaller of its own rate and the row's b, everywhere that b
-- stood."
abbrev pub guaranteed_rate : Row → Carrier → ℕ
guaranteed_rate r c = min c.rate r.guaranteed

-- what must stay below the position of the carrier ahead: T-03, "Safe behind now uses the position of the carrier ahead less its length". Its
-- length stands on the follower's side, where nothing is subtracted: "a tail may lie before the lane's start".
abbrev pub reach_to : (ahead c : Carrier) → ℕ
reach_to ahead c = c.position + ahead.length

-- safe behind the carrier next ahead, "in both halves" by its tail; T-06: "The carrier ahead is still reckoned with the row's B."; the foremost is
-- by itself
unfoldable pub safe_with : Row → Ahead → Carrier → Bool
safe_with r nobody c = true
safe_with r (leader a) c = safe_behind (guaranteed_rate r c) r.hardest (reach_to a c) c.speed a.position a.speed

-- each carrier is safe behind the next one ahead, the first of the list behind `ahead`
unfoldable pub safe_from : Row → Ahead → List Carrier → Bool
safe_from r ahead [] = true
safe_from r ahead (c ∷ cs) = safe_with r ahead c && safe_from r (leader c) cs

-- "A lane is safe if each carrier is safe behind the next one ahead."
unfoldable pub lane_safe : Row → List Carrier → Bool
lane_safe r cs = safe_from r nobody cs

-- some carrier passes the test
unfoldable pub any_of : (Carrier → Bool) → List Carrier → Bool
any_of f [] = false
any_of f (c ∷ cs) = f c || any_of f cs

-- "Places count from 0 at the front." The place of the first carrier that passes the test; past the last one if none does
unfoldable pub first_place : (Carrier → Bool) → List Carrier → ℕ
first_place f [] = 0
first_place f (c ∷ cs) = cond (f c) 0 (suc (first_place f cs))

-- the test for a carrier's number
abbrev pub numbered : ℕ → Carrier → Bool
numbered n c = eqb c.number n

-- a number stands twice
unfoldable pub repeats : List Carrier → Bool
repeats [] = false
repeats (c ∷ cs) = any_of (numbered c.number) cs || repeats cs
