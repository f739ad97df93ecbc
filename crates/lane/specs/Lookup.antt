-- Document 02, T-02, "Finding a carrier number."
use Rattle.std.specs.Prelude.{ℕ, ◌+◌, ◌<◌, ◌≡◌, cond, List, Some, None, length, take, set}
use Rattle.lane.specs.declared.Carrier.{Carrier}
use Rattle.lane.specs.declared.lookup.Lookup.{Lookup}
use Rattle.lane.specs.Safety.{any_of, first_place, numbered}

-- "Looking up a number should end at the find or at the last carrier present"; "how many records it looked at: the place found plus one, else the
-- carriers present"
unfoldable pub lookup : (number : ℕ) → List Carrier → Lookup
lookup number cs =
    cond (any_of (numbered number) cs)
    (record { found = Some (first_place (numbered number) cs); looked = first_place (numbered number) cs + 1 })
    (record { found = None; looked = length cs })

-- an answer rests on the first so many records: each of them, changed by itself, may change what is found, and all others together change nothing
pub record RestsOn (number : ℕ) (cs : List Carrier) (looked : ℕ) : Type 0 where
  pub each : (p : ℕ) → p < looked → (c : Carrier) × ¬ ((lookup number (set cs p c)).found ≡ (lookup number cs).found)
  pub others : (ds : List Carrier) → length ds ≡ length cs → take looked ds ≡ take looked cs → lookup number ds ≡ lookup number cs
