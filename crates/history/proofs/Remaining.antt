-- Who is on the lane after a cycle run: each with its number, its length and its own rate, where the cycle led it, and gone by its tail alone.
use mathlib.Core.Path.{◌≡◌, refl}
use mathlib.Core.Bool.{Bool, true, false, cond}
use mathlib.Core.List.{List, [], ◌∷◌}
use Prim.Native.Nat.{ℕ, zero, suc, ◌+◌, ◌≤◌, ◌<◌}
use native.Mathlib.Omega.{arith}
use borrow.Author.Tests.{lt-leb, leb-false}
use lib.Dec.{leb}
use lib.IntN.{ℤ, pos}
use lib.ListN.{length, get_or}
use Rattle.headway.specs.Motion.{speed_after, position_after}
use Rattle.wish.specs.declared.Wish.{Wish}
use Rattle.lane.specs.declared.Carrier.{Carrier}
use Rattle.lane.specs.Layout.{Words, state_of}
use Rattle.lane.specs.Calls.{none}
use Rattle.lane.specs.Call.{cycle_call}
use Rattle.history.specs.Book.{Book, driven_in, driven_on, taken}
use Rattle.history.specs.Claims.{carrier_at, Claims}
use Rattle.history.proofs.Books.{driven_length}

-- a carrier after a cycle in which it drives a
abbrev pub driven_to : Carrier → ℤ → Carrier
driven_to c a =
    record {
      number = c.number;
      position = position_after c.position c.speed a;
      speed = speed_after c.speed a;
      length = c.length;
      rate = c.rate;
    }

module _ (end : ℕ) where
  -- of carriers cs that drive ds, the one at a place, if its tail is then before the end
  record Stays (cs : List Carrier) (ds : List ℤ) (i : ℕ) : Type 0 where
    place : i < length cs
    before_end : (driven_to (get_or cs i none) (get_or ds i (pos 0))).position < end + (get_or cs i none).length

  -- and it stands among these
  record Stands (cs : List Carrier) (ds : List ℤ) (i : ℕ) (left : List Carrier) : Type 0 where
    at : ℕ
    within : at < length left
    same : get_or left at none ≡ driven_to (get_or cs i none) (get_or ds i (pos 0))

  stands : (cs : List Carrier) (ds : List ℤ) → length ds ≡ length cs → (i : ℕ) → Stays cs ds i → Stands cs ds i (driven_on end cs ds)
  unfolding driven_on
  stands [] ds e i h = absurd (omega (arith, h.place))
  stands (c ∷ cs) [] e i h = absurd (omega arith)
  stands (c ∷ cs) (d ∷ ds) e zero h =
      rw (lt-leb (end + c.length) (position_after c.position c.speed d) h.before_end) (record { at = 0; within = omega arith; same = refl })
  stands (c ∷ cs) (d ∷ ds) e (suc i) h =
      by_test (leb (end + c.length) (position_after c.position c.speed d))
      (stands cs ds (omega arith) i (record { place = omega (arith, h.place); before_end = h.before_end }))
    where
      by_test : (t : Bool) → Stands cs ds i (driven_on end cs ds)
          → Stands (c ∷ cs) (d ∷ ds) (suc i) (cond t (driven_on end cs ds) (driven_to c d ∷ driven_on end cs ds))
      by_test true s = record { at = s.at; within = s.within; same = s.same }
      by_test false s = record { at = suc s.at; within = omega (arith, s.within); same = s.same }

  -- whoever is left is one that stays
  record Stayed (cs : List Carrier) (ds : List ℤ) (x : Carrier) : Type 0 where
    from : ℕ
    stays : Stays cs ds from
    same : x ≡ driven_to (get_or cs from none) (get_or ds from (pos 0))

  stayed : (cs : List Carrier) (ds : List ℤ) (j : ℕ) → j < length (driven_on end cs ds) → Stayed cs ds (get_or (driven_on end cs ds) j none)
  unfolding driven_on
  stayed [] ds j h = absurd (omega arith)
  stayed (c ∷ cs) [] j h = absurd (omega arith)
  stayed (c ∷ cs) (d ∷ ds) j h = by_test (stayed cs ds) (leb (end + c.length) (position_after c.position c.speed d)) refl j h
    where
      later : ((k : ℕ) → k < length (driven_on end cs ds) → Stayed cs ds (get_or (driven_on end cs ds) k none)) → (k : ℕ) → k < length (driven_on end cs ds)
          → Stayed (c ∷ cs) (d ∷ ds) (get_or (driven_on end cs ds) k none)
      later rest k p =
          let s = rest k p in
          record { from = suc s.from; stays = record { place = omega (arith, s.stays.place); before_end = s.stays.before_end }; same = s.same }

      by_test : ((k : ℕ) → k < length (driven_on end cs ds) → Stayed cs ds (get_or (driven_on end cs ds) k none)) → (t : Bool)
          → leb (end + c.length) (position_after c.position c.speed d) ≡ t → (k : ℕ) → k < length (cond t (driven_on end cs ds) (driven_to c d ∷ driven_on end cs ds))
          → Stayed (c ∷ cs) (d ∷ ds) (get_or (cond t (driven_on end cs ds) (driven_to c d ∷ driven_on end cs ds)) k none)
      by_test rest true e k p = later rest k p
      by_test rest false e zero p =
          record { from = 0; stays = record { place = omega arith; before_end = leb-false (end + c.length) (position_after c.position c.speed d) e }; same = refl }
      by_test rest false e (suc k) p = later rest k (omega arith)

module _ (after : Words) (count word : ℕ) (ws : List Wish) (b : Book)
    (c : Claims after (record { call = cycle_call count ws; refused = false; word = word }) b) where
  -- what is driven, front to back
  abbrev pub driven : List ℤ
  driven = driven_in b word b.carriers ws

  -- where the carrier at a place is after the cycle
  abbrev pub led : ℕ → Carrier
  led i = driven_to (carrier_at b i) (get_or driven i (pos 0))

  -- whose tail is then before the end is on the lane, with its number, its length and its own rate, where the cycle led it,
  pub still_there : length b.carriers ≤ length ws → (i : ℕ) → i < length b.carriers → (led i).position < b.road.end + (carrier_at b i).length
      → (j : ℕ) × (j < length (state_of after).carriers) × (get_or (state_of after).carriers j none ≡ led i)
  unfolding taken
  still_there enough i p h =
      let all = driven_length b word b.carriers ws enough in
      let s = stands b.road.end b.carriers driven all i (record { place = p; before_end = h }) in
      rw c.carriers (s.at, s.within, s.same)

  -- and nobody else is
  pub was_there : (j : ℕ) → j < length (state_of after).carriers
      → (i : ℕ) × (i < length b.carriers) × ((led i).position < b.road.end + (carrier_at b i).length) × (get_or (state_of after).carriers j none ≡ led i)
  unfolding taken
  was_there j p =
      let s = stayed b.road.end b.carriers driven j (rw c.carriers at p) in
      rw c.carriers (s.from, s.stays.place, s.stays.before_end, s.same)
