-- A safe lane at each place: in order, and safe still with carriers left out, or with one let in that is safe on both sides.
use mathlib.Core.Path.{◌≡◌, refl, sym, ◌∙◌}
use mathlib.Core.Bool.{Bool, true, false, not, ◌&&◌, cond, true≢false}
use mathlib.Core.List.{List, [], ◌∷◌}
use Prim.Native.Nat.{ℕ, zero, suc, ◌+◌, ◌-◌, ◌≤◌, ◌<◌}
use native.Mathlib.Omega.{arith}
use borrow.Author.Tests.{lt-ltb, ltb-true, ltb-false, not-false}
use lib.Dec.{ltb, eqb-suc-zero}
use lib.ListN.{length, get_or, take}
use lib.Seq.{length-take-le, get_or-take}
use Rattle.headway.proofs.Laws.{safe_says, safe_trans}
use Rattle.lane.specs.declared.Carrier.{Carrier}
use Rattle.lane.specs.declared.Row.{Row}
use Rattle.lane.specs.Safety.{Ahead, nobody, leader, guaranteed_rate, reach_to, safe_with, safe_from, lane_safe}
use Rattle.lane.specs.Calls.{none, ahead_of, insert_at, gap_no}
use Rattle.lane.proofs.lists.Passed.{both, passed}
use Rattle.lane.proofs.calls.Leaving.{Thinned, nobody_left, stays, goes}
use Rattle.lane.proofs.checks.Surfaces.{SoundRow, rate_no_harder}

-- what holds of neighbours holds of any two, where it passes on
pub descends : {X : Type 0} (R : X → X → Type 0) (at : ℕ → X) (n : ℕ) → ((x y z : X) → R x y → R y z → R x z)
    → ((i : ℕ) → suc i < n → R (at (suc i)) (at i)) → (i j : ℕ) → i < j → j < n → R (at j) (at i)
descends R at n on next i zero h k = absurd (omega arith)
descends R at n on next i (suc j) h k = by_test (ltb i j) refl (λ l. descends R at n on next i j l (omega arith))
  where
    by_test : (t : Bool) → ltb i j ≡ t → (i < j → R (at j) (at i)) → R (at (suc j)) (at i)
    by_test true e before = on (at (suc j)) (at j) (at i) (next j k) (before (ltb-true i j e))
    by_test false e before =
        let same : i ≡ j = omega (arith, ltb-false i j e) in
        rw same (next j k)

-- who is next ahead of a place, with `ahead` before the first one
abbrev pub ahead_in : Ahead → ℕ → List Carrier → Ahead
ahead_in ahead zero cs = ahead
ahead_in ahead (suc i) [] = nobody
ahead_in ahead (suc i) (c ∷ cs) = ahead_in (leader c) i cs

pub ahead_leader : (ahead : Ahead) (i : ℕ) (cs : List Carrier) → i < length cs → ahead_in ahead (suc i) cs ≡ leader (get_or cs i none)
ahead_leader ahead i [] h = absurd (omega arith)
ahead_leader ahead zero (c ∷ cs) h = refl
ahead_leader ahead (suc i) (c ∷ cs) h = ahead_leader (leader c) i cs (omega arith)

pub ahead_of_is : (place : ℕ) (cs : List Carrier) → place ≤ length cs → ahead_of place cs ≡ ahead_in nobody place cs
ahead_of_is zero cs h = refl
ahead_of_is (suc i) cs h =
    let before : suc i - 1 ≡ i = omega arith in
    rw (eqb-suc-zero i, before, ahead_leader nobody i cs (omega arith)) refl

module _ (r : Row) where
  pub safe_at : (ahead : Ahead) (cs : List Carrier) (i : ℕ) → safe_from r ahead cs ≡ true → i < length cs
      → safe_with r (ahead_in ahead i cs) (get_or cs i none) ≡ true
  unfolding safe_from
  safe_at ahead [] i s h = absurd (omega arith)
  safe_at ahead (c ∷ cs) zero s h = (both (safe_with r ahead c) (safe_from r (leader c) cs) s).0
  safe_at ahead (c ∷ cs) (suc i) s h = safe_at (leader c) cs i (both (safe_with r ahead c) (safe_from r (leader c) cs) s).1 (omega arith)

  -- and where each carrier is safe behind the next one ahead, the lane is
  safe_each : (ahead : Ahead) (cs : List Carrier) → ((i : ℕ) → i < length cs → safe_with r (ahead_in ahead i cs) (get_or cs i none) ≡ true)
      → safe_from r ahead cs ≡ true
  unfolding safe_from
  safe_each ahead [] h = refl
  safe_each ahead (c ∷ cs) h = rw (h 0 (omega arith)) (safe_each (leader c) cs (λ i p. h (suc i) (omega arith)))

  pub safe_neighbours : (cs : List Carrier)
      → ((i : ℕ) → suc i < length cs → safe_with r (leader (get_or cs i none)) (get_or cs (suc i) none) ≡ true) → lane_safe r cs ≡ true
  unfolding lane_safe safe_with
  safe_neighbours cs h = safe_each nobody cs at_place
    where
      at_place : (i : ℕ) → i < length cs → safe_with r (ahead_in nobody i cs) (get_or cs i none) ≡ true
      at_place zero p = refl
      at_place (suc i) p = rw (ahead_leader nobody i cs (omega arith)) (h i p)

  -- ---- a safe lane is in order
  module _ (cs : List Carrier) (safe : lane_safe r cs ≡ true) where
    pub safe_behind_leader : (i : ℕ) → suc i < length cs → safe_with r (leader (get_or cs i none)) (get_or cs (suc i) none) ≡ true
    unfolding lane_safe
    safe_behind_leader i h = rw (ahead_leader nobody i cs (omega arith)) at (safe_at nobody cs (suc i) safe h)

    pub lane_order : (i j : ℕ) → i < j → j < length cs → reach_to (get_or cs i none) (get_or cs j none) < (get_or cs i none).position
    unfolding safe_with
    lane_order =
        descends (λ c a. reach_to a c < a.position) (λ i. get_or cs i none) (length cs) (λ x y z p q. omega arith) λ i h.
        let a = get_or cs i none in
        let c = get_or cs (suc i) none in
        (safe_says (guaranteed_rate r c) r.hardest (reach_to a c) c.speed a.position a.speed (safe_behind_leader i h)).below

  -- ---- the pairs passed by a loop over a lane's records, of which the first `count` are its carriers
  module _ (l : List Carrier) where
    -- those before a place are safe
    pub record Clear (place : ℕ) : Type 0 where
      pub least : 1 ≤ place
      pub pairs : (i : ℕ) → suc i < place → safe_with r (leader (get_or l i none)) (get_or l (suc i) none) ≡ true

    pub clear_first : Clear 1
    clear_first = record { least = omega arith; pairs = λ i p. absurd (omega arith) }

    -- one more is
    pub clear_on : (place : ℕ) → Clear place → safe_with r (leader (get_or l (place - 1) none)) (get_or l place none) ≡ true → Clear (place + 1)
    clear_on place h safe = record { least = omega (arith, h.least); pairs = by_place }
      where
        by_place : (i : ℕ) → suc i < place + 1 → safe_with r (leader (get_or l i none)) (get_or l (suc i) none) ≡ true
        by_place i p = by_test (ltb (suc i) place) refl
          where
            by_test : (t : Bool) → ltb (suc i) place ≡ t → safe_with r (leader (get_or l i none)) (get_or l (suc i) none) ≡ true
            by_test true e = h.pairs i (ltb-true (suc i) place e)
            by_test false e =
                let here : place ≡ suc i = omega (arith, ltb-false (suc i) place e) in
                let before : suc i - 1 ≡ i = omega arith in
                rw (here, before) at safe

    module _ (count : ℕ) (k : count ≤ length l) where
      long : length (take count l) ≡ count
      long = length-take-le count l k

      -- all are
      pub clear_all : (place : ℕ) → Clear place → count ≤ place → lane_safe r (take count l) ≡ true
      clear_all place h past =
          safe_neighbours (take count l) λ i p.
          rw (get_or-take count l i none (omega (arith, long)), get_or-take count l (suc i) none (omega (arith, long))) (h.pairs i (omega (arith, long)))

      -- one is not
      pub clear_not : (place : ℕ) → 1 ≤ place → place < count → safe_with r (leader (get_or l (place - 1) none)) (get_or l place none) ≡ false
          → lane_safe r (take count l) ≡ false
      clear_not place least p e = by_test (lane_safe r (take count l)) refl
        where
          by_test : (t : Bool) → lane_safe r (take count l) ≡ t → t ≡ false
          by_test true q =
              let here : suc (place - 1) ≡ place = omega arith in
              let held = safe_behind_leader (take count l) q (place - 1) (omega (arith, long)) in
              absurd (true≢false (sym (rw (here, get_or-take count l (place - 1) none (omega arith), get_or-take count l place none p) at held) ∙ e))
          by_test false q = refl

  -- ---- carriers left out
  module _ (sound : SoundRow r) where
    -- who was behind the one that leaves is safe behind the one ahead of it, whatever the rates of the two
    behind_left : (ahead : Ahead) (c : Carrier) (cs : List Carrier) → safe_from r ahead (c ∷ cs) ≡ true → safe_from r ahead cs ≡ true
    unfolding safe_from safe_with
    behind_left ahead c [] s = refl
    behind_left nobody c (d ∷ cs) s =
        (both (safe_with r (leader c) d) (safe_from r (leader d) cs) s).1
    behind_left (leader a) c (d ∷ cs) s =
        let first = both (safe_with r (leader a) c) (safe_from r (leader c) (d ∷ cs)) s in
        let second = both (safe_with r (leader c) d) (safe_from r (leader d) cs) first.1 in
        rw (safe_trans (guaranteed_rate r d) (guaranteed_rate r c) r.hardest d.position d.speed c.length c.position c.speed a.length a.position a.speed
        (rate_no_harder r c sound) second.0 first.0) second.1

    thinned_safe_from : {ds cs : List Carrier} → Thinned ds cs → (ahead : Ahead) → safe_from r ahead cs ≡ true → safe_from r ahead ds ≡ true
    unfolding safe_from
    thinned_safe_from nobody_left ahead s = s
    thinned_safe_from (stays {c = c} {cs = cs} l) ahead s =
        let h = both (safe_with r ahead c) (safe_from r (leader c) cs) s in
        rw h.0 (thinned_safe_from l (leader c) h.1)
    thinned_safe_from (goes {c = c} {cs = cs} l) ahead s = thinned_safe_from l ahead (behind_left ahead c cs s)

    pub thinned_safe : {ds cs : List Carrier} → Thinned ds cs → lane_safe r cs ≡ true → lane_safe r ds ≡ true
    unfolding lane_safe
    thinned_safe l s = thinned_safe_from l nobody s

  -- ---- a carrier let in
  module _ (c : Carrier) where
    insert_from : (ahead : Ahead) (place : ℕ) (cs : List Carrier) → safe_from r ahead cs ≡ true → place ≤ length cs
        → safe_with r (ahead_in ahead place cs) c ≡ true → (place < length cs → safe_with r (leader c) (get_or cs place none) ≡ true)
        → safe_from r ahead (insert_at place c cs) ≡ true
    unfolding safe_from
    insert_from ahead zero [] s h front back = rw front refl
    insert_from ahead (suc place) [] s h front back = absurd (omega arith)
    insert_from ahead zero (d ∷ cs) s h front back =
        let rest = both (safe_with r ahead d) (safe_from r (leader d) cs) s in
        rw (front, back (omega arith), rest.1) refl
    insert_from ahead (suc place) (d ∷ cs) s h front back =
        let rest = both (safe_with r ahead d) (safe_from r (leader d) cs) s in
        rw rest.0 (insert_from (leader d) place cs rest.1 (omega arith) front (λ k. back (omega arith)))

    pub insert_safe : (place : ℕ) (cs : List Carrier) → lane_safe r cs ≡ true → place ≤ length cs → gap_no r place c cs ≡ 0
        → lane_safe r (insert_at place c cs) ≡ true
    unfolding lane_safe gap_no
    insert_safe place cs s h e =
        let front = safe_with r (ahead_of place cs) c in
        let back = safe_with r (leader c) (get_or cs place none) in
        let first = passed (not front) 24 (cond (ltb place (length cs) && not back) 26 0) e in
        let second = passed (ltb place (length cs) && not back) 25 0 first.1 in
        insert_from nobody place cs s h (rw (ahead_of_is place cs h) at (not-false front first.0))
        (λ k. not-false back (rw (lt-ltb place (length cs) k) at second.0))
