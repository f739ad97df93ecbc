-- One cycle of a safe lane: it is safe again, nobody touches the one ahead at any fraction of it, and who is replaced is told by the test alone.
use mathlib.Core.Path.{◌≡◌, refl, sym, ap, ◌∙◌}
use mathlib.Core.Bool.{Bool, true, false, not, ◌&&◌, ◌||◌, cond, and-false}
use mathlib.Core.List.{List, [], ◌∷◌, map}
use Prim.Native.Nat.{ℕ, zero, suc, ◌+◌, ◌-◌, ◌*◌, ◌≤◌, ◌<◌}
use native.Mathlib.Omega.{arith}
use borrow.Author.Tests.{lt-ltb, ltb-true, ltb-false}
use lib.Dec.{ltb, ltb→lt, lt→ltb}
use lib.IntN.{ℤ, pos, neg_ℤ, nat_abs, ◌+ℤ◌}
use lib.ListN.{length, get_or}
use lib.Signed.{le_z, ◌≤ℤ◌, ◌<ℤ◌, ≤ℤ_refl}
use Rattle.headway.specs.Motion.{position_at}
use Rattle.headway.specs.Stopping.{braking}
use Rattle.headway.specs.Wishes.{rests_behind}
use Rattle.headway.proofs.Laws.{speed_sum, not_past_rest, position_moved, fraction_moved, fraction_not_negative, braking_is, braking_order, braking_passes, cycle_keeps_safe, apart_at}
use Rattle.wish.proofs.Laws.{no_harder}
use Rattle.lane.specs.declared.Carrier.{Carrier}
use Rattle.lane.specs.declared.Drive.{Drive}
use Rattle.lane.specs.declared.Row.{Row}
use Rattle.lane.specs.Safety.{Ahead, nobody, leader, guaranteed_rate, reach_to, safe_with, safe_from, lane_safe}
use Rattle.lane.specs.Wishes.{trimmed, stands, drive, drives, moved, all_moved, replaced_in}
use Rattle.lane.specs.Calls.{none}
use Rattle.lane.proofs.lists.Passed.{both}
use Rattle.lane.proofs.calls.Order.{ahead_in, ahead_leader, safe_behind_leader, descends}
use Rattle.lane.proofs.checks.Surfaces.{SoundRow, row_brakes, rate_brakes, rate_no_harder}

abbrev pub accelerations_in : List Drive → List ℤ
accelerations_in = map (λ d. d.acceleration)

-- the test of a carrier behind a leader, with an acceleration
abbrev pub tested_behind : Row → Carrier → Carrier → ℤ → Bool
tested_behind r a c w = rests_behind (guaranteed_rate r c) r.hardest (reach_to a c) c.speed w a.position a.speed

-- carriers that each have a rate
abbrev pub Rated : List Carrier → Type 0
Rated cs = (i : ℕ) → i < length cs → 1 ≤ (get_or cs i none).rate

-- ---- what is driven at a place
module _ {B : Type 0} (f : Drive → B) (other : B) (r : Row) (limit : ℕ) where
  pub drives_at : (ahead : Ahead) (cs : List Carrier) (zs : List ℤ) (i : ℕ) → i < length cs → length cs ≤ length zs
      → get_or (map f (drives r limit ahead cs zs)) i other ≡ f (drive r limit (ahead_in ahead i cs) (get_or cs i none) (get_or zs i (pos 0)))
  unfolding drives
  drives_at ahead [] zs i h k = absurd (omega arith)
  drives_at ahead (c ∷ cs) [] i h k = absurd (omega arith)
  drives_at ahead (c ∷ cs) (z ∷ zs) zero h k = refl
  drives_at ahead (c ∷ cs) (z ∷ zs) (suc i) h k = drives_at (leader c) cs zs i (omega arith) (omega arith)

  pub drives_past : (ahead : Ahead) (cs : List Carrier) (zs : List ℤ) (i : ℕ) → length cs ≤ i → get_or (map f (drives r limit ahead cs zs)) i other ≡ other
  unfolding drives
  drives_past ahead [] zs i h = refl
  drives_past ahead (c ∷ cs) [] i h = refl
  drives_past ahead (c ∷ cs) (z ∷ zs) zero h = absurd (omega arith)
  drives_past ahead (c ∷ cs) (z ∷ zs) (suc i) h = drives_past (leader c) cs zs i (omega arith)

module _ (r : Row) (sound : SoundRow r) (limit : ℕ) where
  -- ---- one carrier
  wish_no_harder : (c : Carrier) (z : ℤ) → braking r.hardest c.speed ≤ℤ trimmed r limit c z
  unfolding trimmed
  wish_no_harder c z = rw (braking_is r.hardest c.speed) (no_harder z c.speed r.hardest r.most limit)

  guaranteed_no_harder : (c : Carrier) → braking r.hardest c.speed ≤ℤ braking (guaranteed_rate r c) c.speed
  guaranteed_no_harder c = braking_order (guaranteed_rate r c) r.hardest c.speed (rate_no_harder r c sound)

  drive_no_harder : (ahead : Ahead) (c : Carrier) (z : ℤ) → braking r.hardest c.speed ≤ℤ (drive r limit ahead c z).acceleration
  unfolding drive
  drive_no_harder ahead c z = by_test (stands r ahead c (trimmed r limit c z))
    where
      by_test : (t : Bool) → braking r.hardest c.speed ≤ℤ cond t (trimmed r limit c z) (braking (guaranteed_rate r c) c.speed)
      by_test true = wish_no_harder c z
      by_test false = guaranteed_no_harder c

  -- the rate of a carrier that has one
  brakes : (c : Carrier) → 1 ≤ c.rate → 1 ≤ guaranteed_rate r c
  brakes c h = (rate_brakes r c (row_brakes r sound) h).0

  module _ (a c : Carrier) (rated : 1 ≤ c.rate) (safe : safe_with r (leader a) c ≡ true) where
    braked_passes : (w : ℤ) → braking r.hardest c.speed ≤ℤ w → w ≤ℤ braking (guaranteed_rate r c) c.speed → tested_behind r a c w ≡ true
    unfolding safe_with
    braked_passes w lo hi =
        braking_passes (guaranteed_rate r c) r.hardest (reach_to a c) c.speed w a.position a.speed (brakes c rated) (rate_no_harder r c sound) safe lo hi

    -- whoever is safe may brake, so that a wish stands exactly where it passes the test
    stands_is : (w : ℤ) → braking r.hardest c.speed ≤ℤ w → stands r (leader a) c w ≡ tested_behind r a c w
    unfolding stands
    stands_is w lo = by_test (le_z w (braking (guaranteed_rate r c) c.speed)) refl
      where
        by_test : (t : Bool) → le_z w (braking (guaranteed_rate r c) c.speed) ≡ t → t || tested_behind r a c w ≡ tested_behind r a c w
        by_test true e = sym (braked_passes w lo (record { le = rw e tt }))
        by_test false e = refl

    drive_passes : (z : ℤ) → tested_behind r a c (drive r limit (leader a) c z).acceleration ≡ true
    unfolding drive
    drive_passes z = by_test (stands r (leader a) c (trimmed r limit c z)) refl
      where
        by_test : (t : Bool) → stands r (leader a) c (trimmed r limit c z) ≡ t
            → tested_behind r a c (cond t (trimmed r limit c z) (braking (guaranteed_rate r c) c.speed)) ≡ true
        by_test true e = sym (stands_is (trimmed r limit c z) (wish_no_harder c z)) ∙ e
        by_test false e = braked_passes (braking (guaranteed_rate r c) c.speed) (guaranteed_no_harder c) (≤ℤ_refl (braking (guaranteed_rate r c) c.speed))

    pub replaced_by_test : (z : ℤ) → (drive r limit (leader a) c z).replaced ≡ not (tested_behind r a c (trimmed r limit c z))
    unfolding drive
    replaced_by_test z = ap not (stands_is (trimmed r limit c z) (wish_no_harder c z))

    -- ---- a carrier and its leader, which drives b
    module _ (b : ℤ) (lo : braking r.hardest a.speed ≤ℤ b) (z : ℤ) where
      pair_safe : safe_with r (leader (moved a b)) (moved c (drive r limit (leader a) c z).acceleration) ≡ true
      unfolding safe_with moved
      pair_safe =
          let w = (drive r limit (leader a) c z).acceleration in
          let at_least = not_past_rest r.hardest c.speed w (drive_no_harder (leader a) c z) in
          rw (← position_moved c.position a.length c.speed w _ (sym (speed_sum c.speed w at_least)))
          (cycle_keeps_safe (guaranteed_rate r c) r.hardest (reach_to a c) c.speed (drive r limit (leader a) c z).acceleration a.position a.speed b
          (brakes c rated) (rate_no_harder r c sound) safe (drive_passes z) (drive_no_harder (leader a) c z) lo)

      -- the front is below the tail of the one ahead
      pair_apart : (n k : ℕ) → 1 ≤ n → k ≤ n
          → (position_at n k c.position c.speed (drive r limit (leader a) c z).acceleration +ℤ pos (n * n * a.length)) <ℤ position_at n k a.position a.speed b
      unfolding safe_with
      pair_apart n k hn hk =
          rw (← fraction_moved n k c.position a.length c.speed (drive r limit (leader a) c z).acceleration)
          (apart_at (guaranteed_rate r c) r.hardest (reach_to a c) c.speed (drive r limit (leader a) c z).acceleration a.position a.speed b
          (brakes c rated) (rate_no_harder r c sound) safe (drive_passes z) (drive_no_harder (leader a) c z) lo n k hn hk)

  -- ---- the lane after the cycle
  moved_from : (ahead after : Ahead)
      → ((c : Carrier) (z : ℤ) → 1 ≤ c.rate → safe_with r ahead c ≡ true → safe_with r after (moved c (drive r limit ahead c z).acceleration) ≡ true)
      → (cs : List Carrier) (zs : List ℤ) → Rated cs → safe_from r ahead cs ≡ true → safe_from r after (all_moved cs (drives r limit ahead cs zs)) ≡ true
  unfolding safe_from all_moved drives
  moved_from ahead after first [] zs rated s = refl
  moved_from ahead after first (c ∷ cs) [] rated s = refl
  moved_from ahead after first (c ∷ cs) (z ∷ zs) rated s =
      let h = both (safe_with r ahead c) (safe_from r (leader c) cs) s in
      let b = (drive r limit ahead c z).acceleration in
      rw (first c z (rated 0 (omega arith)) h.0)
      (moved_from (leader c) (leader (moved c b)) (λ d v own safe. pair_safe c d own safe b (drive_no_harder ahead c z) v) cs zs (λ i p. rated (suc i) (omega arith)) h.1)

  module _ (cs : List Carrier) (zs : List ℤ) (rated : Rated cs) (safe : lane_safe r cs ≡ true) where
    pub moved_safe : lane_safe r (all_moved cs (drives r limit nobody cs zs)) ≡ true
    unfolding lane_safe safe_with
    moved_safe = moved_from nobody nobody (λ c z own s. refl) cs zs rated safe

    module _ (wished : length cs ≤ length zs) where
      -- ---- at a fraction of the cycle
      abbrev at : ℕ → Carrier
      at i = get_or cs i none

      abbrev driven : ℕ → ℤ
      driven i = get_or (accelerations_in (drives r limit nobody cs zs)) i (pos 0)

      driven_is : (i : ℕ) → i < length cs → driven i ≡ (drive r limit (ahead_in nobody i cs) (at i) (get_or zs i (pos 0))).acceleration
      driven_is i h = drives_at (λ d. d.acceleration) (pos 0) r limit nobody cs zs i h wished

      module _ (n k : ℕ) (hn : 1 ≤ n) (hk : k ≤ n) where
        -- n² times the position of a front, which is not negative
        abbrev front : ℕ → ℕ
        front i = nat_abs (position_at n k (at i).position (at i).speed (driven i))

        front_is : (i : ℕ) → i < length cs → position_at n k (at i).position (at i).speed (driven i) ≡ pos (front i)
        front_is i h =
            let no_harder = drive_no_harder (ahead_in nobody i cs) (at i) (get_or zs i (pos 0)) in
            let at_least : neg_ℤ (pos (at i).speed) ≤ℤ driven i = rw (driven_is i h) (not_past_rest r.hardest (at i).speed _ no_harder) in
            let f = fraction_not_negative n k (at i).position (at i).speed (driven i) hk at_least in
            f.1 ∙ ap pos (sym (ap nat_abs f.1))

        neighbours : (i : ℕ) → suc i < length cs → front (suc i) + n * n * (at i).length < front i
        neighbours i h =
            let here : i < length cs = omega arith in
            let apart = pair_apart (at i) (at (suc i)) (rated (suc i) h) (safe_behind_leader r cs safe i h)
            (drive r limit (ahead_in nobody i cs) (at i) (get_or zs i (pos 0))).acceleration
            (drive_no_harder (ahead_in nobody i cs) (at i) (get_or zs i (pos 0))) (get_or zs (suc i) (pos 0)) n k hn hk in
            let told : (position_at n k (at (suc i)).position (at (suc i)).speed (driven (suc i)) +ℤ pos (n * n * (at i).length)) <ℤ position_at n k (at i).position (at i).speed (driven i) =
            rw (driven_is (suc i) h, driven_is i here, ahead_leader nobody i cs here) apart in
            let fronts : pos (front (suc i) + n * n * (at i).length) <ℤ pos (front i) = rw (front_is (suc i) h, front_is i here) at told in
            ltb→lt _ _ fronts.lt

        pub never_touching : (i j : ℕ) → i < j → j < length cs
            → (position_at n k (at j).position (at j).speed (driven j) +ℤ pos (n * n * (at i).length)) <ℤ position_at n k (at i).position (at i).speed (driven i)
        never_touching i j p q =
            let below = descends (λ j i. front j + n * n * (at i).length < front i) (λ i. i) (length cs) (λ x y z p q. omega arith) neighbours i j p q in
            rw (front_is j q, front_is i (omega arith)) (record { lt = lt→ltb _ _ below })

      -- ---- who is replaced
      replaced_at : (t : Bool) (i : ℕ) → ltb i (length cs) ≡ t → get_or (replaced_in (drives r limit nobody cs zs)) i false
          ≡ ltb 0 i && (t && not (tested_behind r (get_or cs (i - 1) none) (get_or cs i none) (trimmed r limit (get_or cs i none) (get_or zs i (pos 0)))))
      unfolding drive stands
      replaced_at false i e = drives_past (λ d. d.replaced) false r limit nobody cs zs i (ltb-false i (length cs) e) ∙ sym (and-false (ltb 0 i))
      replaced_at true zero e = drives_at (λ d. d.replaced) false r limit nobody cs zs zero (ltb-true zero (length cs) e) wished
      replaced_at true (suc i) e =
          let here : suc i < length cs = ltb-true (suc i) (length cs) e in
          let before : suc i - 1 ≡ i = omega arith in
          rw (lt-ltb 0 (suc i) (omega arith), before, drives_at (λ d. d.replaced) false r limit nobody cs zs (suc i) here wished, ahead_leader nobody i cs (omega arith))
          (replaced_by_test (get_or cs i none) (get_or cs (suc i) none) (rated (suc i) here) (safe_behind_leader r cs safe i here) (get_or zs (suc i) (pos 0)))

      pub replaced_is : (i : ℕ) → get_or (replaced_in (drives r limit nobody cs zs)) i false
          ≡ ltb 0 i && (ltb i (length cs) && not (tested_behind r (get_or cs (i - 1) none) (get_or cs i none) (trimmed r limit (get_or cs i none) (get_or zs i (pos 0)))))
      replaced_is i = replaced_at (ltb i (length cs)) i refl
