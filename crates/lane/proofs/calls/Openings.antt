-- The positions at which a newcomer could enter in a gap, reckoned from stopping distances: those from one position on that are below another.
use mathlib.Core.Path.{◌≡◌, refl, sym, ap, ◌∙◌}
use mathlib.Core.Bool.{Bool, true, false, not, ◌&&◌, cond, true≢false}
use mathlib.Core.List.{List}
use mathlib.Core.Logic.{by_cases}
use Prim.Native.Nat.{ℕ, ◌+◌, ◌-◌, ◌≤◌, ◌<◌, min}
use native.Mathlib.Decide.{dec_lt, dec_le}
use native.Mathlib.Omega.{arith}
use borrow.Author.Tests.{le-leb, lt-leb, lt-ltb, le-ltb, leb-false, eq-eqb, ne_eqb, eqb-true, not-false, not-true}
use lib.Dec.{eqb, leb, ltb}
use lib.ListN.{length, get_or}
use Rattle.headway.specs.Stopping.{stopping_distance}
use Rattle.lane.specs.declared.Carrier.{Carrier}
use Rattle.lane.specs.declared.Newcomer.{Newcomer}
use Rattle.lane.specs.declared.Row.{Row}
use Rattle.lane.specs.Surface.{row_in}
use Rattle.lane.specs.State.{State}
use Rattle.lane.specs.Safety.{nobody, leader, guaranteed_rate, safe_with, lane_safe}
use Rattle.lane.specs.Calls.{none, ahead_of, walk, gap_no}
use Rattle.lane.specs.Opening.{newcomer_at, opens}
use Rattle.lane.proofs.EntryLaws.{walk_ends, SafeBy, numbers_safe, safe_numbers, numbers_unsafe, ahead_safe, behind_safe}
use Rattle.lane.proofs.lists.Passed.{both}
use Rattle.lane.proofs.calls.Order.{lane_order}

module _ (r : Row) (n : Newcomer) where
  -- behind the carrier ahead a newcomer is safe below this position,
  abbrev pub below_leader : (ahead : Carrier) → ℕ
  below_leader a =
      a.position - (a.length + (stopping_distance (guaranteed_rate r (newcomer_at n 0)) n.speed - stopping_distance r.hardest a.speed))

  pub below_leader_is : (a : Carrier) (p : ℕ) → safe_with r (leader a) (newcomer_at n p) ≡ ltb p (below_leader a)
  below_leader_is a p =
      by_cases (dec_lt p (below_leader a))
      (λ k. numbers_safe r a (newcomer_at n p) (omega arith, omega arith) ∙ sym (lt-ltb p (below_leader a) k))
      (λ k. numbers_unsafe r a (newcomer_at n p) (λ h. k (omega (arith, h.0, h.1))) ∙ sym (le-ltb p (below_leader a) (omega arith)))

  -- and the carrier behind from this position of the newcomer on
  abbrev pub above_follower : (behind : Carrier) → ℕ
  above_follower b =
      b.position + n.length + (stopping_distance (guaranteed_rate r b) b.speed - stopping_distance r.hardest n.speed) + 1

  pub above_follower_is : (b : Carrier) (p : ℕ) → safe_with r (leader (newcomer_at n p)) b ≡ leb (above_follower b) p
  above_follower_is b p =
      by_cases (dec_le (above_follower b) p)
      (λ k. numbers_safe r (newcomer_at n p) b (omega arith, omega arith) ∙ sym (le-leb (above_follower b) p k))
      (λ k. numbers_unsafe r (newcomer_at n p) b (λ h. k (omega (arith, h.0, h.1))) ∙ sym (lt-leb (above_follower b) p (omega arith)))

-- 5 and the carrier ahead together
pub end_alone : (end p : ℕ) → not (leb end p) && true ≡ ltb p end
end_alone end p =
    by_cases (dec_le end p) (λ k. rw (le-leb end p k, le-ltb p end k) refl) (λ k. rw (lt-leb end p (omega arith), lt-ltb p end (omega arith)) refl)

pub end_or_leader : (end safe p : ℕ) → not (leb end p) && ltb p safe ≡ ltb p (min end safe)
end_or_leader end safe p =
    by_cases (dec_le end p)
    (λ k. rw (le-leb end p k, le-ltb p (min end safe) (omega arith)) refl)
    (λ k. rw (lt-leb end p (omega arith)) (by_cases (dec_lt p safe)
    (λ h. rw (lt-ltb p safe h) (sym (lt-ltb p (min end safe) (omega arith))))
    (λ h. rw (le-ltb p safe (omega arith)) (sym (le-ltb p (min end safe) (omega arith))))))

-- the tests of a position one by one
module _ (s : State) (place : ℕ) (n : Newcomer) (p : ℕ) where
  pub opens_at : opens s place n p ≡ true
      → (walk p s.carriers ≡ place) × (p < s.road.end) × (gap_no (row_in s.tables s.road) place (newcomer_at n p) s.carriers ≡ 0)
  unfolding opens
  opens_at e =
      let gap = gap_no (row_in s.tables s.road) place (newcomer_at n p) s.carriers in
      let first = both (eqb (walk p s.carriers) place && not (leb s.road.end p)) (eqb gap 0) e in
      let start = both (eqb (walk p s.carriers) place) (not (leb s.road.end p)) first.0 in
      (eqb-true _ place start.0, leb-false s.road.end p (not-true (leb s.road.end p) start.1), eqb-true gap 0 first.1)

  pub opens_there : walk p s.carriers ≡ place → p < s.road.end → gap_no (row_in s.tables s.road) place (newcomer_at n p) s.carriers ≡ 0
      → opens s place n p ≡ true
  unfolding opens
  opens_there w before gap = rw (eq-eqb (walk p s.carriers) place w, lt-leb s.road.end p before, gap) refl

-- 25 and 26 are not given where both neighbours are safe
gap_open : (r : Row) (place : ℕ) (c : Carrier) (cs : List Carrier)
    → eqb (gap_no r place c cs) 0 ≡ safe_with r (ahead_of place cs) c && not (ltb place (length cs) && not (safe_with r (leader c) (get_or cs place none)))
unfolding gap_no
gap_open r place c cs = by_tests (safe_with r (ahead_of place cs) c) (ltb place (length cs) && not (safe_with r (leader c) (get_or cs place none)))
  where
    by_tests : (a b : Bool) → eqb (cond (not a) 25 (cond b 26 0)) 0 ≡ a && not b
    by_tests true true = refl
    by_tests true false = refl
    by_tests false b = refl

-- the tests of a position: where the walk ends, 5, and the two neighbours
all_tests : (w e a b x y : Bool) → e && a ≡ y → b ≡ not x → (x ≡ true → y ≡ true → w ≡ true) → w && e && (a && not b) ≡ x && y
all_tests w e a b false y f g walks = rw g (ends w e a)
  where
    ends : (w e a : Bool) → w && e && (a && false) ≡ false
    ends true true true = refl
    ends true true false = refl
    ends true false a = refl
    ends false e a = refl
all_tests w true true b true true f g walks = rw (g, walks refl refl) refl
all_tests w true true b true false f g walks = absurd (true≢false f)
all_tests w true false b true y f g walks = rw (← f) (never w)
  where
    never : (w : Bool) → w && true && false ≡ false
    never true = refl
    never false = refl
all_tests w false a b true y f g walks = rw (← f) (never w)
  where
    never : (w : Bool) → w && false && (a && not b) ≡ false
    never true = refl
    never false = refl

module _ (s : State) (place : ℕ) (n : Newcomer) (safe : lane_safe (row_in s.tables s.road) s.carriers ≡ true) (within : place ≤ length s.carriers) where
  abbrev r : Row
  r = row_in s.tables s.road

  abbrev cs : List Carrier
  cs = s.carriers

  -- where both are safe, the walk ends at the place
  walks_there : (p : ℕ) → safe_with r (ahead_of place cs) (newcomer_at n p) ≡ true
      → (place < length cs → safe_with r (leader (newcomer_at n p)) (get_or cs place none) ≡ true) → walk p cs ≡ place
  walks_there p front back =
      walk_ends p cs place within ahead λ h. let k = safe_numbers r (newcomer_at n p) (get_or cs place none) (back h) in omega (arith, k.0)
    where
      ahead : (i : ℕ) → i < place → p ≤ (get_or cs i none).position
      ahead i h = by_cases (dec_lt i (place - 1)) (λ k. omega (arith, below.0, lane_order r cs safe i (place - 1) k (omega arith))) last
        where
          below : SafeBy r (get_or cs (place - 1) none) (newcomer_at n p)
          below = safe_numbers r (get_or cs (place - 1) none) (newcomer_at n p) (rw (ne_eqb place 0 (λ e. omega arith)) at front)

          last : ¬ (i < place - 1) → p ≤ (get_or cs i none).position
          last k = let here : i ≡ place - 1 = omega arith in rw here (omega (arith, below.0))

  -- so that what is known of the two neighbours decides
  pub opens_between : (low end : ℕ)
      → ((p : ℕ) → ltb place (length cs) && not (safe_with r (leader (newcomer_at n p)) (get_or cs place none)) ≡ not (leb low p))
      → ((p : ℕ) → not (leb s.road.end p) && safe_with r (ahead_of place cs) (newcomer_at n p) ≡ ltb p end)
      → (p : ℕ) → opens s place n p ≡ leb low p && ltb p end
  unfolding opens
  opens_between low end back front p =
      rw (gap_open r place (newcomer_at n p) cs)
      (all_tests (eqb (walk p cs) place) (not (leb s.road.end p)) (safe_with r (ahead_of place cs) (newcomer_at n p)) _ (leb low p) (ltb p end) (front p) (back p) λ x y.
      eq-eqb (walk p cs) place (walks_there p (both (not (leb s.road.end p)) (safe_with r (ahead_of place cs) (newcomer_at n p)) (front p ∙ y)).1 (λ h. not-false _ (rw (lt-ltb place (length cs) h, x) at (back p)))))

  -- the positions from one on that are below another
  pub opens_formula : (low end : ℕ) × (end ≤ s.road.end) × ((p : ℕ) → opens s place n p ≡ leb low p && ltb p end)
  unfolding safe_with
  opens_formula = (lowest.0, ending.0, ending.1, opens_between lowest.0 ending.0 lowest.1 ending.2)
    where
      lowest : (low : ℕ) × ((p : ℕ) → ltb place (length cs) && not (safe_with r (leader (newcomer_at n p)) (get_or cs place none)) ≡ not (leb low p))
      lowest = by_test (ltb place (length cs))
        where
          by_test : (t : Bool) → (low : ℕ) × ((p : ℕ) → t && not (safe_with r (leader (newcomer_at n p)) (get_or cs place none)) ≡ not (leb low p))
          by_test true = (above_follower r n (get_or cs place none), λ p. ap not (above_follower_is r n (get_or cs place none) p))
          by_test false = (0, λ p. rw (le-leb 0 p (omega arith)) refl)

      ending : (end : ℕ) × (end ≤ s.road.end) × ((p : ℕ) → not (leb s.road.end p) && safe_with r (ahead_of place cs) (newcomer_at n p) ≡ ltb p end)
      ending = by_test (eqb place 0)
        where
          by_test : (t : Bool) → (end : ℕ) × (end ≤ s.road.end) × ((p : ℕ) → not (leb s.road.end p) && safe_with r (cond t nobody (leader (get_or cs (place - 1) none))) (newcomer_at n p) ≡ ltb p end)
          by_test true = (s.road.end, omega arith, end_alone s.road.end)
          by_test false =
              let below = below_leader r n (get_or cs (place - 1) none) in
              (min s.road.end below, omega arith, λ p. rw (below_leader_is r n (get_or cs (place - 1) none) p) (end_or_leader s.road.end below p))

  -- and in numbers
  module _ (p : ℕ) where
    pub opens_where : p < s.road.end → (0 < place → SafeBy r (get_or cs (place - 1) none) (newcomer_at n p)) → (place < length cs → SafeBy r (newcomer_at n p) (get_or cs place none))
        → opens s place n p ≡ true
    unfolding opens
    opens_where before front back =
        let ahead = ahead_safe r (newcomer_at n p) cs place front in
        let there = walks_there p ahead (λ h. numbers_safe r (newcomer_at n p) (get_or cs place none) (back h)) in
        rw (gap_open r place (newcomer_at n p) cs, eq-eqb (walk p cs) place there, lt-leb s.road.end p before, ahead, behind_safe r (newcomer_at n p) cs place back) refl

    pub opens_says : opens s place n p ≡ true
        → (p < s.road.end) × (0 < place → SafeBy r (get_or cs (place - 1) none) (newcomer_at n p)) × (place < length cs → SafeBy r (newcomer_at n p) (get_or cs place none))
    opens_says e =
        let c = newcomer_at n p in
        let behind = ltb place (length cs) && not (safe_with r (leader c) (get_or cs place none)) in
        let o = opens_at s place n p e in
        let gap = both (safe_with r (ahead_of place cs) c) (not behind) (sym (gap_open r place c cs) ∙ eq-eqb (gap_no r place c cs) 0 o.2) in (
          o.1,
          λ h. safe_numbers r (get_or cs (place - 1) none) c (rw (ne_eqb place 0 (λ z. omega arith)) at gap.0),
          λ h. safe_numbers r c (get_or cs place none) (not-false (safe_with r (leader c) (get_or cs place none)) (rw (lt-ltb place (length cs) h) at (not-true behind gap.1))),
        )
