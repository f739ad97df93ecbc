-- An entry in numbers, where the lane breaks no rule, the newcomer's own values are in range, and its number and a place are free: it is let in exactly
-- where it is safe behind the carrier ahead and who is then behind it is safe too, and else turned away by 25 or 26.
use mathlib.Core.Path.{◌≡◌, refl, sym, ap, ◌∙◌}
use mathlib.Core.Bool.{Bool, true, false, not, ◌&&◌, true≢false}
use mathlib.Core.List.{List, [], ◌∷◌}
use Prim.Native.Nat.{ℕ, zero, suc, ◌+◌, ◌-◌, ◌≤◌, ◌<◌, min}
use native.Mathlib.Omega.{arith}
use borrow.Author.Tests.{lt-ltb, le-ltb, ltb-true, eq-eqb, ne_eqb}
use lib.Dec.{ltb, eqb-suc-zero}
use lib.ListN.{length, get_or}
use Rattle.headway.specs.Stopping.{stopping_distance}
use Rattle.headway.proofs.Laws.{safe_says, safe_holds}
use Rattle.lane.specs.declared.Carrier.{Carrier}
use Rattle.lane.specs.declared.Row.{Row}
use Rattle.lane.specs.Surface.{row_in}
use Rattle.lane.specs.State.{State}
use Rattle.lane.specs.Safety.{leader, safe_with, any_of, first_place, numbered}
use Rattle.lane.specs.Rules.{newcomer_no, broken}
use Rattle.lane.specs.Calls.{none, ahead_of, walk, gap_no, place_no, enter_no}
use Rattle.lane.specs.Call.{enter_call, call_no}
use Rattle.lane.proofs.Newcomers.{Newcomer, newcomer_passes}
use Rattle.lane.proofs.lists.Tests.{none_at, none_pass}

-- ---- where the walk ends
pub walk_ends : (position : ℕ) (cs : List Carrier) (place : ℕ) → place ≤ length cs → ((i : ℕ) → i < place → position ≤ (get_or cs i none).position)
    → (place < length cs → (get_or cs place none).position < position) → walk position cs ≡ place
unfolding walk first_place
walk_ends position [] place h before at = omega arith
walk_ends position (c ∷ cs) zero h before at = rw (lt-ltb c.position position (at (omega arith))) refl
walk_ends position (c ∷ cs) (suc place) h before at =
    rw (le-ltb c.position position (before 0 (omega arith)), walk_ends position cs place (omega arith) (λ i p. before (suc i) (omega arith)) (λ p. at (omega arith))) refl

-- a number that no carrier has
absent : (number : ℕ) (cs : List Carrier) → ((i : ℕ) → i < length cs → ¬ ((get_or cs i none).number ≡ number)) → any_of (numbered number) cs ≡ false
absent number cs h = none_pass (numbered number) cs none (λ i p. ne_eqb _ number (h i p))

-- and one that some carrier has
present : (number : ℕ) (cs : List Carrier) (i : ℕ) → i < length cs → (get_or cs i none).number ≡ number → any_of (numbered number) cs ≡ true
present number cs i h e = by_test (any_of (numbered number) cs) refl
  where
    by_test : (t : Bool) → any_of (numbered number) cs ≡ t → t ≡ true
    by_test true q = refl
    by_test false q = absurd (true≢false (sym (eq-eqb (get_or cs i none).number number e) ∙ none_at (numbered number) cs i none q h))

-- ---- the checks before the gap, in their order: 21, then the newcomer's own values, then "22 64 carriers present; 23 number present"
pub entry_refused : (s : State) (c : Carrier)
    → (broken s ≡ true → call_no (enter_call c) s ≡ 21)
    × (broken s ≡ false → ¬ (newcomer_no s.road c ≡ 0) → call_no (enter_call c) s ≡ newcomer_no s.road c)
    × (broken s ≡ false → Newcomer s.road c → s.count ≡ 64 → call_no (enter_call c) s ≡ 22)
    × (broken s ≡ false → Newcomer s.road c → s.count < 64
    → (i : ℕ) → i < length s.carriers → (get_or s.carriers i none).number ≡ c.number → call_no (enter_call c) s ≡ 23)
unfolding enter_no place_no
entry_refused s c = (
  λ e. rw e refl,
  λ e own. rw (e, ne_eqb (newcomer_no s.road c) 0 own) refl,
  λ e own full. rw (e, newcomer_passes s.road c own, eq-eqb s.count 64 full) refl,
  λ e own room i h there. rw (e, newcomer_passes s.road c own, ne_eqb s.count 64 (λ f. omega arith), present c.number s.carriers i h there) refl,
)

-- ---- safe behind in numbers, by a row: the front below the tail ahead, and so where the two stop, the one behind by T-06's "smaller of its own rate
-- and the row's b", the one ahead by the row's B
abbrev pub SafeBy : Row → (ahead c : Carrier) → Type 0
SafeBy r a c =
    (c.position + a.length < a.position)
    × (c.position + a.length + stopping_distance (min c.rate r.guaranteed) c.speed < a.position + stopping_distance r.hardest a.speed)

module _ (r : Row) (a c : Carrier) where
  pub numbers_safe : SafeBy r a c → safe_with r (leader a) c ≡ true
  unfolding safe_with
  numbers_safe h = safe_holds _ _ _ _ _ _ (record { below = h.0; stops_below = h.1 })

  pub safe_numbers : safe_with r (leader a) c ≡ true → SafeBy r a c
  unfolding safe_with
  safe_numbers e = let s = safe_says _ _ _ _ _ _ e in (s.below, s.stops_below)

  pub numbers_unsafe : ¬ (SafeBy r a c) → safe_with r (leader a) c ≡ false
  numbers_unsafe h = by_test (safe_with r (leader a) c) refl
    where
      by_test : (t : Bool) → safe_with r (leader a) c ≡ t → t ≡ false
      by_test true e = absurd (h (safe_numbers e))
      by_test false e = refl

-- ---- the gap at a place
module _ (r : Row) (c : Carrier) (cs : List Carrier) where
  pub ahead_safe : (place : ℕ) → (0 < place → SafeBy r (get_or cs (place - 1) none) c) → safe_with r (ahead_of place cs) c ≡ true
  unfolding safe_with
  ahead_safe zero h = refl
  ahead_safe (suc i) h = rw (eqb-suc-zero i) (numbers_safe r (get_or cs (suc i - 1) none) c (h (omega arith)))

  ahead_unsafe : (place : ℕ) → 0 < place → ¬ (SafeBy r (get_or cs (place - 1) none) c) → safe_with r (ahead_of place cs) c ≡ false
  ahead_unsafe zero p h = absurd (omega arith)
  ahead_unsafe (suc i) p h = rw (eqb-suc-zero i) (numbers_unsafe r (get_or cs (suc i - 1) none) c h)

  pub behind_safe : (place : ℕ) → (place < length cs → SafeBy r c (get_or cs place none)) → ltb place (length cs) && not (safe_with r (leader c) (get_or cs place none)) ≡ false
  behind_safe place h = by_test (ltb place (length cs)) refl
    where
      by_test : (t : Bool) → ltb place (length cs) ≡ t → t && not (safe_with r (leader c) (get_or cs place none)) ≡ false
      by_test true e = rw (numbers_safe r c (get_or cs place none) (h (ltb-true place (length cs) e))) refl
      by_test false e = refl

-- where 21, 22, 23 and the newcomer's own values are passed, the gap decides where the walk ends
pub entry_by_gap : (s : State) (c : Carrier) → broken s ≡ false → Newcomer s.road c → s.count < 64
    → ((i : ℕ) → i < length s.carriers → ¬ ((get_or s.carriers i none).number ≡ c.number))
    → call_no (enter_call c) s ≡ gap_no (row_in s.tables s.road) (walk c.position s.carriers) c s.carriers
unfolding enter_no place_no
entry_by_gap s c e own room new =
    rw (e, newcomer_passes s.road c own, ne_eqb s.count 64 (λ f. omega arith), absent c.number s.carriers new) refl

-- "25 not safe behind the carrier ahead; 26 the carrier behind not safe", looked at last and in this order
pub entry_answers : (s : State) (c : Carrier) (place : ℕ) →
    let cs = s.carriers in
    let r = row_in s.tables s.road in
    let Safe : (ahead d : Carrier) → Type 0 = λ a d.
    (d.position + a.length < a.position)
    × (d.position + a.length + stopping_distance (min d.rate r.guaranteed) d.speed < a.position + stopping_distance r.hardest a.speed)
    in
    broken s ≡ false → Newcomer s.road c → s.count < 64 → ((i : ℕ) → i < length cs → ¬ ((get_or cs i none).number ≡ c.number))
    → place ≤ length cs → ((i : ℕ) → i < place → c.position ≤ (get_or cs i none).position) → (place < length cs → (get_or cs place none).position < c.position)
    → ((0 < place → Safe (get_or cs (place - 1) none) c) → (place < length cs → Safe c (get_or cs place none)) → call_no (enter_call c) s ≡ 0)
    × (0 < place → ¬ (Safe (get_or cs (place - 1) none) c) → call_no (enter_call c) s ≡ 25)
    × ((0 < place → Safe (get_or cs (place - 1) none) c) → place < length cs → ¬ (Safe c (get_or cs place none)) → call_no (enter_call c) s ≡ 26)
unfolding gap_no
entry_answers s c place e own room new within before at = (
  λ front back. by_gap ∙ rw (ahead_safe r c cs place front, behind_safe r c cs place back) refl,
  λ p front. by_gap ∙ rw (ahead_unsafe r c cs place p front) refl,
  λ front p back. by_gap ∙ rw (ahead_safe r c cs place front, lt-ltb place (length cs) p, numbers_unsafe r c (get_or cs place none) back) refl,
)
  where
    r : Row
    r = row_in s.tables s.road

    cs : List Carrier
    cs = s.carriers

    by_gap : call_no (enter_call c) s ≡ gap_no r place c cs
    by_gap = entry_by_gap s c e own room new ∙ ap (λ (i : ℕ). gap_no r i c cs) (walk_ends c.position cs place within before at)

-- so that on a lane with nobody on it every such one is let in
pub alone_enters : (s : State) (c : Carrier) → broken s ≡ false → s.count ≡ 0 → s.carriers ≡ [] → Newcomer s.road c → call_no (enter_call c) s ≡ 0
alone_enters s c b e f h =
    let nobody : length s.carriers ≡ 0 = rw f refl in
    (entry_answers s c 0 b h (omega arith) (λ i p. absurd (omega arith)) (omega arith) (λ i p. absurd (omega arith)) (λ p. absurd (omega arith))).0
    (λ p. absurd (omega arith)) (λ p. absurd (omega arith))
