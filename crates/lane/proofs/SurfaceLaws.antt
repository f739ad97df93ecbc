-- A change of surface in numbers: which word it puts, which one is accepted, and with which number another is turned away.
use mathlib.Core.Path.{◌≡◌, refl, ◌∙◌}
use mathlib.Core.Bool.{Bool, true, false, cond}
use mathlib.Core.List.{List, [], ◌∷◌}
use Prim.Native.Nat.{ℕ, zero, suc, ◌+◌, ◌≤◌, ◌<◌, min}
use native.Mathlib.Nat.{zero-mul, zero-div, zero-mod}
use native.Mathlib.Omega.{arith}
use borrow.Author.Tests.{lt-ltb, le-ltb}
use lib.ListN.{length, get_or, set}
use Rattle.headway.specs.Stopping.{stopping_distance}
use Rattle.headway.proofs.Laws.{stopping_quotient}
use Rattle.lane.specs.declared.Row.{Row}
use Rattle.lane.specs.Surface.{row_of, row_in}
use Rattle.lane.specs.State.{State}
use Rattle.lane.specs.Layout.{Words, with_code}
use Rattle.lane.specs.Safety.{lane_safe}
use Rattle.lane.specs.Rules.{broken}
use Rattle.lane.specs.Calls.{none, surface_no}
use Rattle.lane.specs.Call.{surface_call, call_no}
use Rattle.lane.proofs.EntryLaws.{numbers_safe, safe_numbers}
use Rattle.lane.proofs.checks.Surfaces.{row_brakes, rate_brakes, sound_at}
use Rattle.lane.proofs.checks.Soundness.{rated_at, sound}
use Rattle.lane.proofs.calls.Order.{safe_neighbours, safe_behind_leader}

-- ---- the words: a change by the function itself leaves `with_code`, in which every word but that of the code is as it was
pub other_words_stay : (l : Words) (code i j : ℕ) → ¬ ((i ≡ 0) × (j ≡ 1)) → get_or (get_or (with_code code l) i []) j 0 ≡ get_or (get_or l i []) j 0
other_words_stay [] code i j h = refl
other_words_stay (r ∷ l) code (suc i) j h = refl
other_words_stay (r ∷ l) code zero j h = in_row r j (λ e. h (refl, e))
  where
    in_row : (r : List ℕ) (j : ℕ) → ¬ (j ≡ 1) → get_or (set r 1 code) j 0 ≡ get_or r j 0
    in_row [] j h = refl
    in_row (a ∷ r) zero h = refl
    in_row (a ∷ []) (suc j) h = refl
    in_row (a ∷ b ∷ r) (suc zero) h = absurd (h refl)
    in_row (a ∷ b ∷ r) (suc (suc j)) h = refl

-- ---- the number

-- the code already in force is accepted on every lane that 21 passes
pub surface_in_force : (s : State) → broken s ≡ false → call_no (surface_call s.road.surface) s ≡ 0
unfolding surface_no
surface_in_force s e = let h = sound s e in rw (e, le-ltb 7 s.road.surface h.road.surface, h.carriers.safe) refl

-- "The change is accepted if the whole lane is safe under the new row and refused otherwise.": with guaranteed braking of the one behind and B of the
-- one ahead, by the tail of that one; "34 the lane wouldn't be safe, after 21 and 1"
pub surface_answers : (s : State) (code : ℕ) →
    let r = row_of s.tables.in_force code in
    let Safe : ℕ → Type 0 = λ i.
    let a = get_or s.carriers i none in
    let d = get_or s.carriers (suc i) none in
    (d.position + a.length < a.position)
    × (d.position + a.length + stopping_distance (min d.rate r.guaranteed) d.speed < a.position + stopping_distance r.hardest a.speed)
    in
    (broken s ≡ true → call_no (surface_call code) s ≡ 21)
    × (broken s ≡ false → 7 < code → call_no (surface_call code) s ≡ 1)
    × (broken s ≡ false → code ≤ 7 → ((i : ℕ) → suc i < length s.carriers → Safe i) → call_no (surface_call code) s ≡ 0)
    × (broken s ≡ false → code ≤ 7 → (i : ℕ) → suc i < length s.carriers → ¬ (Safe i) → call_no (surface_call code) s ≡ 34)
unfolding surface_no
surface_answers s code = (
  λ e. rw e refl,
  λ e h. rw (e, lt-ltb 7 code h) refl,
  λ e known h. by_safety e known ∙ rw (safe_neighbours r s.carriers λ i p. numbers_safe r (get_or s.carriers i none) (get_or s.carriers (suc i) none) (h i p)) refl,
  λ e known i p h. by_safety e known ∙ unsafe (λ q. h (safe_numbers r _ _ (safe_behind_leader r s.carriers q i p))) _ refl,
)
  where
    r : Row
    r = row_of s.tables.in_force code

    by_safety : broken s ≡ false → code ≤ 7 → call_no (surface_call code) s ≡ cond (lane_safe r s.carriers) 0 34
    by_safety e known = rw (e, le-ltb 7 code known) refl

    unsafe : ¬ (lane_safe r s.carriers ≡ true) → (t : Bool) → lane_safe r s.carriers ≡ t → ◌≡◌ {A = ℕ} (cond t 0 34) 34
    unsafe h true q = absurd (h q)
    unsafe h false q = refl

-- a carrier at rest stops where it is
at_rest : (c : ℕ) → 1 ≤ c → stopping_distance c 0 ≡ 0
at_rest c h = rw (stopping_quotient c 0 h, zero-div c, zero-mod c, zero-mul c) refl

-- so that where nobody behind the foremost moves every code that there is is accepted
pub surface_standing : (s : State) (code : ℕ) → broken s ≡ false → code ≤ 7
    → ((i : ℕ) → suc i < length s.carriers → (get_or s.carriers (suc i) none).speed ≡ 0) → call_no (surface_call code) s ≡ 0
surface_standing s code e known rest =
    let h = sound s e in
    let r = row_of s.tables.in_force code in
    let brakes = row_brakes r (sound_at s.tables.in_force code known h.in_force_is) in
    (surface_answers s code).2 e known λ i p.
    let own = safe_numbers _ _ _ (safe_behind_leader (row_in s.tables s.road) s.carriers h.carriers.safe i p) in
    let rate = rate_brakes r (get_or s.carriers (suc i) none) brakes (rated_at s.road s.carriers h.carriers.lawful (suc i) p) in
    (own.0, rw (rest i p, at_rest _ rate.0) (omega (arith, own.0)))
