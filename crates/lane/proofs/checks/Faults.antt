-- Check 21's pass over the carriers, from the back: what one carrier adds to those behind it. A number is looked for among the carriers passed
-- that are of its sort, alike in the low six bits, which the pass links to one another.
use mathlib.Core.Path.{◌≡◌, refl, sym, ap, ◌∙◌}
use mathlib.Core.Bool.{Bool, true, false, ◌||◌, ◌&&◌}
use mathlib.Core.List.{List, [], ◌∷◌}
use Prim.Native.Nat.{ℕ, zero, suc, ◌+◌, ◌-◌, ◌%◌, ◌≤◌, ◌<◌}
use native.Mathlib.Nat.{mod-lt}
use native.Mathlib.Omega.{arith}
use borrow.Author.Tests.{eqb-true, eqb-false, ne_eqb}
use lib.Dec.{eqb}
use lib.ListN.{length, get_or, take, set, replicate, get_or-replicate}
use lib.Seq.{slice, slice_empty, get_or-set_same, get_or-set_other}
use Rattle.headway.specs.Totals.{rest_of}
use Rattle.lane.specs.declared.Carrier.{Carrier}
use Rattle.lane.specs.declared.Road.{Road}
use Rattle.lane.specs.declared.Row.{Row}
use Rattle.lane.specs.Safety.{leader, guaranteed_rate, safe_with, safe_from, lane_safe, any_of, numbered, repeats}
use Rattle.lane.specs.Rules.{unlawful, past_end, misfit}
use Rattle.lane.specs.Calls.{none}
use Rattle.lane.proofs.lists.Lists.{slice_next, slice_past}
use Rattle.lane.proofs.lists.Tests.{neither}

-- ---- numbers met
pub low : (n : ℕ) → n % 64 < 64
low n = mod-lt n (omega arith)

module _ (l : List Carrier) (count : ℕ) where
  -- a search for n from place i on may begin at p, which is of its sort
  pub record Leads (n i p : ℕ) : Type 0 where
    pub on : i ≤ p
    pub skips : any_of (numbered n) (slice i count l) ≡ any_of (numbered n) (slice p count l)
    pub alike : p < count → (get_or l p none).number % 64 ≡ n % 64

  -- `first` has the first place of each sort from i on
  abbrev pub Met : (first : List ℕ) (i : ℕ) → Type 0
  Met first i = (n : ℕ) → Leads n i (get_or first (n % 64) 0)

  -- `next` leads from each place to the next of its sort
  abbrev pub Linked : (next : List ℕ) (i : ℕ) → Type 0
  Linked next i = (p : ℕ) → i ≤ p → p < count → (n : ℕ) → (get_or l p none).number % 64 ≡ n % 64 → Leads n (p + 1) (get_or next p 0)

  pub met_none : count ≤ 64 → Met (replicate 64 64) count
  met_none h n =
      rw (get_or-replicate {A = ℕ} 64 (n % 64) 64 0 (low n))
      (record { on = h; skips = ap (any_of (numbered n)) (slice_empty count l ∙ sym (slice_past l 64 count h)); alike = λ k. omega arith })

  pub linked_none : (next : List ℕ) → Linked next count
  linked_none next p h k n e = absurd (omega arith)

-- ---- carriers that break a rule other than safety
module _ (road : Road) where
  pub misfit_none : misfit road [] ≡ false
  unfolding any_of repeats
  misfit_none = refl

  -- what a carrier adds to those behind it, none of which breaks one
  misfit_more : (c : Carrier) (cs : List Carrier) → misfit road cs ≡ false
      → misfit road (c ∷ cs) ≡ unlawful road c || past_end road c || any_of (numbered c.number) cs
  unfolding any_of repeats
  misfit_more c cs e =
      let t = neither (any_of (λ k. unlawful road k || past_end road k) cs) (repeats cs) e in
      rw (t.0, t.1) (turned (unlawful road c || past_end road c) (any_of (numbered c.number) cs))
    where
      turned : (a n : Bool) → (a || false) || (n || false) ≡ a || n
      turned true n = refl
      turned false true = refl
      turned false false = refl

  -- one behind stays one
  misfit_stays : (c : Carrier) (cs : List Carrier) → misfit road cs ≡ true → misfit road (c ∷ cs) ≡ true
  unfolding any_of repeats
  misfit_stays c cs e =
      by_cases
      (unlawful road c || past_end road c)
      (any_of (λ k. unlawful road k || past_end road k) cs)
      (any_of (numbered c.number) cs)
      (repeats cs)
      e
    where
      by_cases : (a x n y : Bool) → x || y ≡ true → (a || x) || (n || y) ≡ true
      by_cases true x n y e = refl
      by_cases false true n y e = refl
      by_cases false false true y e = refl
      by_cases false false false y e = e

module _ (l : List Carrier) (count : ℕ) (k : count ≤ length l) where
  -- the pass has come to place i from the back, and looks at the carrier before it
  module _ (i : ℕ) (p : 0 < i) (h : i ≤ count) where
    from_here : slice (i - 1) count l ≡ get_or l (i - 1) none ∷ slice i count l
    from_here =
        let e : i - 1 + 1 ≡ i = omega arith in
        slice_next none l (i - 1) count (omega arith) k ∙ ap (λ (j : ℕ). get_or l (i - 1) none ∷ slice j count l) e

    module _ (first : List ℕ) (m : Met l count first i) where
      pub met_next : length first ≡ 64 → Met l count (set first ((get_or l (i - 1) none).number % 64) (i - 1)) (i - 1)
      unfolding any_of
      met_next long n = by_sort (eqb (n % 64) (number % 64)) refl
        where
          number : ℕ
          number = (get_or l (i - 1) none).number

          by_sort : (t : Bool) → eqb (n % 64) (number % 64) ≡ t → Leads l count n (i - 1) (get_or (set first (number % 64) (i - 1)) (n % 64) 0)
          by_sort true e =
              let q = eqb-true (n % 64) (number % 64) e in
              rw (q, get_or-set_same first (number % 64) (i - 1) 0 (omega (arith, low number))) (record { on = omega arith; skips = refl; alike = λ k. sym q })
          by_sort false e =
              let q = eqb-false (n % 64) (number % 64) e in
              let other : eqb number n ≡ false = ne_eqb number n (λ z. q (ap (λ (k : ℕ). k % 64) (sym z))) in
              rw (get_or-set_other first (number % 64) (n % 64) (i - 1) 0 q)
              (record { on = omega (arith, (m n).on); skips = rw (from_here, other) (m n).skips; alike = (m n).alike })

      pub linked_next : (next : List ℕ) → i ≤ length next → Linked l count next i
          → Linked l count (set next (i - 1) (get_or first ((get_or l (i - 1) none).number % 64) 0)) (i - 1)
      linked_next next long k place at_least_lem below n e = by_place (eqb place (i - 1)) refl
        where
          mark : ℕ
          mark = get_or first ((get_or l (i - 1) none).number % 64) 0

          by_place : (t : Bool) → eqb place (i - 1) ≡ t → Leads l count n (place + 1) (get_or (set next (i - 1) mark) place 0)
          by_place true f =
              let here = eqb-true place (i - 1) f in
              let j : i - 1 + 1 ≡ i = omega arith in
              let alike : (get_or l (i - 1) none).number % 64 ≡ n % 64 = rw here at e in
              rw (here, j, get_or-set_same next (i - 1) mark 0 (omega arith), alike) (m n)
          by_place false f = rw (get_or-set_other next (i - 1) place mark 0 (eqb-false place (i - 1) f)) (k place (omega (arith, eqb-false place (i - 1) f)) below n e)

    pub misfit_next : (road : Road) → misfit road (slice i count l) ≡ false → let c = get_or l (i - 1) none in
        misfit road (slice (i - 1) count l) ≡ unlawful road c || past_end road c || any_of (numbered c.number) (slice i count l)
    misfit_next road e = rw from_here (misfit_more road (get_or l (i - 1) none) (slice i count l) e)

    further : (road : Road) → misfit road (slice i count l) ≡ true → misfit road (slice (i - 1) count l) ≡ true
    further road e = rw from_here (misfit_stays road (get_or l (i - 1) none) (slice i count l) e)

    -- those from it on are safe if those behind it are, the first of them behind it
    pub gap_next : (r : Row) (ahead behind : Carrier) → ahead ≡ get_or l (i - 1) none → behind ≡ get_or l i none → i < count
        → lane_safe r (slice (i - 1) count l) ≡ safe_with r (leader ahead) behind && lane_safe r (slice i count l)
    unfolding lane_safe safe_from safe_with
    gap_next r ahead behind e f q = rw (e, f, from_here, slice_next none l i count q k) refl

    -- no one is behind the last
    pub gap_past : (r : Row) → count ≤ i → lane_safe r (slice (i - 1) count l) ≡ lane_safe r (slice i count l)
    unfolding lane_safe safe_from safe_with
    gap_past r q = rw (from_here, slice_past l i count q) refl

  -- a misfit past a place is one of the whole
  pub misfit_whole : (road : Road) (i : ℕ) → i ≤ count → misfit road (slice i count l) ≡ true → misfit road (take count l) ≡ true
  misfit_whole road zero h e = e
  misfit_whole road (suc i) h e =
      let d : suc i - 1 ≡ i = omega arith in
      misfit_whole road i (omega arith) (rw d at (further (suc i) (omega arith) h road e))

-- what is known where the pass has come to place i
pub record Passed (road : Road) (row : Row) (l : List Carrier) (count : ℕ) (first next : List ℕ) (behind : Carrier) (stop : ℕ) (safe : Bool) (i : ℕ) : Type 0 where
  pub sorts : length first ≡ 64
  pub places : length next ≡ 64
  pub within : i ≤ count
  pub fitting : misfit road (slice i count l) ≡ false
  pub safe_is : safe ≡ lane_safe row (slice i count l)
  pub met : Met l count first i
  pub linked : Linked l count next i
  pub behind_is : i < count → behind ≡ get_or l i none
  pub stop_is : i < count → stop ≡ rest_of (guaranteed_rate row behind) behind.position behind.speed
