-- The place of the first carrier that passes a test, for any test: as a search has it that has come to a place, and as a bound.
use mathlib.Core.Path.{◌≡◌, refl, sym, ◌∙◌}
use mathlib.Core.Bool.{Bool, true, false, cond, ◌||◌}
use mathlib.Core.List.{List, [], ◌∷◌}
use Prim.Native.Nat.{ℕ, suc, ◌+◌, ◌≤◌, ◌<◌}
use native.Mathlib.Omega.{arith}
use borrow.Author.Tests.{lt-ltb}
use lib.Dec.{ltb, leb-suc-suc}
use lib.ListN.{length, get_or}
use lib.Seq.{slice}
use Rattle.lane.specs.declared.Carrier.{Carrier}
use Rattle.lane.specs.Safety.{any_of, first_place}
use Rattle.lane.specs.Calls.{none}
use Rattle.lane.proofs.lists.Lists.{slice_next, slice_past}

module _ (f : Carrier → Bool) where
  -- the place looked for is not before i
  module _ (l : List Carrier) (count i place : ℕ) (here : place ≡ i + first_place f (slice i count l)) where
    pub place_past : count ≤ i → i ≡ place
    unfolding first_place
    place_past h = sym (here ∙ rw (slice_past l i count h) (omega arith))

    -- x stands at i
    module _ (x : Carrier) (seen : x ≡ get_or l i none) (h : i < count) (k : count ≤ length l) where
      pub place_found : f x ≡ true → i ≡ place
      unfolding first_place
      place_found e = sym (here ∙ rw (slice_next none l i count h k, ← seen, e) (omega arith))

      pub place_on : f x ≡ false → place ≡ i + 1 + first_place f (slice (i + 1) count l)
      unfolding first_place
      place_on e = here ∙ rw (slice_next none l i count h k, ← seen, e) (omega arith)

  -- a search sees the next carrier, and at the end there is none
  pub any_next : (l : List Carrier) (i count : ℕ) → i < count → count ≤ length l
      → any_of f (slice i count l) ≡ f (get_or l i none) || any_of f (slice (i + 1) count l)
  unfolding any_of
  any_next l i count h k = rw (slice_next none l i count h k) refl

  pub any_past : (l : List Carrier) (i count : ℕ) → count ≤ i → any_of f (slice i count l) ≡ false
  unfolding any_of
  any_past l i count h = rw (slice_past l i count h) refl

  -- it is a place of the list exactly where some carrier passes
  pub place_any : (l : List Carrier) → ltb (first_place f l) (length l) ≡ any_of f l
  unfolding first_place any_of
  place_any [] = refl
  place_any (c ∷ l) = by_test (f c) (place_any l)
    where
      by_test : (t : Bool) → ltb (first_place f l) (length l) ≡ any_of f l
          → ltb (cond t 0 (suc (first_place f l))) (suc (length l)) ≡ t || any_of f l
      by_test true e = lt-ltb 0 (suc (length l)) (omega arith)
      by_test false e = leb-suc-suc (suc (first_place f l)) (length l) ∙ e

  -- who stands there passes
  pub place_passes : (l : List Carrier) (d : Carrier) → first_place f l < length l → f (get_or l (first_place f l) d) ≡ true
  unfolding first_place
  place_passes [] d h = absurd (omega arith)
  place_passes (c ∷ l) d h = by_test (f c) refl (place_passes l d) h
    where
      by_test : (t : Bool) → f c ≡ t → (first_place f l < length l → f (get_or l (first_place f l) d) ≡ true)
          → cond t 0 (suc (first_place f l)) < length (c ∷ l) → f (get_or (c ∷ l) (cond t 0 (suc (first_place f l))) d) ≡ true
      by_test true e later k = e
      by_test false e later k = later (omega arith)

  pub place_le : (l : List Carrier) → first_place f l ≤ length l
  unfolding first_place
  place_le [] = omega arith
  place_le (c ∷ l) = by_test (f c) (place_le l)
    where
      by_test : (t : Bool) → first_place f l ≤ length l → cond t 0 (suc (first_place f l)) ≤ suc (length l)
      by_test true h = omega arith
      by_test false h = omega arith
