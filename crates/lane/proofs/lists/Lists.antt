-- Facts on lists of any type, and on the part of a list that a loop has still to see.
use mathlib.Core.Path.{◌≡◌, sym, ap, ◌∙◌}
use mathlib.Core.List.{List, [], ◌∷◌}
use Prim.Native.Nat.{ℕ, ◌+◌, ◌≤◌, ◌<◌}
use native.Mathlib.Numerals.{add-one}
use native.Mathlib.Nat.{le_trans, min-le_left, min-le_right}
use lib.ListN.{length, get_or, take, length-take, drop_of_length-le}
use lib.Seq.{slice, slice-cons}

module _ {ℓ} {A : Type ℓ} where
  -- the first so many of a list are no more than that, and no more than the list has
  pub take_few : (count : ℕ) (l : List A) → (length (take count l) ≤ count) × (length (take count l) ≤ length l)
  take_few count l = rw (length-take count l) (min-le_left count (length l), min-le_right count (length l))

  -- a loop sees the next element
  pub slice_next : (d : A) (l : List A) (i count : ℕ) → i < count → count ≤ length l
      → slice i count l ≡ get_or l i d ∷ slice (i + 1) count l
  slice_next d l i count h k = slice-cons i count l d h k ∙ ap (λ (n : ℕ). get_or l i d ∷ slice n count l) (sym (add-one i))

  -- and at the end there is none
  pub slice_past : (l : List A) (i count : ℕ) → count ≤ i → slice i count l ≡ []
  slice_past l i count h = drop_of_length-le (take count l) (le_trans (take_few count l).0 h)
