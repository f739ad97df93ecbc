-- Elements of a list moved by one place, one store a turn, to make room for one or to close the gap of one.
use mathlib.Core.Path.{◌≡◌, refl, sym, ap, ap₂, ◌∙◌}
use mathlib.Core.List.{List, [], ◌∷◌, ◌++◌, append_assoc, append-nil}
use Prim.Native.Nat.{ℕ, zero, suc, ◌+◌, ◌-◌, ◌≤◌, ◌<◌}
use native.Mathlib.Numerals.{add-one}
use native.Mathlib.Nat.{add-zero}
use native.Mathlib.Omega.{arith}
use lib.ListN.{length, get_or, take, drop, set, length-set}
use lib.Seq.{slice, slice_empty, slice-cons, take-set-le, take-set-lt, drop-set-lt, set_split, get_or-set_same, get_or-take, length-take-le, take-take, take-suc-set, take-suc, drop-append-le, drop-drop, get_or-drop}

-- what is known while the elements from `count` down to `i` are moved one place back
pub record Opened {ℓ} {A : Type ℓ} (l₀ l : List A) (count i : ℕ) : Type ℓ where
  pub long : length l ≡ length l₀
  pub front : take i l ≡ take i l₀
  pub back : slice (suc i) (suc count) l ≡ slice i count l₀

-- what is known while the elements past `place` up to `i` are moved one place forward
pub record Closed {ℓ} {A : Type ℓ} (l₀ l : List A) (place i : ℕ) : Type ℓ where
  pub long : length l ≡ length l₀
  pub front : take i l ≡ take place l₀ ++ slice (suc place) (suc i) l₀
  pub back : drop (suc i) l ≡ drop (suc i) l₀

module _ {ℓ} {A : Type ℓ} where
  pub opened_start : (l : List A) (count : ℕ) → Opened l l count count
  opened_start l count = record { long = refl; front = refl; back = slice_empty (suc count) l ∙ sym (slice_empty count l) }

  pub opened_end : (l₀ l : List A) (count i : ℕ) (x : A) → i ≤ count → count < length l₀
      → Opened l₀ l count i → take (count + 1) (set l i x) ≡ take i (take count l₀) ++ (x ∷ drop i (take count l₀))
  opened_end l₀ l count i x h k o =
      let long : length l ≡ length l₀ = o.long in
      rw (add-one count, take-set-lt (suc count) l i x (omega arith))
      (set_split (take (suc count) l) i x (rw (length-take-le (suc count) l (omega arith)) (omega arith))
      ∙ ap₂ (λ (a b : List A). a ++ (x ∷ b))
      (take-take i (suc count) l (omega arith) ∙ o.front ∙ sym (take-take i count l₀ h))
      o.back)

  pub closed_start : (l : List A) (place : ℕ) → Closed l l place place
  closed_start l place =
      record {
        long = refl;
        front = sym (ap (λ (m : List A). take place l ++ m) (slice_empty (suc place) l) ∙ append-nil (take place l));
        back = refl;
      }

  pub closed_end : (l₀ l : List A) (count place : ℕ) → place < count
      → Closed l₀ l place (count - 1) → take (count - 1) l ≡ take place (take count l₀) ++ drop (suc place) (take count l₀)
  closed_end l₀ l zero place h o = absurd (omega arith)
  closed_end l₀ l (suc i) place h o =
      let e : suc i - 1 ≡ i = omega arith in
      rw (e, take-take place (suc i) l₀ (omega arith)) (rw e at o).front

  module _ (d : A) where
    -- a store before a part leaves the part
    slice_set_lt : (f t : ℕ) (l : List A) (i : ℕ) (a : A) → i < f → f ≤ t → slice f t (set l i a) ≡ slice f t l
    slice_set_lt f t l i a h k = rw (take-set-lt t l i a (omega arith)) (drop-set-lt f (take t l) i a h)

    -- a part with one more element at its end
    slice_snoc : (f t : ℕ) (l : List A) → f ≤ t → t < length l → slice f (suc t) l ≡ slice f t l ++ (get_or l t d ∷ [])
    slice_snoc f t l h k =
        rw (take-suc l t d k) (drop-append-le f (take t l) (get_or l t d ∷ []) (omega (arith, length-take-le t l (omega arith))))

    drop_suc : (n : ℕ) (m : List A) → drop (suc n) m ≡ drop 1 (drop n m)
    drop_suc n m = sym (drop-drop 1 n m ∙ ap (λ (j : ℕ). drop j m) (add-one n))

    -- a turn of a loop that counts down
    pub opened_down : (l₀ l : List A) (count i : ℕ) → 0 < i → i ≤ count → count < length l₀
        → Opened l₀ l count i → Opened l₀ (set l i (get_or l (i - 1) d)) count (i - 1)
    opened_down l₀ l count zero p h k o = absurd (omega arith)
    opened_down l₀ l count (suc i) p h k o =
        let e : suc i - 1 ≡ i = omega arith in
        let long : length l ≡ length l₀ = o.long in
        let same : get_or l i d ≡ get_or l₀ i d =
        sym (get_or-take (suc i) l i d (omega arith)) ∙ ap (λ (m : List A). get_or m i d) o.front ∙ get_or-take (suc i) l₀ i d (omega arith)
        in
        rw e
        (record {
          long = length-set l (suc i) (get_or l i d) ∙ long;
          front = take-set-le i l (suc i) (get_or l i d) (omega arith)
              ∙ sym (take-take i (suc i) l (omega arith)) ∙ ap (take i) o.front ∙ take-take i (suc i) l₀ (omega arith);
          back = slice-cons (suc i) (suc count) (set l (suc i) (get_or l i d)) d (omega arith) (rw length-set (omega arith))
              ∙ ap₂ ◌∷◌ (get_or-set_same l (suc i) (get_or l i d) d (omega arith) ∙ same)
              (slice_set_lt (suc (suc i)) (suc count) l (suc i) (get_or l i d) (omega arith) (omega arith) ∙ o.back)
              ∙ sym (slice-cons i count l₀ d h (omega arith));
        })

    -- a turn of a loop that counts up
    pub closed_up : (l₀ l : List A) (place i : ℕ) → place ≤ i → i + 1 < length l₀
        → Closed l₀ l place i → Closed l₀ (set l i (get_or l (i + 1) d)) place (i + 1)
    closed_up l₀ l place i h k o =
        let long : length l ≡ length l₀ = o.long in
        let same : get_or l (suc i) d ≡ get_or l₀ (suc i) d =
        ap (λ (n : ℕ). get_or l n d) (sym (add-zero (suc i))) ∙ sym (get_or-drop (suc i) l 0 d)
        ∙ ap (λ (m : List A). get_or m 0 d) o.back ∙ get_or-drop (suc i) l₀ 0 d ∙ ap (λ (n : ℕ). get_or l₀ n d) (add-zero (suc i))
        in
        rw (add-one i)
        (record {
          long = length-set l i (get_or l (suc i) d) ∙ long;
          front = take-suc-set l i (get_or l (suc i) d) (omega arith)
              ∙ ap₂ (λ (m : List A) (x : A). m ++ (x ∷ [])) o.front same
              ∙ append_assoc (take place l₀) (slice (suc place) (suc i) l₀) (get_or l₀ (suc i) d ∷ [])
              ∙ ap (λ (m : List A). take place l₀ ++ m) (sym (slice_snoc (suc place) (suc i) l₀ (omega arith) (omega arith)));
          back = drop-set-lt (suc (suc i)) l i (get_or l (suc i) d) (omega arith)
              ∙ drop_suc (suc i) l ∙ ap (drop 1) o.back ∙ sym (drop_suc (suc i) l₀);
        })
