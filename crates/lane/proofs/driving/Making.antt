-- Wishes made one after another of two arrays of numbers.
use mathlib.Core.Path.{◌≡◌, refl, sym, ap, ◌∙◌}
use mathlib.Core.Bool.{Bool, true, false, ◌||◌, cond}
use mathlib.Core.List.{List, [], ◌∷◌}
use Prim.Native.Nat.{ℕ, zero, suc, ◌+◌, ◌≤◌, ◌<◌}
use native.Mathlib.Nat.{le_refl}
use native.Mathlib.Omega.{arith}
use borrow.Author.Tests.{lt-ltb, le-ltb, ltb-false, eqb-true, eqb-false, ne_eqb}
use lib.Dec.{eqb, ltb}
use lib.ListN.{length, get_or, take}
use lib.Seq.{slice, slice_empty, take-take}
use Rattle.wish.specs.declared.Wish.{Wish}
use Rattle.wish.specs.declared.Wish.TheVariants.{Hold}
use Rattle.lane.specs.Calls.{if_accepted}
use Rattle.lane.specs.Given.{wish_made, is_unknown, made_wish, wishes_made, any_unknown, wishes_no, wishes_given}
use Rattle.lane.proofs.lists.Lists.{slice_next}
use Rattle.lane.proofs.lists.Tests.{neither}
use Rattle.lane.proofs.lists.Passed.{passed}

-- ---- the checks
module _ (count : ℕ) (sorts values : List ℕ) where
  pub few_sorts : length sorts < count → 12 ≡ wishes_no count sorts values
  unfolding wishes_no
  few_sorts h = rw (lt-ltb (length sorts) count h) refl

  pub few_values : count ≤ length sorts → length values < count → 12 ≡ wishes_no count sorts values
  unfolding wishes_no
  few_values h k = rw (le-ltb (length sorts) count h, lt-ltb (length values) count k) refl

  module _ (h : count ≤ length sorts) (k : count ≤ length values) where
    -- whether one cannot be made tells whether they are refused
    pub by_sorts : (t : Bool) → any_unknown (take count sorts) (take count values) ≡ t → wishes_no count sorts values ≡ cond t 11 0
    unfolding wishes_no
    by_sorts t e = rw (le-ltb (length sorts) count h, le-ltb (length values) count k, e) refl

    -- what the loop has still to see
    module _ (i : ℕ) (e : any_unknown (take count sorts) (take count values) ≡ any_unknown (slice i count sorts) (slice i count values)) where
      next : i < count
          → any_unknown (slice i count sorts) (slice i count values)
          ≡ is_unknown (wish_made (get_or sorts i 0) (get_or values i 0)) || any_unknown (slice (i + 1) count sorts) (slice (i + 1) count values)
      unfolding any_unknown
      next q = rw (slice_next 0 sorts i count q h, slice_next 0 values i count q k) refl

      pub unknown_here : i < count → is_unknown (wish_made (get_or sorts i 0) (get_or values i 0)) ≡ true → any_unknown (take count sorts) (take count values) ≡ true
      unknown_here q u = e ∙ next q ∙ rw u refl

      pub known_here : i < count → is_unknown (wish_made (get_or sorts i 0) (get_or values i 0)) ≡ false
          → any_unknown (take count sorts) (take count values) ≡ any_unknown (slice (i + 1) count sorts) (slice (i + 1) count values)
      known_here q u = e ∙ next q ∙ rw u refl

      pub all_known : i ≡ count → any_unknown (take count sorts) (take count values) ≡ false
      unfolding any_unknown
      all_known q = e ∙ rw (q, slice_empty count sorts) refl

-- ---- the number of the first refusal: of wishes that cannot be made, else of one outside its range
module _ (n : ℕ) where
  abbrev pub unfit_no : (outside : Bool) → ℕ
  unfit_no outside = if_accepted n (cond outside 7 0) n

  pub unmade_first : (m : ℕ) → ¬ (m ≡ 0) → n ≡ m → (outside : Bool) → m ≡ unfit_no outside
  unmade_first m h e outside = rw (e, ne_eqb m 0 h) refl

  -- t: one cannot be made
  pub unfit_is : (t outside : Bool) → n ≡ cond t 11 0 → (m : ℕ) → m ≡ cond t 11 7 → (t ≡ false → outside ≡ true) → (m ≡ unfit_no outside) × ¬ (m ≡ 0)
  unfit_is true outside e m f o = (rw (e, f) refl, λ z. omega arith)
  unfit_is false outside e m f o = (rw (e, f, o refl) refl, λ z. omega arith)

  pub none_unfit : n ≡ 0 → (outside : Bool) → outside ≡ false → 0 ≡ unfit_no outside
  none_unfit e outside o = rw (e, o) refl

  -- what it tells
  pub unfit_tells : (m : ℕ) (outside : Bool) → m ≡ unfit_no outside → ¬ (m ≡ 0) → (n ≡ 0 → (m ≡ 7) × (outside ≡ true)) × (¬ (n ≡ 0) → m ≡ n)
  unfit_tells m outside f h = (λ z. go outside (f ∙ rw z refl), λ z. f ∙ rw (ne_eqb n 0 z) refl)
    where
      go : (o : Bool) → m ≡ cond o 7 0 → (m ≡ 7) × (o ≡ true)
      go true e = (e, refl)
      go false e = absurd (h e)

  -- where there is none, the wishes are made and all inside
  pub fit_wishes : (outside : Bool) → unfit_no outside ≡ 0 → (n ≡ 0) × (outside ≡ false)
  fit_wishes outside e = go (eqb n 0) refl e
    where
      inside : (o : Bool) → ◌≡◌ {A = ℕ} (cond o 7 0) 0 → o ≡ false
      inside true z = absurd (omega arith)
      inside false z = refl

      go : (t : Bool) → eqb n 0 ≡ t → ◌≡◌ {A = ℕ} (cond t (cond outside 7 0) n) 0 → (n ≡ 0) × (outside ≡ false)
      go true q z = (eqb-true n 0 q, inside outside z)
      go false q z = absurd (eqb-false n 0 q z)

-- ---- the making

-- the first `count` wishes are those of the first `count` numbers
pub made_take : (count : ℕ) (sorts values : List ℕ) → take count (wishes_made sorts values) ≡ wishes_given count sorts values
unfolding wishes_made
made_take zero sorts values = refl
made_take (suc n) [] values = refl
made_take (suc n) (s ∷ sorts) [] = refl
made_take (suc n) (s ∷ sorts) (v ∷ values) = ap (λ (ws : List Wish). made_wish (wish_made s v) ∷ ws) (made_take n sorts values)

pub given_take : (count : ℕ) (sorts values : List ℕ) → take count (wishes_given count sorts values) ≡ wishes_given count sorts values
given_take count sorts values =
    ap (take count) (sym (made_take count sorts values)) ∙ take-take count count (wishes_made sorts values) (le_refl count) ∙ made_take count sorts values

pub made_long : (count : ℕ) (sorts values : List ℕ) → count ≤ length sorts → count ≤ length values → count ≤ length (wishes_made sorts values)
unfolding wishes_made
made_long zero sorts values h k = omega arith
made_long (suc n) [] values h k = absurd (omega arith)
made_long (suc n) (s ∷ sorts) [] h k = absurd (omega arith)
made_long (suc n) (s ∷ sorts) (v ∷ values) h k = omega (arith, made_long n sorts values (omega arith) (omega arith))

pub made_at : (sorts values : List ℕ) (i : ℕ) → i < length sorts → i < length values
    → made_wish (wish_made (get_or sorts i 0) (get_or values i 0)) ≡ get_or (wishes_made sorts values) i Hold
unfolding wishes_made
made_at [] values i h k = absurd (omega arith)
made_at (s ∷ sorts) [] i h k = absurd (omega arith)
made_at (s ∷ sorts) (v ∷ values) zero h k = refl
made_at (s ∷ sorts) (v ∷ values) (suc i) h k = made_at sorts values i (omega arith) (omega arith)

-- where nothing is refused there are enough of both, and so of wishes
module _ (count : ℕ) (sorts values : List ℕ) (e : wishes_no count sorts values ≡ 0) where
  pub enough : (count ≤ length sorts) × (count ≤ length values)
  unfolding wishes_no
  enough =
      let t = neither (ltb (length sorts) count) (ltb (length values) count) (passed _ 11 _ e).0 in
      (ltb-false (length sorts) count t.0, ltb-false (length values) count t.1)

  pub enough_made : count ≤ length (wishes_made sorts values)
  enough_made = made_long count sorts values enough.0 enough.1
