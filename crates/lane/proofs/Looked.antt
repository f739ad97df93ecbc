-- The number of records that a lookup says it looked at is the number on which its answer rests.
use mathlib.Core.Path.{◌≡◌, refl, sym, ap, ◌∙◌, subst}
use mathlib.Core.Bool.{Bool, true, false, cond, ◌||◌, false≢true}
use mathlib.Core.List.{List, [], ◌∷◌}
use Prim.Native.Nat.{ℕ, zero, suc, min, ◌+◌, ◌≤◌, ◌<◌}
use native.Mathlib.Nat.{zero-min, min-zero, suc-min-suc, min-eq_right, sub-add-min_cancel}
use native.Mathlib.Omega.{arith}
use borrow.Author.Tests.{eq-eqb, ne_eqb, ltb-true, ltb-false}
use lib.Dec.{ltb}
use Rattle.std.specs.Prelude.{Some}
use lib.ListN.{length, get_or, take, set, length-set}
use lib.Seq.{take_all, get_or-set_same}
use Rattle.lane.specs.declared.Carrier.{Carrier}
use Rattle.lane.specs.declared.lookup.Lookup.{Lookup}
use Rattle.lane.specs.Safety.{any_of, first_place, numbered}
use Rattle.lane.specs.Lookup.{lookup, RestsOn}
use Rattle.lane.specs.Calls.{none}
use Rattle.lane.proofs.lists.Lookups.{lookup_found, lookup_absent, found_at}

module _ (f : Carrier → Bool) where
  -- one that passes, put in no later than the first, is then the first
  put_first : (d : Carrier) → f d ≡ true → (cs : List Carrier) (p : ℕ) → p < length cs → p ≤ first_place f cs → first_place f (set cs p d) ≡ p
  unfolding first_place
  put_first d e [] p h k = absurd (omega arith)
  put_first d e (c ∷ cs) zero h k = rw e refl
  put_first d e (c ∷ cs) (suc p) h k = by_test (f c) k (put_first d e cs p (omega arith))
    where
      by_test : (t : Bool) → suc p ≤ cond t 0 (suc (first_place f cs)) → (p ≤ first_place f cs → first_place f (set cs p d) ≡ p)
          → cond t 0 (suc (first_place f (set cs p d))) ≡ suc p
      by_test true k h = absurd (omega arith)
      by_test false k h = ap suc (h (omega arith))

  -- the first that passes does pass
  first_passes : (cs : List Carrier) → any_of f cs ≡ true → f (get_or cs (first_place f cs) none) ≡ true
  unfolding first_place any_of
  first_passes [] e = absurd (false≢true e)
  first_passes (c ∷ cs) e = by_test (f c) refl e (first_passes cs)
    where
      by_test : (t : Bool) → f c ≡ t → t || any_of f cs ≡ true → (any_of f cs ≡ true → f (get_or cs (first_place f cs) none) ≡ true)
          → f (get_or (c ∷ cs) (cond t 0 (suc (first_place f cs))) none) ≡ true
      by_test true q e h = q
      by_test false q e h = h e

  -- of the first so many it is the first too, unless it stands past them
  first_taken : (n : ℕ) (cs : List Carrier) → first_place f (take n cs) ≡ min n (first_place f cs)
  unfolding first_place
  first_taken zero cs = sym (zero-min _)
  first_taken (suc n) [] = sym (min-zero (suc n))
  first_taken (suc n) (c ∷ cs) = by_test (f c) (first_taken n cs)
    where
      by_test : (t : Bool) → first_place f (take n cs) ≡ min n (first_place f cs)
          → cond t 0 (suc (first_place f (take n cs))) ≡ min (suc n) (cond t 0 (suc (first_place f cs)))
      by_test true e = sym (min-zero (suc n))
      by_test false e = ap suc e ∙ sym (suc-min-suc n _)

module _ (number : ℕ) (cs : List Carrier) where
  abbrev place : ℕ
  place = first_place (numbered number) cs

  -- a carrier with the number, and one with another
  abbrev namesake : Carrier
  namesake = record { number = number; position = 0; speed = 0; length = 0; rate = 0 }

  abbrev stranger : Carrier
  stranger = record { number = suc number; position = 0; speed = 0; length = 0; rate = 0 }

  abbrev Differs : ℕ → Carrier → Type 0
  Differs p c = ¬ ((lookup number (set cs p c)).found ≡ (lookup number cs).found)

  -- the number might stand before its place, or at any place where it stands nowhere
  earlier_else : (p : ℕ) → p < length cs → p < place → Differs p namesake
  earlier_else p h k e =
      let there = put_first (numbered number) namesake (eq-eqb number number refl) cs p h (omega arith) in
      let new = ap (λ (r : Lookup). r.found) (lookup_found number (set cs p namesake) (omega (arith, there, length-set cs p namesake))) ∙ ap Some there in
      omega (arith, k, (found_at number cs _ refl p (sym e ∙ new)).1)

  -- and another number at its own
  found_elsewhere : place < length cs → Differs place stranger
  found_elsewhere h e =
      let still = found_at number (set cs place stranger) _ refl place (e ∙ ap (λ (r : Lookup). r.found) (lookup_found number cs h)) in
      let passes = first_passes (numbered number) (set cs place stranger) still.0 in
      let here : get_or (set cs place stranger) (first_place (numbered number) (set cs place stranger)) none ≡ stranger = rw (← still.1) (get_or-set_same cs place stranger none h) in
      false≢true (sym (ne_eqb (suc number) number (λ e. omega arith)) ∙ (rw here at passes))

  found_else : place < length cs → (p : ℕ) → p ≤ place → (c : Carrier) × Differs p c
  found_else h p k = by_test (ltb p place) refl
    where
      by_test : (t : Bool) → ltb p place ≡ t → (c : Carrier) × Differs p c
      by_test true e = (namesake, earlier_else p (omega arith) (ltb-true p place e))
      by_test false e =
          let here : place ≡ p = omega (arith, k, ltb-false p place e) in
          (stranger, subst (λ (q : ℕ). Differs q stranger) here (found_elsewhere h))

  -- as many other carriers, of whom so many are the same
  module _ (n : ℕ) (ds : List Carrier) (long : length ds ≡ length cs) (same : take n ds ≡ take n cs) where
    found_alike : place < length cs → place < n → lookup number ds ≡ lookup number cs
    found_alike h k =
        let taken = sym (first_taken (numbered number) n ds) ∙ ap (first_place (numbered number)) same ∙ first_taken (numbered number) n cs ∙ min-eq_right (omega arith) in
        let at : first_place (numbered number) ds ≡ place = omega (arith, taken, sub-add-min_cancel n (first_place (numbered number) ds), k) in
        lookup_found number ds (omega (arith, at, h, long)) ∙ rw at (sym (lookup_found number cs h))

    absent_alike : length cs ≤ n → lookup number ds ≡ lookup number cs
    absent_alike k = ap (lookup number) (sym (take_all n ds (omega (arith, long, k))) ∙ same ∙ take_all n cs k)

pub looked_exact : (number : ℕ) (cs : List Carrier) → RestsOn number cs (lookup number cs).looked
looked_exact number cs = by_test (ltb (place number cs) (length cs)) refl
  where
    by_test : (t : Bool) → ltb (place number cs) (length cs) ≡ t → RestsOn number cs (lookup number cs).looked
    by_test true e =
        let stands = ltb-true (place number cs) (length cs) e in
        let looked : (lookup number cs).looked ≡ place number cs + 1 = ap (λ (r : Lookup). r.looked) (lookup_found number cs stands) in
        record {
          each = λ p h. found_else number cs stands p (omega (arith, h, looked));
          others = λ ds long same. found_alike number cs (lookup number cs).looked ds long same stands (omega (arith, looked));
        }
    by_test false e =
        let nowhere = ltb-false (place number cs) (length cs) e in
        let looked : (lookup number cs).looked ≡ length cs = ap (λ (r : Lookup). r.looked) (lookup_absent number cs nowhere) in
        record {
          each = λ p h. (namesake number cs, earlier_else number cs p (omega (arith, h, looked)) (omega (arith, h, looked, nowhere)));
          others = λ ds long same. absent_alike number cs (lookup number cs).looked ds long same (omega (arith, looked));
        }
