-- What a lookup gives, by the place of the first carrier with the number, and what its caller reads from it.
use mathlib.Core.Path.{◌≡◌, refl, sym, ap, ◌∙◌}
use mathlib.Core.Bool.{Bool, true, false, cond}
use mathlib.Core.List.{List}
use Prim.Native.Nat.{ℕ, ◌+◌, ◌≤◌, ◌<◌}
use native.Mathlib.Omega.{arith}
use borrow.Author.Tests.{lt-ltb, le-ltb, ltb-true}
use lib.ListN.{length, get_or}
use lib.Seq.{slice}
use Rattle.std.specs.Prelude.{Option, Some, None}
use Rattle.lane.specs.declared.Carrier.{Carrier}
use Rattle.lane.specs.declared.lookup.Lookup.{Lookup}
use Rattle.lane.specs.Safety.{any_of, first_place, numbered}
use Rattle.lane.specs.Lookup.{lookup}
use Rattle.lane.specs.Calls.{none}
use Rattle.lane.proofs.lists.Search.{place_past, place_found, place_on, place_any}

module _ (number : ℕ) (cs : List Carrier) where
  abbrev place : ℕ
  place = first_place (numbered number) cs

  -- the answer, by whether the number stands
  abbrev answer : Bool → Lookup
  answer t = cond t (record { found = Some place; looked = place + 1 }) (record { found = None; looked = length cs })

  pub lookup_found : place < length cs → lookup number cs ≡ record { found = Some place; looked = place + 1 }
  unfolding lookup
  lookup_found h = rw (sym (place_any (numbered number) cs) ∙ lt-ltb place (length cs) h) refl

  pub lookup_absent : length cs ≤ place → lookup number cs ≡ record { found = None; looked = length cs }
  unfolding lookup
  lookup_absent h = rw (sym (place_any (numbered number) cs) ∙ le-ltb place (length cs) h) refl

  -- a search that has looked at i records has not passed the place
  module _ (i : ℕ) (here : place ≡ i + first_place (numbered number) (slice i (length cs) cs)) where
    pub ends_found : i < length cs → numbered number (get_or cs i none) ≡ true → (n : ℕ) → n ≡ i + 1
        → record { found = Some i; looked = n } ≡ lookup number cs
    ends_found h e n k =
        let p : i ≡ place = place_found (numbered number) cs (length cs) i place here (get_or cs i none) refl h (omega arith) e in
        rw (k, p) (sym (lookup_found (omega (arith, h, p))))

    pub goes_on : i < length cs → numbered number (get_or cs i none) ≡ false → (n : ℕ) → n ≡ i + 1
        → place ≡ n + first_place (numbered number) (slice n (length cs) cs)
    goes_on h e n k = rw k (place_on (numbered number) cs (length cs) i place here (get_or cs i none) refl h (omega arith) e)

    pub ends_absent : i ≡ length cs → record { found = None; looked = i } ≡ lookup number cs
    ends_absent k =
        let p : i ≡ place = place_past (numbered number) cs (length cs) i place here (omega arith) in
        rw k (sym (lookup_absent (omega (arith, k, p))))

  -- a carrier's record no further back than the place is looked at, and none past the last carrier is
  pub looks_at : (i : ℕ) → i < length cs → i ≤ place → i < (lookup number cs).looked
  unfolding lookup
  looks_at i h k = by_test (any_of (numbered number) cs)
    where
      by_test : (t : Bool) → i < (answer t).looked
      by_test true = omega arith
      by_test false = h

  pub looked_few : (lookup number cs).looked ≤ length cs
  unfolding lookup
  looked_few = by_test (any_of (numbered number) cs) refl
    where
      by_test : (t : Bool) → any_of (numbered number) cs ≡ t → (answer t).looked ≤ length cs
      by_test true e = omega (arith, ltb-true place (length cs) (place_any (numbered number) cs ∙ e))
      by_test false e = omega arith

  -- what is found tells whether and where the number stands
  module _ (r : Lookup) (is : r ≡ lookup number cs) where
    given : (f : Option ℕ) → r.found ≡ f → (answer (any_of (numbered number) cs)).found ≡ f
    unfolding lookup
    given f e = ap (λ (x : Lookup). x.found) (sym is) ∙ e

    pub found_at : (p : ℕ) → r.found ≡ Some p → (any_of (numbered number) cs ≡ true) × (p ≡ place)
    found_at p e = by_test (any_of (numbered number) cs) (given (Some p) e)
      where
        by_test : (t : Bool) → (answer t).found ≡ Some p → (t ≡ true) × (p ≡ place)
        by_test true e = (refl, cc)
        by_test false e = absurd (cc)

    pub found_nowhere : r.found ≡ None → any_of (numbered number) cs ≡ false
    found_nowhere e = by_test (any_of (numbered number) cs) (given None e)
      where
        by_test : (t : Bool) → (answer t).found ≡ None → t ≡ false
        by_test true e = absurd (cc)
        by_test false e = refl
