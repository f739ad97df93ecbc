-- Tests over all carriers: one that none passes is passed by none at any place; two tests in one pass. And a test of a difference.
use mathlib.Core.Path.{◌≡◌, refl, sym, ap, ◌∙◌}
use mathlib.Core.Bool.{Bool, true, false, ◌||◌, false≢true}
use mathlib.Core.List.{List, [], ◌∷◌}
use mathlib.Core.Logic.{by_cases}
use Prim.Native.Nat.{ℕ, zero, suc, ◌+◌, ◌-◌, ◌≤◌, ◌<◌}
use native.Mathlib.Decide.{dec_le}
use native.Mathlib.Omega.{arith}
use borrow.Author.Tests.{le-leb, lt-leb}
use lib.Dec.{leb, ltb}
use lib.ListN.{length, get_or, take}
use lib.Seq.{get_or-take, length-take-le}
use Rattle.lane.specs.declared.Carrier.{Carrier}
use Rattle.lane.specs.Safety.{any_of}

pub neither : (s t : Bool) → s || t ≡ false → (s ≡ false) × (t ≡ false)
neither true t e = (e, absurd (false≢true (sym e)))
neither false t e = (refl, e)

pub none_at : (f : Carrier → Bool) (l : List Carrier) (i : ℕ) (d : Carrier) → any_of f l ≡ false → i < length l → f (get_or l i d) ≡ false
unfolding any_of
none_at f [] i d e h = absurd (omega arith)
none_at f (c ∷ l) zero d e h = (neither (f c) (any_of f l) e).0
none_at f (c ∷ l) (suc i) d e h = none_at f l i d (neither (f c) (any_of f l) e).1 (omega arith)

-- the same of the first `count` records
pub none_of : (f : Carrier → Bool) (l : List Carrier) (count i : ℕ) (d : Carrier) → any_of f (take count l) ≡ false → i < count → count ≤ length l
    → f (get_or l i d) ≡ false
none_of f l count i d e h k =
    ap f (sym (get_or-take count l i d h)) ∙ none_at f (take count l) i d e (omega (arith, length-take-le count l k))

-- one pass with two tests is two passes
pub any_or : (f g : Carrier → Bool) (l : List Carrier) → any_of (λ c. f c || g c) l ≡ any_of f l || any_of g l
unfolding any_of
any_or f g [] = refl
any_or f g (c ∷ l) = ap (λ (t : Bool). f c || g c || t) (any_or f g l) ∙ crossed (f c) (g c) (any_of f l) (any_of g l)
  where
    crossed : (a b x y : Bool) → a || b || (x || y) ≡ (a || x) || (b || y)
    crossed true b x y = refl
    crossed false true true y = refl
    crossed false true false y = refl
    crossed false false x y = refl

-- ---- a test of a difference is one of a sum
pub less_leb : (x y m : ℕ) → m ≤ y → leb x (y - m) ≡ leb (x + m) y
less_leb x y m h =
    by_cases (dec_le x (y - m))
    (λ k. le-leb x (y - m) k ∙ sym (le-leb (x + m) y (omega arith)))
    (λ k. lt-leb x (y - m) (omega arith) ∙ sym (lt-leb (x + m) y (omega arith)))

pub less_ltb : (x y m : ℕ) → m ≤ y → ltb x (y - m) ≡ ltb (x + m) y
less_ltb x y m h = less_leb (suc x) y m h ∙ ap (λ (n : ℕ). leb n y) (next x m)
  where
    next : (x m : ℕ) → suc x + m ≡ suc (x + m)
    next x m = omega arith

-- no carrier passes a test that each fails
pub none_pass : (f : Carrier → Bool) (cs : List Carrier) (d : Carrier) → ((i : ℕ) → i < length cs → f (get_or cs i d) ≡ false) → any_of f cs ≡ false
unfolding any_of
none_pass f [] d h = refl
none_pass f (c ∷ cs) d h = rw (h 0 (omega arith), none_pass f cs d (λ i p. h (suc i) (omega arith))) refl
