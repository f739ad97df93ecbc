-- Carriers left out of a list: what no carrier breaks is broken by none of those that stay.
use mathlib.Core.Path.{◌≡◌, refl}
use mathlib.Core.Bool.{Bool, true, false, cond}
use mathlib.Core.List.{List, [], ◌∷◌}
use Prim.Native.Nat.{ℕ, zero, suc, ◌≤◌}
use native.Mathlib.Omega.{arith}
use lib.ListN.{length}
use Rattle.lane.specs.declared.Carrier.{Carrier}
use Rattle.lane.specs.declared.Road.{Road}
use Rattle.lane.specs.Safety.{any_of, numbered, repeats}
use Rattle.lane.specs.Rules.{past_end}
use Rattle.lane.specs.Wishes.{remaining}
use Rattle.lane.specs.Calls.{remove_at}
use Rattle.lane.proofs.lists.Tests.{neither}

-- the first list is the second with some carriers left out
pub data Thinned : List Carrier → List Carrier → Type 0 where
  nobody_left : Thinned [] []
  stays : {c : Carrier} {ds cs : List Carrier} → Thinned ds cs → Thinned (c ∷ ds) (c ∷ cs)
  goes : {c : Carrier} {ds cs : List Carrier} → Thinned ds cs → Thinned ds (c ∷ cs)

pub all_stay : (cs : List Carrier) → Thinned cs cs
all_stay [] = nobody_left
all_stay (c ∷ cs) = stays (all_stay cs)

pub removed_thins : (place : ℕ) (cs : List Carrier) → Thinned (remove_at place cs) cs
removed_thins zero [] = nobody_left
removed_thins (suc place) [] = nobody_left
removed_thins zero (c ∷ cs) = goes (all_stay cs)
removed_thins (suc place) (c ∷ cs) = stays (removed_thins place cs)

pub remaining_thins : (road : Road) (cs : List Carrier) → Thinned (remaining road cs) cs
unfolding remaining
remaining_thins road [] = nobody_left
remaining_thins road (c ∷ cs) = by_test (past_end road c) (remaining_thins road cs)
  where
    by_test : (t : Bool) → Thinned (remaining road cs) cs → Thinned (cond t (remaining road cs) (c ∷ remaining road cs)) (c ∷ cs)
    by_test true l = goes l
    by_test false l = stays l

pub thinned_length : {ds cs : List Carrier} → Thinned ds cs → length ds ≤ length cs
thinned_length nobody_left = omega arith
thinned_length (stays l) = omega (arith, thinned_length l)
thinned_length (goes l) = omega (arith, thinned_length l)

pub thinned_any : (f : Carrier → Bool) {ds cs : List Carrier} → Thinned ds cs → any_of f cs ≡ false → any_of f ds ≡ false
unfolding any_of
thinned_any f nobody_left e = e
thinned_any f (stays {c = c} {cs = cs} l) e =
    let h = neither (f c) (any_of f cs) e in
    rw h.0 (thinned_any f l h.1)
thinned_any f (goes {c = c} {cs = cs} l) e = thinned_any f l (neither (f c) (any_of f cs) e).1

pub thinned_repeats : {ds cs : List Carrier} → Thinned ds cs → repeats cs ≡ false → repeats ds ≡ false
unfolding repeats
thinned_repeats nobody_left e = e
thinned_repeats (stays {c = c} {cs = cs} l) e =
    let h = neither (any_of (numbered c.number) cs) (repeats cs) e in
    rw (thinned_any (numbered c.number) l h.0) (thinned_repeats l h.1)
thinned_repeats (goes {c = c} {cs = cs} l) e = thinned_repeats l (neither (any_of (numbered c.number) cs) (repeats cs) e).1

-- whoever remains is before the end
pub remaining_before : (road : Road) (cs : List Carrier) → any_of (past_end road) (remaining road cs) ≡ false
unfolding remaining any_of
remaining_before road [] = refl
remaining_before road (c ∷ cs) = by_test (past_end road c) refl (remaining_before road cs)
  where
    by_test : (t : Bool) → past_end road c ≡ t → any_of (past_end road) (remaining road cs) ≡ false
        → any_of (past_end road) (cond t (remaining road cs) (c ∷ remaining road cs)) ≡ false
    by_test true e h = h
    by_test false e h = rw e h
