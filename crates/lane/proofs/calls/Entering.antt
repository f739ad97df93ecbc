-- One carrier put into a list: what neither it nor another breaks is broken by none.
use mathlib.Core.Path.{◌≡◌, refl, sym}
use mathlib.Core.Bool.{Bool, false}
use mathlib.Core.List.{List, [], ◌∷◌}
use Prim.Native.Nat.{ℕ, zero, suc}
use native.Mathlib.Omega.{arith}
use borrow.Author.Tests.{eqb-false, ne_eqb}
use lib.Dec.{eqb}
use lib.ListN.{length, length-append, length-take, length-drop}
use Rattle.lane.specs.declared.Carrier.{Carrier}
use Rattle.lane.specs.Safety.{any_of, numbered, repeats}
use Rattle.lane.specs.Calls.{insert_at}
use Rattle.lane.proofs.lists.Tests.{neither}

module _ (c : Carrier) where
  pub insert_length : (place : ℕ) (cs : List Carrier) → length (insert_at place c cs) ≡ suc (length cs)
  insert_length place cs = simp (length-append, length-take, length-drop) (omega arith)

  pub insert_any : (f : Carrier → Bool) → f c ≡ false → (place : ℕ) (cs : List Carrier) → any_of f cs ≡ false → any_of f (insert_at place c cs) ≡ false
  unfolding any_of
  insert_any f h zero cs e = rw h e
  insert_any f h (suc place) [] e = rw h e
  insert_any f h (suc place) (d ∷ cs) e =
      let others = neither (f d) (any_of f cs) e in
      rw others.0 (insert_any f h place cs others.1)

  pub insert_repeats : (place : ℕ) (cs : List Carrier) → any_of (numbered c.number) cs ≡ false → repeats cs ≡ false → repeats (insert_at place c cs) ≡ false
  unfolding repeats any_of
  insert_repeats zero cs h e = rw h e
  insert_repeats (suc place) [] h e = refl
  insert_repeats (suc place) (d ∷ cs) h e =
      let others = neither (any_of (numbered d.number) cs) (repeats cs) e in
      let differs = neither (eqb d.number c.number) (any_of (numbered c.number) cs) h in
      let differ : eqb c.number d.number ≡ false = ne_eqb c.number d.number (λ p. eqb-false d.number c.number differs.0 (sym p)) in
      rw (insert_any (numbered d.number) differ place cs others.0) (insert_repeats place cs differs.1 others.1)
