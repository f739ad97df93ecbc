-- Integers that are natural numbers: a sum with an integer a that gives one, and its multiples.
use mathlib.Core.Path.{◌≡◌, sym, ap, ◌∙◌}
use Prim.Native.Nat.{ℕ, suc, ◌+◌, ◌*◌, ◌<◌}
use native.Mathlib.Nat.{add-mul}
use native.Mathlib.Omega.{arith}
use Rattle.std.proofs.lemmas.Int.{ints}
use lib.IntN.{ℤ, pos, negsuc, nat_abs, ◌+ℤ◌, ◌*ℤ◌}
use lib.Signed.{◌<ℤ◌}

-- x added to v and to u
pub more : (x v : ℕ) (a : ℤ) (u : ℕ) → pos v +ℤ a ≡ pos u → pos (x + v) +ℤ a ≡ pos (x + u)
more x v a u e = omega (arith, ints)

-- the m-fold of all three
pub times : (v : ℕ) (a : ℤ) (u m : ℕ) → pos v +ℤ a ≡ pos u → pos (v * m) +ℤ a *ℤ pos m ≡ pos (u * m)
times v (pos n) u m e = ap pos (sym (add-mul v n m) ∙ ap (λ (x : ℕ). x * m) (ap nat_abs e))
times v (negsuc n) u m e =
    let r : v ≡ u + suc n = omega (arith, ints) in
    let s : v * m ≡ u * m + suc n * m = ap (λ (x : ℕ). x * m) r ∙ add-mul u (suc n) m in
    omega (arith, ints)

pub lt_pos : {x y : ℕ} → x < y → pos x <ℤ pos y
lt_pos {x} {y} h = omega (arith, ints)
