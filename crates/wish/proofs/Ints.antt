-- Signed machine arithmetic at 64 bits. A signed local holds bits: `to_z w64` reads them, and `of_z w64` writes them. Assumes nothing.
use mathlib.Core.Path.{◌≡◌, sym, ap₂, ◌∙◌, subst}
use Prim.Native.Nat.{ℕ, zero, suc, ◌+◌, ◌-◌, ◌^◌, ◌≤◌, ◌<◌}
use native.Mathlib.Nat.{lt_of_lt_of_le}
use native.Mathlib.Omega.{arith}
use mathlib.Core.Bool.{Bool, true, false, cond}
use lib.Dec.{ltb, lit≤}
use lib.IntN.{ℤ, pos, negsuc, ◌-ℤ◌}
use lib.Signed.{mag}
use mir.Syntax.{w64}
use mir.Val.{SFits, to_z, of_z}
use mir.Facts.{to_z-of_z, to_z_pos}

mag_sub : (b : Bool) (m n : ℕ) → mag (cond b (negsuc (n - suc m)) (pos (m - n))) ≤ m + (n - 1)
mag_sub true m n = omega arith
mag_sub false m n = omega arith

-- how large a difference is
pub mag_minus : (z : ℤ) (n : ℕ) → mag (z -ℤ pos n) ≤ mag z + n
mag_minus (pos m) zero = omega arith
mag_minus (pos m) (suc n) = let h = mag_sub (ltb m (suc n)) m (suc n) in omega arith
mag_minus (negsuc m) zero = let h = mag_sub (ltb 0 (suc m)) 0 (suc m) in omega arith
mag_minus (negsuc m) (suc n) = omega arith

-- a `u32` as an `i64`
pub unsigned_read : {n : ℕ} → n < 2 ^ 32 → to_z w64 n ≡ pos n
unsigned_read h = to_z_pos w64 (lt_of_lt_of_le h (lit≤ tt))

-- the difference of two small numbers, of which the second is a natural one
module _ {a b : ℤ} (z : ℤ) (n : ℕ) (ea : a ≡ z) (eb : b ≡ pos n) (small : mag z < 2 ^ 62) (few : n < 2 ^ 32) where
  sum_is : a -ℤ b ≡ z -ℤ pos n
  sum_is = ap₂ (λ (x y : ℤ). x -ℤ y) ea eb

  plain : SFits w64 (z -ℤ pos n)
  plain = record { sfits = omega (arith, mag_minus z n) }

  minus_fits : SFits w64 (a -ℤ b)
  minus_fits = subst (SFits w64) (sym sum_is) plain

  pub minus_is : to_z w64 (of_z w64 (a -ℤ b)) ≡ z -ℤ pos n
  minus_is = to_z-of_z minus_fits ∙ sum_is
