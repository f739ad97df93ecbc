-- What is below with a length added is below without it.
use mathlib.Core.Path.{subst}
use Prim.Native.Nat.{ℕ, zero, suc}
use native.Mathlib.Omega.{arith}
use lib.Dec.{ltb→lt, lt→ltb}
use lib.IntN.{ℤ, pos, negsuc, suc_ℤ, ◌+ℤ◌, +ℤ_idr, +ℤ-suc_ℤ}
use lib.Signed.{◌<ℤ◌}

one_less : (x y : ℤ) → suc_ℤ x <ℤ y → x <ℤ y
one_less (pos a) (pos b) h = let k = ltb→lt (suc a) b h.lt in record { lt = lt→ltb a b (omega arith) }
one_less (pos a) (negsuc b) h = absurd h.lt
one_less (negsuc a) (pos b) h = record { lt = tt }
one_less (negsuc zero) (negsuc b) h = absurd h.lt
one_less (negsuc (suc a)) (negsuc b) h = let k = ltb→lt b a h.lt in record { lt = lt→ltb b (suc a) (omega arith) }

pub front_below : (x y : ℤ) (length : ℕ) → (x +ℤ pos length) <ℤ y → x <ℤ y
front_below x y zero h = rw (+ℤ_idr x) at h
front_below x y (suc m) h = front_below x y m (one_less (x +ℤ pos m) y (subst (λ (z : ℤ). z <ℤ y) (+ℤ-suc_ℤ x (pos m)) h))
