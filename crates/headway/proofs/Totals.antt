-- The outcomes of `specs/Totals.antt` for the numbers of the document: rates of at least 1, and accelerations that lead to a speed.
use mathlib.Core.Path.{◌≡◌}
use mathlib.Core.Bool.{true}
use Prim.Native.Nat.{ℕ, ◌+◌, ◌^◌, ◌<◌, ◌≤◌}
use native.Mathlib.Omega.{arith}
use Rattle.std.proofs.lemmas.Bool.Decides.{nat_tests}
use Rattle.std.proofs.lemmas.Int.{ints}
use lib.IntN.{ℤ, pos, ◌+ℤ◌}
use Rattle.headway.specs.Stopping.{stopping_distance}
use Rattle.headway.specs.Totals.{rest_of, is_speed, rated}

pub two_rates : (b B : ℕ) → 1 ≤ b → 1 ≤ B → rated b B ≡ true
unfolding rated
two_rates b B h k = grind (arith, nat_tests)

pub rest_is : (c p v : ℕ) → 1 ≤ c → p + stopping_distance c v ≡ rest_of c p v
unfolding rest_of
rest_is c p v h = grind (arith, nat_tests)

pub is_speed_is : (v : ℕ) (a : ℤ) (u : ℕ) → pos v +ℤ a ≡ pos u → u < 2 ^ 32 → is_speed v a ≡ true
unfolding is_speed
is_speed_is v a u e h = grind (arith, ints)
