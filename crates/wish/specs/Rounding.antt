-- Document 01, Wishes: "The float becomes units by rounding .. the exact value", and document 02, T-04: "Rounding is of the exact product". A finite float `fin s m e` is m * 2 ^ e, negative where s is true, and 2 ^ e is the fraction up e / down e.
use Prim.Native.Nat.{ℕ, suc, ◌+◌, ◌*◌, ◌/◌, ◌%◌, ◌≤◌, compare, Ordering}
use Rattle.std.specs.Prelude.{◌≡◌, Bool, true, false, ℤ, pos, neg_ℤ, ◌-ℤ◌, ◌*ℤ◌, nat_abs, Float}
use Rattle.std.specs.Float.{nan, inf, fin}
use Rattle.std.specs.Float.Ieee.{up, down}

-- ±n: negative where s is true
abbrev pub signed : Bool → ℕ → ℤ
signed false n = pos n
signed true n = neg_ℤ (pos n)

-- "to the nearest unit, and a value exactly halfway to the even one": the whole part w of a value, or the next, by how twice the rest compares with a unit
abbrev pub nearest_to : ℕ → Ordering → ℕ
nearest_to w Ordering.lt = w
nearest_to w Ordering.eq = w + w % 2
nearest_to w Ordering.gt = suc w

-- the size of the whole number to which ±n / d is rounded, for a d above 0
unfoldable pub rounded_size : ℕ → ℕ → ℕ
rounded_size n d = nearest_to (n / d) (compare (n % d * 2) d)

-- "Rounding is of the exact product" of k and x; 0 for not-a-number and the infinities, which lie in no range
unfoldable pub rounded_times : ℕ → Float → ℤ
unfolding rounded_size
rounded_times k nan = pos 0
rounded_times k (inf s) = pos 0
rounded_times k (fin s m e) = signed s (rounded_size (m * up e * k) (down e))

-- how far the whole number k lies from n / d, in parts of 1 / d
abbrev pub away : ℤ → ℤ → ℕ → ℕ
away k n d = nat_abs (k *ℤ pos d -ℤ n)

-- "to the nearest unit, and a value exactly halfway to the even one": no whole number is nearer to n / d than z, and z is even where another is as near
pub record NearestEven (z n : ℤ) (d : ℕ) : Type 0 where
  pub none_nearer : (k : ℤ) → away z n d ≤ away k n d
  pub halves_to_even : (k : ℤ) → (k ≡ z → ⊥) → away k n d ≡ away z n d → nat_abs z % 2 ≡ 0
