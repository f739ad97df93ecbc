-- Document 01, "Call texts": numbers as text, in ASCII.
use Rattle.std.specs.Prelude.{ℕ, zero, suc, ◌+◌, ◌-◌, ◌/◌, ◌%◌, max, cond, List, [], ◌∷◌, ◌++◌, ltb}
use Prim.Native.Char.{code}

-- "upper-case hexadecimal digits": a digit below 16 is `0` to `9`, then `A` to `F`
unfoldable pub digit : ℕ → ℕ
digit d = cond (ltb d 10) (code "0" + d) (code "A" + (d - 10))

-- the last k digits of n in the base b, the most significant first
unfoldable pub digits : ℕ → ℕ → ℕ → List ℕ
digits b zero n = []
digits b (suc k) n = digits b k (n / b) ++ (digit (n % b) ∷ [])

-- "without leading zeros": how many significant digits n has, none for 0, else one more than n / 10. The first number only
-- makes the recursion end: n is enough of it, since n / 10 is below n.
unfoldable pub significant : ℕ → ℕ → ℕ
significant zero n = 0
significant (suc m) zero = 0
significant (suc m) (suc n) = suc (significant m (suc n / 10))

-- "Numbers are decimal, without leading zeros", and 0 is `0`
unfoldable pub decimal : ℕ → List ℕ
decimal n = digits 10 (max 1 (significant n n)) n

-- "word in 16 upper-case hexadecimal digits", here in k
unfoldable pub hexadecimal : ℕ → ℕ → List ℕ
hexadecimal k n = digits 16 k n
