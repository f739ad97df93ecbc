-- The exact values of floats: `HasValue x s a c` says that x is finite, has the sign s and is a / c in size. What a range says of a value's size, and how a value is rounded. Assumes nothing.
use mathlib.Core.Path.{◌≡◌, refl, sym, ap, ap₂, ◌∙◌, subst}
use mathlib.Core.Logic.{inl, inr, by_cases}
use Prim.Native.Nat.{ℕ, zero, suc, ◌+◌, ◌*◌, ◌^◌, ◌≤◌, ◌<◌}
use native.Mathlib.Nat.{le_trans, le_of_eq, le_of_lt, le_of_suc-le-suc, lt_of_lt_of_le, lt_of_not-le, lt_irrefl, eq-or-lt_of_le, mul-one, one-mul, mul_right_comm, mul-le-mul_right, le_of_mul-le-mul_right, eq_of_mul-eq-mul_right, mul-pos, zero-lt-suc}
use native.Mathlib.Decide.{dec_le, ℕ_discrete}
use native.Mathlib.Omega.{arith}
use mathlib.Core.Bool.{Bool, true, false, not, ◌&&◌, ◌||◌}
use borrow.Author.Tests.{lt-ltb, eq-eqb, ne_eqb, le-leb, lt-leb}
use lib.IntN.{ℤ, pos}
use lib.Signed.{mag}
use lib.Dec.{T, leb, ltb, eqb, ltb→lt, eqb→eq}
use lib.Pow.{pow_pos, pow-lt}
use lib.Ieee.{Float, nan, inf, fin, up, down, le, below, level, is_nan}
use lib.Ieee.Fits.{down_pos, and_l, and_r}
use lib.Ieee.Exact.{HasValue}
use Rattle.wish.specs.Rounding.{signed, rounded_size, rounded_times}
use Rattle.wish.specs.Units.{lies_within}
use Rattle.wish.proofs.Rounding.{rounded_same, rounded_le}

-- a test that passed
pub holds : {b : Bool} → b ≡ true → T b
holds e = subst T (sym e) tt

pub pow_le_back : (a l : ℕ) → 2 ^ a ≤ 2 ^ l → a ≤ l
pow_le_back a l h = le_of_suc-le-suc (lt_of_not-le (λ (g : suc l ≤ a). lt_irrefl (2 ^ l) (lt_of_lt_of_le (pow-lt g) h)))

-- x is finite and at most b in size
abbrev pub AtMost : ℕ → Float → Type 0
AtMost b nan = ⊥
AtMost b (inf s) = ⊥
AtMost b (fin s m e) = m * up e ≤ b * down e

-- ---- one value as several fractions
pub rescale : (x : Float) (s : Bool) (a c b d : ℕ) → 0 < c → b * c ≡ a * d → HasValue x s a c → HasValue x s b d
rescale nan s a c b d p h v = v
rescale (inf t) s a c b d p h v = v
rescale (fin t m e) s a c b d p h v = (
  v.0,
  eq_of_mul-eq-mul_right c p (m * up e * d) (b * down e)
      (mul_right_comm (m * up e) d c
      ∙ ap (λ (x : ℕ). x * d) v.1
      ∙ mul_right_comm a (down e) d
      ∙ ap (λ (x : ℕ). x * down e) (sym h)
      ∙ mul_right_comm b c (down e)),
)

pub value_at_most : (n : ℕ) (y : Float) (s : Bool) (a c : ℕ) → HasValue y s a c → AtMost n y → a ≤ n * c
value_at_most n nan s a c v h = absurd v
value_at_most n (inf t) s a c v h = absurd v
value_at_most n (fin t m e) s a c v h =
    le_of_mul-le-mul_right
    (le_trans (le_of_eq (sym v.1)) (le_trans (mul-le-mul_right c h) (le_of_eq (mul_right_comm n (down e) c))))
    (down_pos e)

pub at_most_of_value : (n : ℕ) (y : Float) (s : Bool) (a c : ℕ) → 0 < c → HasValue y s a c → a ≤ n * c → AtMost n y
at_most_of_value n nan s a c C v h = v
at_most_of_value n (inf t) s a c C v h = v
at_most_of_value n (fin t m e) s a c C v h =
    le_of_mul-le-mul_right
    (le_trans (le_of_eq v.1) (le_trans (mul-le-mul_right (down e) h) (le_of_eq (mul_right_comm n c (down e)))))
    C

pub no_nan : (n : ℕ) (y : Float) → AtMost n y → T (not (is_nan y))
unfolding is_nan
no_nan n nan h = absurd h
no_nan n (inf s) h = tt
no_nan n (fin s m e) h = tt

-- ---- ranges
strict_or : (a b : ℕ) (e : Bool) → (T e → a ≤ b) → T (ltb a b || e) → a ≤ b
strict_or a b e h t = go (ltb a b) (ltb→lt a b) t
  where
    go : (l : Bool) → (T l → a < b) → T (l || e) → a ≤ b
    go true k u = le_of_lt (k tt)
    go false k u = h u

-- a negative number not below ±a is no larger than a, and one not below 0 is 0
from_low : (s : Bool) (a b : ℕ) → T (below s a true b || level s a true b) → b ≤ a
from_low true a b t = strict_or b a (level true a true b) (λ (u : T (level true a true b)). le_of_eq (sym (eqb→eq a b (and_l (eqb a b) true u)))) t
from_low false a b t = le_of_eq (sym (eqb→eq a b (and_l (eqb a b) (eqb a 0) t)))

to_high : (a b : ℕ) → T (below false a false b || level false a false b) → a ≤ b
to_high a b t = strict_or a b (level false a false b) (λ (u : T (level false a false b)). le_of_eq (eqb→eq a b (and_l (eqb a b) true u))) t

-- a float from ±a * 2 ^ i to 2 ^ k, where the lower end is no larger in size than the upper
between : (s : Bool) (a i k : ℕ) → a * 2 ^ i ≤ 2 ^ k → (x : Float) → T (le (fin s a (pos i)) x) → T (le x (fin false 1 (pos k))) → AtMost (2 ^ k) x
unfolding le
between s a i k low nan l h = absurd l
between s a i k low (inf true) l h = absurd l
between s a i k low (inf false) l h = absurd h
between s a i k low (fin true m e) l h =
    le_trans (le_of_eq (sym (mul-one (m * up e)))) (le_trans (from_low s (a * 2 ^ i * down e) (m * up e * 1) l) (mul-le-mul_right (down e) low))
between s a i k low (fin false m e) l h =
    le_trans (le_of_eq (sym (mul-one (m * up e))))
    (le_trans (to_high (m * up e * 1) (1 * 2 ^ k * down e) h) (le_of_eq (ap (λ (y : ℕ). y * down e) (one-mul (2 ^ k)))))

pub range : (s : Bool) (a i k : ℕ) → a * 2 ^ i ≤ 2 ^ k → (x : Float) → lies_within (fin s a (pos i)) (fin false 1 (pos k)) x ≡ true → AtMost (2 ^ k) x
unfolding lies_within
range s a i k low x e =
    let l = le (fin s a (pos i)) x in
    let h = le x (fin false 1 (pos k)) in
    let both : T (l && h) = holds e in
    between s a i k low x (and_l l h both) (and_r l h both)

-- a test that passes for what is at most b, and for nothing else
by_size : (a b : ℕ) (t : Bool) → (a ≤ b → t ≡ true) → (t ≡ true → a ≤ b) → t ≡ leb a b
by_size a b t h k = by_cases (dec_le a b) (λ (l : a ≤ b). h l ∙ sym (le-leb a b l)) (λ (n : a ≤ b → ⊥). go t refl n)
  where
    go : (u : Bool) → t ≡ u → (a ≤ b → ⊥) → t ≡ leb a b
    go true e n = absurd (n (k e))
    go false e n = e ∙ sym (lt-leb a b (lt_of_not-le n))

-- and back, for the range from -2 ^ k to 2 ^ k
or_right : (a b : Bool) → b ≡ true → a || b ≡ true
or_right true b e = refl
or_right false b e = e

le_or : (a b : ℕ) (e : Bool) → a ≤ b → (a ≡ b → e ≡ true) → ltb a b || e ≡ true
le_or a b e h k = elim (eq-or-lt_of_le h) [ inl p ↦ or_right (ltb a b) e (k p) | inr q ↦ ap (λ (l : Bool). l || e) (lt-ltb a b q) ]

both_ends : (s : Bool) (a b : ℕ) → 0 < a → b ≤ a → (below true a s b || level true a s b) && (below s b false a || level s b false a) ≡ true
both_ends true a b A h =
    ap₂ (λ (x y : Bool). x && y)
    (le_or b a (eqb a b && true) h (λ (p : b ≡ a). ap (λ (x : Bool). x && true) (eq-eqb a b (sym p))))
    (ap (λ (x : Bool). x || level true b false a) (lt-ltb 0 (b + a) (omega arith)))
both_ends false a b A h =
    ap₂ (λ (x y : Bool). x && y)
    (ap (λ (x : Bool). x || level true a false b) (lt-ltb 0 (a + b) (omega arith)))
    (le_or b a (eqb b a && true) h (λ (p : b ≡ a). ap (λ (x : Bool). x && true) (eq-eqb b a p)))

pub in_range : (k : ℕ) (x : Float) → AtMost (2 ^ k) x → lies_within (fin true 1 (pos k)) (fin false 1 (pos k)) x ≡ true
unfolding lies_within le
in_range k nan h = absurd h
in_range k (inf s) h = absurd h
in_range k (fin s m e) h =
    both_ends s (1 * 2 ^ k * down e) (m * up e * 1)
    (mul-pos (mul-pos (zero-lt-suc 0) (pow_pos k)) (down_pos e))
    (le_trans (le_of_eq (mul-one (m * up e))) (le_trans h (le_of_eq (ap (λ (y : ℕ). y * down e) (sym (one-mul (2 ^ k)))))))

-- so the range from -2 ^ k to 2 ^ k is a bound on the size,
pub within_size : (k : ℕ) (s : Bool) (m : ℕ) (e : ℤ) → lies_within (fin true 1 (pos k)) (fin false 1 (pos k)) (fin s m e) ≡ leb (m * up e) (2 ^ k * down e)
within_size k s m e = by_size (m * up e) (2 ^ k * down e) _ (in_range k (fin s m e)) (range true 1 k k (le_of_eq (one-mul (2 ^ k))) (fin s m e))

negative_from_0 : (a x h b : ℕ) → a ≡ 0 → 0 < h
    → (below false a true x || level false a true x) && (below true x false h || level true x false h) ≡ eqb x 0 && leb x b
negative_from_0 a x h b e H =
    by_cases (ℕ_discrete x 0)
    (λ (z : x ≡ 0). rw (e, z, lt-ltb 0 (0 + h) (omega arith), le-leb 0 b (omega arith)) refl)
    (λ (n : x ≡ 0 → ⊥). rw (e, ne_eqb 0 x (λ p. n (sym p)), ne_eqb x 0 n) refl)

-- and so is that from 0 to 2 ^ k, but for negative numbers, of which -0 alone lies in it
pub within_size_from_0 : (k : ℕ) (s : Bool) (m : ℕ) (e : ℤ)
    → lies_within (fin false 0 (pos 0)) (fin false 1 (pos k)) (fin s m e) ≡ (not s || eqb (m * up e) 0) && leb (m * up e) (2 ^ k * down e)
unfolding lies_within le
within_size_from_0 k false m e =
    by_size (m * up e) (2 ^ k * down e) _
    (λ (h : m * up e ≤ 2 ^ k * down e).
    ap₂ (λ (x y : Bool). x && y)
    (le_or (0 * 2 ^ 0 * down e) (m * up e * 1) _ (omega arith) (λ p. ap (λ (x : Bool). x && true) (eq-eqb _ _ p)))
    (le_or (m * up e * 1) (1 * 2 ^ k * down e) _ (omega arith) (λ p. ap (λ (x : Bool). x && true) (eq-eqb _ _ p))))
    (range false 0 0 k (omega arith) (fin false m e))
within_size_from_0 k true m e =
    negative_from_0 (0 * 2 ^ 0 * down e) (m * up e * 1) (1 * 2 ^ k * down e) (2 ^ k * down e) (omega arith)
    (mul-pos (mul-pos (zero-lt-suc 0) (pow_pos k)) (down_pos e))
    ∙ ap (λ (x : ℕ). eqb x 0 && leb x (2 ^ k * down e)) (mul-one (m * up e))

-- ---- rounding a value
-- k times a float that equals ±a / c, rounded
pub rounded_value : (k : ℕ) (x : Float) (s : Bool) (a c : ℕ) → 0 < c → HasValue x s a c → rounded_times k x ≡ signed s (rounded_size (a * k) c)
unfolding rounded_times
rounded_value k nan s a c C v = absurd v
rounded_value k (inf t) s a c C v = absurd v
rounded_value k (fin t m e) s a c C v =
    ap (λ (u : Bool). signed u (rounded_size (m * up e * k) (down e))) v.0
    ∙ ap (signed s) (rounded_same (m * up e * k) (down e) (a * k) c (down_pos e) C
    (mul_right_comm (m * up e) k c ∙ ap (λ (x : ℕ). x * k) v.1 ∙ mul_right_comm a (down e) k))

mag_signed : (s : Bool) (n b : ℕ) → n ≤ b → mag (signed s n) ≤ b
mag_signed false n b h = h
mag_signed true zero b h = h
mag_signed true (suc n) b h = omega arith

-- how large it is
pub rounded_at_most : (b k : ℕ) (x : Float) → AtMost b x → mag (rounded_times k x) ≤ b * k
unfolding rounded_times
rounded_at_most b k nan h = absurd h
rounded_at_most b k (inf s) h = absurd h
rounded_at_most b k (fin s m e) h =
    mag_signed s (rounded_size (m * up e * k) (down e)) (b * k)
    (rounded_le (m * up e * k) (down e) (down_pos e) (b * k) (le_trans (mul-le-mul_right k h) (le_of_eq (mul_right_comm b (down e) k))))
