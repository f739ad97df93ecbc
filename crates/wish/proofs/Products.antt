-- The product of a float and a power of two is exact where it does not overflow: so the product of a float in its range is rounded as the exact product is. Assumes nothing.
use mathlib.Core.Path.{◌≡◌, refl, sym, ap, ◌∙◌, subst}
use Prim.Native.Nat.{ℕ, zero, suc, ◌+◌, ◌-◌, ◌*◌, ◌%◌, ◌^◌, ◌≤◌, ◌<◌}
use native.Mathlib.Nat.{le_refl, le_trans, le_of_eq, lt_of_le_of_lt, mul-one, one-mul, mul_comm, mul_assoc, mul_right_comm, mul-le-mul_right, mul-lt-mul_of_pos_right, lt_of_mul-lt-mul_right}
use mathlib.Core.Bool.{Bool, true, false, ◌&&◌, cond}
use lib.IntN.{ℤ, pos, negsuc}
use lib.Dec.{T, leb, ltb, eqb, leb→le, ltb→lt, eqb→eq, lit<}
use lib.Pow.{pow-add, pow_pos}
use lib.Ieee.{Float, nan, inf, fin, Format, binary32, prec, emax, low, up, down, round, mul, fits, unlike}
use lib.Ieee.Digits.{back}
use lib.Ieee.Fits.{down_pos, and_l, and_r}
use lib.Ieee.Exact.{HasValue, round_exact}
use Rattle.wish.specs.Rounding.{signed, rounded_size, rounded_times}
use Rattle.wish.specs.Units.{lies_within, units_within}
use Rattle.std.proofs.Common.{Some, None}
use Rattle.wish.proofs.Values.{pow_le_back, AtMost, at_most_of_value, range, in_range, rounded_value}

-- ---- what a format's values are
-- 2 ^ e is 2 ^ i smallest values, 2 ^ l of which make 1
grain : (l : ℕ) (e : ℤ) → down e ≤ 2 ^ l → (i : ℕ) × (up e * 2 ^ l ≡ 2 ^ i * down e)
grain l (pos a) h = (a + l, sym (pow-add 2 a l) ∙ sym (mul-one (2 ^ (a + l))))
grain l (negsuc a) h = (
  l - suc a,
  one-mul (2 ^ l) ∙ ap (λ (x : ℕ). 2 ^ x) (sym (back l (suc a) (pow_le_back (suc a) l h))) ∙ pow-add 2 (l - suc a) (suc a),
)

plain : (e : ℤ) → up e * down e ≡ 1 → down e ≤ 1
plain (pos a) h = le_refl 1
plain (negsuc a) h = le_of_eq (sym (one-mul (2 ^ suc a)) ∙ h)

-- the significand and the exponent of a value that the format holds
held : (f : Format) (s : Bool) (m : ℕ) (e : ℤ) → T (fits f (fin s m e)) → (m < 2 ^ prec f) × (down e ≤ 2 ^ low f)
unfolding fits
held f s zero e t = (pow_pos (prec f), le_trans (plain e (eqb→eq (up e * down e) 1 t)) (pow_pos (low f)))
held f s (suc m) e t =
    let A = eqb (suc m % 2) 1 in
    let B = ltb (suc m) (2 ^ prec f) in
    let C = leb (down e) (2 ^ low f) in
    let D = ltb (suc m * up e) (2 ^ suc (emax f) * down e) in (
      ltb→lt (suc m) (2 ^ prec f) (and_r A B (and_l (A && B) C (and_l (A && B && C) D t))),
      leb→le (down e) (2 ^ low f) (and_r (A && B) C (and_l (A && B && C) D t)),
    )

-- ---- a product by 2 ^ j
unlike_false : (s : Bool) → unlike s false ≡ s
unlike_false true = refl
unlike_false false = refl

mul_is : (f : Format) (s : Bool) (m : ℕ) (e : ℤ) (j : ℕ) → mul f (fin s m e) (fin false 1 (pos j)) ≡ round f s (m * up e * (1 * 2 ^ j)) (down e * 1)
unfolding mul
mul_is f s m e j = ap (λ (t : Bool). round f t (m * up e * (1 * 2 ^ j)) (down e * 1)) (unlike_false s)

-- it is exact where it is below 2 ^ (emax + 1)
mul_exact : (f : Format) (s : Bool) (m : ℕ) (e : ℤ) (j : ℕ) → T (fits f (fin s m e)) → m * up e * 2 ^ j < 2 ^ suc (emax f) * down e
    → HasValue (mul f (fin s m e) (fin false 1 (pos j))) s (m * up e * 2 ^ j) (down e)
mul_exact f s m e j t h =
    let l = low f in
    let g = grain l e (held f s m e t).1 in
    let i = g.0 in
    let num = m * up e * (1 * 2 ^ j) in
    let den = down e * 1 in
    let one : num ≡ m * up e * 2 ^ j = ap (λ (x : ℕ). m * up e * x) (one-mul (2 ^ j)) in
    let den-is : den ≡ down e = mul-one (down e) in
    let scaled : m * up e * 2 ^ j * 2 ^ l ≡ m * 2 ^ (i + j) * down e =
    mul_right_comm (m * up e) (2 ^ j) (2 ^ l)
    ∙ ap (λ (x : ℕ). x * 2 ^ j) (mul_assoc m (up e) (2 ^ l) ∙ ap (λ (x : ℕ). m * x) g.1 ∙ sym (mul_assoc m (2 ^ i) (down e)))
    ∙ mul_right_comm (m * 2 ^ i) (down e) (2 ^ j)
    ∙ ap (λ (x : ℕ). x * down e) (mul_assoc m (2 ^ i) (2 ^ j) ∙ ap (λ (x : ℕ). m * x) (sym (pow-add 2 i j))) in
    let fine : m * 2 ^ (i + j) < 2 ^ (l + suc (emax f)) =
    lt_of_mul-lt-mul_right (down e)
    (subst (λ (x : ℕ). x < 2 ^ (l + suc (emax f)) * down e) scaled
    (subst (λ (x : ℕ). m * up e * 2 ^ j * 2 ^ l < x)
    (mul_right_comm (2 ^ suc (emax f)) (down e) (2 ^ l) ∙ ap (λ (x : ℕ). x * down e) (mul_comm (2 ^ suc (emax f)) (2 ^ l) ∙ sym (pow-add 2 l (suc (emax f)))))
    (mul-lt-mul_of_pos_right h (pow_pos l)))) in
    let whole : num * 2 ^ l ≡ m * 2 ^ (i + j) * den = ap (λ (x : ℕ). x * 2 ^ l) one ∙ scaled ∙ ap (λ (x : ℕ). m * 2 ^ (i + j) * x) (sym den-is) in
    let v : HasValue (round f s num den) s num den = round_exact f s num den m (i + j) (subst (λ (x : ℕ). 0 < x) (sym den-is) (down_pos e)) (held f s m e t).0 fine whole in
    subst (λ (x : Float). HasValue x s (m * up e * 2 ^ j) (down e)) (sym (mul_is f s m e j))
    (subst (λ (x : ℕ). HasValue (round f s num den) s x (down e)) one
    (subst (λ (x : ℕ). HasValue (round f s num den) s num x) den-is v))

-- ---- the product by 2 ^ j of a float from ±a * 2 ^ i to 2 ^ k
small : (a d : ℕ) → a ≤ 8192 * d → 0 < d → a < 2 ^ 128 * d
small a d h D = lt_of_le_of_lt h (mul-lt-mul_of_pos_right (lit< tt) D)

module _ (n j : ℕ) (room : n * 2 ^ j ≤ 8192) where
  abbrev times : Float → Float
  times x = mul binary32 x (fin false 1 (pos j))

  grown : (m : ℕ) (e : ℤ) → m * up e ≤ n * down e → m * up e * 2 ^ j ≤ 8192 * down e
  grown m e h = le_trans (mul-le-mul_right (2 ^ j) h) (le_trans (le_of_eq (mul_right_comm n (down e) (2 ^ j))) (mul-le-mul_right (down e) room))

  exact : (s : Bool) (m : ℕ) (e : ℤ) → T (fits binary32 (fin s m e)) → m * up e ≤ n * down e → HasValue (times (fin s m e)) s (m * up e * 2 ^ j) (down e)
  exact s m e t h = mul_exact binary32 s m e j t (small (m * up e * 2 ^ j) (down e) (grown m e h) (down_pos e))

  at_most : (x : Float) → T (fits binary32 x) → AtMost n x → AtMost 8192 (times x)
  at_most nan t h = absurd h
  at_most (inf s) t h = absurd h
  at_most (fin s m e) t h = at_most_of_value 8192 (times (fin s m e)) s (m * up e * 2 ^ j) (down e) (down_pos e) (exact s m e t h) (grown m e h)

  rounded_alike : (x : Float) → T (fits binary32 x) → AtMost n x → rounded_times 1 (times x) ≡ rounded_times (2 ^ j) x
  unfolding rounded_times
  rounded_alike nan t h = absurd h
  rounded_alike (inf s) t h = absurd h
  rounded_alike (fin s m e) t h =
      rounded_value 1 (times (fin s m e)) s (m * up e * 2 ^ j) (down e) (down_pos e) (exact s m e t h)
      ∙ ap (λ (x : ℕ). signed s (rounded_size x (down e))) (mul-one (m * up e * 2 ^ j))

-- ---- what a conversion needs
-- numbers that are alike where x lies in the range
alike_within : (lo hi x : Float) (y z : ℤ) → (lies_within lo hi x ≡ true → y ≡ z) → units_within lo hi x y ≡ units_within lo hi x z
unfolding units_within
alike_within lo hi x y z f = go (lies_within lo hi x) f
  where
    go : (t : Bool) → (t ≡ true → y ≡ z) → cond t (Some y) None ≡ cond t (Some z) None
    go true g = ap Some (g refl)
    go false g = refl

module _ (s : Bool) (a i k j : ℕ) (ends : a * 2 ^ i ≤ 2 ^ k) (room : 2 ^ k * 2 ^ j ≤ 8192)
    (x : Float) (held : T (fits binary32 x)) where
  pub product_within : lies_within (fin s a (pos i)) (fin false 1 (pos k)) x ≡ true → lies_within (fin true 1 (pos 13)) (fin false 1 (pos 13)) (mul binary32 x (fin false 1 (pos j))) ≡ true
  product_within inside = in_range 13 (mul binary32 x (fin false 1 (pos j))) (at_most (2 ^ k) j room x held (range s a i k ends x inside))

  pub product_rounded : lies_within (fin s a (pos i)) (fin false 1 (pos k)) x ≡ true → rounded_times 1 (mul binary32 x (fin false 1 (pos j))) ≡ rounded_times (2 ^ j) x
  product_rounded inside = rounded_alike (2 ^ k) j room x held (range s a i k ends x inside)

  pub product_units : units_within (fin s a (pos i)) (fin false 1 (pos k)) x (rounded_times 1 (mul binary32 x (fin false 1 (pos j)))) ≡ units_within (fin s a (pos i)) (fin false 1 (pos k)) x (rounded_times (2 ^ j) x)
  product_units = alike_within _ _ x _ _ product_rounded
