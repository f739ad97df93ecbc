-- What rounding is, in the request's own words (`rounded_nearest`); that these words leave one whole number; and, in numbers alone, what the units of a float are. Assumes nothing.
use mathlib.Core.Path.{◌≡◌, refl, sym, ap, ◌∙◌, subst}
use mathlib.Core.Logic.{by_cases}
use Prim.Native.Nat.{ℕ, zero, suc, ◌+◌, ◌-◌, ◌*◌, ◌/◌, ◌%◌, ◌≤◌, ◌<◌}
use native.Mathlib.Nat.{le_antisymm, le_of_eq, suc-mul, zero-mul, mul-le-mul_right, div-add-mod', mod-lt}
use native.Mathlib.Decide.{dec_lt}
use native.Mathlib.Omega.{arith}
use mathlib.Core.Bool.{Bool, true, false, not, ◌&&◌, ◌||◌, cond}
use borrow.Author.Tests.{ltb-true, ltb-false}
use lib.Dec.{ltb, leb, eqb}
use lib.IntN.{ℤ, pos, negsuc, neg_ℤ, nat_abs, ◌+ℤ◌, ◌-ℤ◌, ◌*ℤ◌, neg_ℤ-neg_ℤ, neg_ℤ-+ℤ, -ℤ-+ℤ_cancel}
use lib.Ieee.{fin, up, down}
use lib.Ieee.Fits.{down_pos}
use Rattle.wish.specs.Rounding.{signed, rounded_size, rounded_times, away, NearestEven}
use Rattle.wish.specs.Units.{units_of}
use Rattle.std.proofs.Common.{Some, None}
use Rattle.wish.specs.declared.Wish.TheVariants.{Acceleration, TargetSpeed}
use Rattle.wish.proofs.Rounding.{rounded_by}
use Rattle.wish.proofs.Laws.{acceleration_range, target_range}

-- ---- how far a whole number lies from n / d, for an n that is not below 0
apart : ℕ → ℕ → ℕ
apart x n = x - n + (n - x)

difference : (x n : ℕ) → nat_abs (pos x -ℤ pos n) ≡ apart x n
unfolding apart
difference x zero = omega arith
difference x (suc n) = go (ltb x (suc n)) refl
  where
    go : (t : Bool) → ltb x (suc n) ≡ t → nat_abs (cond t (negsuc (suc n - suc x)) (pos (x - suc n))) ≡ x - suc n + (suc n - x)
    go true e = let h = ltb-true x (suc n) e in omega arith
    go false e = let h = ltb-false x (suc n) e in omega arith

same_size : (z : ℤ) → nat_abs (neg_ℤ z) ≡ nat_abs z
same_size (pos zero) = refl
same_size (pos (suc n)) = refl
same_size (negsuc n) = refl

module _ (n d : ℕ) where
  far : ℤ → ℕ
  unfolding apart
  far (pos j) = apart (j * d) n
  far (negsuc j) = j * d + d + n

  away_is : (k : ℤ) → away k (pos n) d ≡ far k
  unfolding far
  away_is (pos j) = difference (j * d) n
  away_is (negsuc j) = ap nat_abs (sym (neg_ℤ-+ℤ (pos (suc j * d)) (pos n))) ∙ same_size (pos (suc j * d + n)) ∙ ap (λ (x : ℕ). x + n) (suc-mul j d)

-- the multiples of d of two numbers are d apart at least
step : (d : ℕ) {a b : ℕ} → a < b → a * d + d ≤ b * d
step d {a} h =
    let m = suc-mul a d in
    let g = mul-le-mul_right d h in
    omega arith

by_order : {P : Type 0} (j q : ℕ) → (j < q → P) → (q < j → P) → (j ≡ q → P) → P
by_order j q below above same = by_cases (dec_lt j q) below (λ (a : j < q → ⊥). by_cases (dec_lt q j) above (λ (b : q < j → ⊥). same (omega arith)))

-- ---- q lies no farther than half of d from n, and that far only if it is even
record Near (q n d : ℕ) : Type 0 where
  not_above : q * d * 2 ≤ n * 2 + d
  not_below : n * 2 ≤ q * d * 2 + d
  even_above : q * d * 2 ≡ n * 2 + d → q % 2 ≡ 0
  even_below : n * 2 ≡ q * d * 2 + d → q % 2 ≡ 0

near_nearest : {q n d : ℕ} → 0 < d → Near q n d → NearestEven (pos q) (pos n) d
unfolding far
near_nearest {q} {n} {d} D f = record {
  none_nearer = λ (k : ℤ). rw (away_is n d (pos q), away_is n d k) (none k);
  halves_to_even = λ (k : ℤ) (other : k ≡ pos q → ⊥) (e : away k (pos n) d ≡ away (pos q) (pos n) d). even k other (sym (away_is n d k) ∙ e ∙ away_is n d (pos q));
}
  where
    none : (k : ℤ) → far n d (pos q) ≤ far n d k
    none (pos j) = by_order j q
        (λ (h : j < q). let g = step d h in omega arith)
        (λ (h : q < j). let g = step d h in omega arith)
        (λ (e : j ≡ q). le_of_eq (ap (λ (x : ℕ). apart (x * d) n) (sym e)))
    none (negsuc j) = omega arith

    even : (k : ℤ) → (k ≡ pos q → ⊥) → far n d k ≡ far n d (pos q) → q % 2 ≡ 0
    even (pos j) other e = by_order j q
        (λ (h : j < q). let g = step d h in f.even_above (omega arith))
        (λ (h : q < j). let g = step d h in f.even_below (omega arith))
        (λ (s : j ≡ q). absurd (other (ap pos s)))
    even (negsuc j) other e = omega arith

-- ---- of either sign: where that of both turns, all stay as far off
turned_product : (k : ℤ) (d : ℕ) → neg_ℤ k *ℤ pos d ≡ neg_ℤ (k *ℤ pos d)
turned_product (pos zero) d = ap pos (zero-mul d) ∙ sym (ap (λ (x : ℕ). neg_ℤ (pos x)) (zero-mul d))
turned_product (pos (suc j)) d = refl
turned_product (negsuc j) d = sym (neg_ℤ-neg_ℤ (pos (suc j * d)))

turned_away : (k n : ℤ) (d : ℕ) → away (neg_ℤ k) (neg_ℤ n) d ≡ away k n d
turned_away k n d = ap (λ (x : ℤ). nat_abs (x -ℤ neg_ℤ n)) (turned_product k d) ∙ ap nat_abs (sym (neg_ℤ-+ℤ (k *ℤ pos d) (neg_ℤ n))) ∙ same_size (k *ℤ pos d -ℤ n)

turned : {z n : ℤ} {d : ℕ} → NearestEven z n d → NearestEven (neg_ℤ z) (neg_ℤ n) d
turned {z} {n} {d} f = record {
  none_nearer = λ (k : ℤ). rw (turned_away z n d, seen k) (f.none_nearer (neg_ℤ k));
  halves_to_even = λ (k : ℤ) (other : k ≡ neg_ℤ z → ⊥) (e : away k (neg_ℤ n) d ≡ away (neg_ℤ z) (neg_ℤ n) d). rw (same_size z)
      (f.halves_to_even (neg_ℤ k) (λ (o : neg_ℤ k ≡ z). other (sym (neg_ℤ-neg_ℤ k) ∙ ap neg_ℤ o)) (sym (seen k) ∙ e ∙ turned_away z n d));
}
  where
    seen : (k : ℤ) → away k (neg_ℤ n) d ≡ away (neg_ℤ k) n d
    seen k = ap (λ (x : ℤ). away x (neg_ℤ n) d) (sym (neg_ℤ-neg_ℤ k)) ∙ turned_away (neg_ℤ k) n d

with_sign : (s : Bool) {q n d : ℕ} → NearestEven (pos q) (pos n) d → NearestEven (signed s q) (signed s n) d
with_sign false f = f
with_sign true f = turned f

-- ---- "to the nearest unit, and a value exactly halfway to the even one"
next_even : (w : ℕ) → w % 2 ≡ 1 → suc w % 2 ≡ 0
next_even w o = omega arith

pub rounded_nearest : (s : Bool) (n d : ℕ) → 0 < d → NearestEven (signed s (rounded_size n d)) (signed s n) d
rounded_nearest s n d D =
    let e = div-add-mod' n d in
    let l = mod-lt n D in
    let m = suc-mul (n / d) d in
    with_sign s
    (near_nearest D
    (rounded_by (λ (q : ℕ). Near q n d) n d
    (λ h even. record {
      not_above = omega arith;
      not_below = omega arith;
      even_above = λ g. omega arith;
      even_below = λ g. even (omega arith);
    })
    (λ h odd. record {
      not_above = omega arith;
      not_below = omega arith;
      even_above = λ g. next_even (n / d) (odd (omega arith));
      even_below = λ g. omega arith;
    })))

-- ---- these words leave one whole number
pub nearest_is_one : (n : ℤ) (d : ℕ) → 0 < d → (y z : ℤ) → NearestEven y n d → NearestEven z n d → y ≡ z
unfolding far
nearest_is_one n d D y z f g = by_sign n f g
  where
    not_below_0 : (n j : ℕ) → NearestEven (negsuc j) (pos n) d → ⊥
    not_below_0 n j f = let h = rw (away_is n d (negsuc j), away_is n d (pos 0)) at (f.none_nearer (pos 0)) in omega arith

    -- two even numbers as near as each other have one between them that is nearer
    not_both : (n i j : ℕ) → i < j → NearestEven (pos i) (pos n) d → NearestEven (pos j) (pos n) d → ⊥
    not_both n i j h f g =
        let e = le_antisymm (f.none_nearer (pos j)) (g.none_nearer (pos i)) in
        let u = f.halves_to_even (pos j) (λ (o : pos j ≡ pos i). let q = ap nat_abs o in omega arith) (sym e) in
        let w = g.halves_to_even (pos i) (λ (o : pos i ≡ pos j). let q = ap nat_abs o in omega arith) e in
        let level = rw (away_is n d (pos i), away_is n d (pos j)) at e in
        let between = rw (away_is n d (pos i), away_is n d (pos (suc i)), suc-mul) at (f.none_nearer (pos (suc i))) in
        let gap = rw suc-mul at (step d {a = suc i} {b = j} (omega arith)) in
        omega arith

    same : (n : ℕ) (y z : ℤ) → NearestEven y (pos n) d → NearestEven z (pos n) d → y ≡ z
    same n (negsuc i) z f g = absurd (not_below_0 n i f)
    same n (pos i) (negsuc j) f g = absurd (not_below_0 n j g)
    same n (pos i) (pos j) f g = by_order i j (λ (h : i < j). absurd (not_both n i j h f g)) (λ (h : j < i). absurd (not_both n j i h g f)) (λ (e : i ≡ j). ap pos e)

    by_sign : (n : ℤ) → NearestEven y n d → NearestEven z n d → y ≡ z
    by_sign (pos n) f g = same n y z f g
    by_sign (negsuc n) f g = sym (neg_ℤ-neg_ℤ y) ∙ ap neg_ℤ (same (suc n) (neg_ℤ y) (neg_ℤ z) (turned f) (turned g)) ∙ neg_ℤ-neg_ℤ z

-- ---- of every float that has units, in numbers alone
never : {z : ℤ} → None ≡ Some z → ⊥
never h = let q : ◌≡◌ {A = ℕ} 0 1 = cc in omega arith

given : (t : Bool) (a z : ℤ) → cond t (Some a) None ≡ Some z → a ≡ z
given true a z h = cc
given false a z h = absurd (never h)

module _ (s : Bool) (m : ℕ) (e : ℤ) (v : ℕ) (z : ℤ) where
  -- 16 times the acceleration: no whole number is nearer than the units, and they are even where another is as near
  pub acceleration_nearest : units_of (Acceleration (fin s m e)) v ≡ Some z → let n = signed s (m * up e * 16) in
      ((k : ℤ) → nat_abs (z *ℤ pos (down e) -ℤ n) ≤ nat_abs (k *ℤ pos (down e) -ℤ n))
      × ((k : ℤ) → (k ≡ z → ⊥) → nat_abs (k *ℤ pos (down e) -ℤ n) ≡ nat_abs (z *ℤ pos (down e) -ℤ n) → nat_abs z % 2 ≡ 0)
  unfolding rounded_times
  acceleration_nearest h =
      let y = given (leb (m * up e) (16 * down e)) (rounded_times 16 (fin s m e)) z (sym (acceleration_range s m e v) ∙ h) in
      let f = subst (λ (x : ℤ). NearestEven x (signed s (m * up e * 16)) (down e)) y (rounded_nearest s (m * up e * 16) (down e) (down_pos e)) in
      (f.none_nearer, f.halves_to_even)

  -- 128 times the target speed, "then the present speed is subtracted": of the units with the speed added again
  pub target_nearest : units_of (TargetSpeed (fin s m e)) v ≡ Some z → let n = signed s (m * up e * 128) in let y = z +ℤ pos v in
      ((k : ℤ) → nat_abs (y *ℤ pos (down e) -ℤ n) ≤ nat_abs (k *ℤ pos (down e) -ℤ n))
      × ((k : ℤ) → (k ≡ y → ⊥) → nat_abs (k *ℤ pos (down e) -ℤ n) ≡ nat_abs (y *ℤ pos (down e) -ℤ n) → nat_abs y % 2 ≡ 0)
  unfolding rounded_times
  target_nearest h =
      let x = rounded_times 128 (fin s m e) in
      let y = given ((not s || eqb (m * up e) 0) && leb (m * up e) (64 * down e)) (x -ℤ pos v) z (sym (target_range s m e v) ∙ h) in
      let f = subst (λ (w : ℤ). NearestEven w (signed s (m * up e * 128)) (down e)) (sym (-ℤ-+ℤ_cancel x (pos v)) ∙ ap (λ (w : ℤ). w +ℤ pos v) y)
      (rounded_nearest s (m * up e * 128) (down e) (down_pos e)) in
      (f.none_nearer, f.halves_to_even)
