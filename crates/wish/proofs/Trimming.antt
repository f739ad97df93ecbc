-- The ends between which units are trimmed, and what lies between them. Assumes nothing.
use mathlib.Core.Path.{◌≡◌, refl, sym, ap, ◌∙◌, subst}
use mathlib.Core.Bool.{Bool, true, false, not, cond}
use Prim.Native.Nat.{ℕ, zero, suc, ◌+◌, ◌-◌, ◌≤◌, min, zero-le, suc-le-suc}
use native.Mathlib.Nat.{le_refl, le_trans, le_of_lt, min-le_left, min-eq_left, min-eq_right}
use native.Mathlib.Omega.{arith}
use borrow.Author.Tests.{ltb-true, ltb-false, le-ltb}
use lib.Dec.{T, ltb, leb→le, le→leb, ltb→lt}
use lib.IntN.{ℤ, pos, negsuc, neg_ℤ, ◌+ℤ◌, ◌-ℤ◌}
use lib.Signed.{lt_z, ◌≤ℤ◌, ◌<ℤ◌, ≤ℤ_refl, <ℤ-≤ℤ_trans, le_z_yes, lt_z_yes, lt_z_no, clash_ℤ}
use Rattle.std.specs.Int.{int_min, int_max}
use Rattle.wish.specs.Trimming.{smaller_of, trimmed_into, trimmed_to}

-- ---- the order of the integers
lt_le : {a b : ℤ} → a <ℤ b → a ≤ℤ b
lt_le {a = pos a} {b = pos b} h = le_z_yes (le→leb a b (le_of_lt (ltb→lt a b h.lt)))
lt_le {a = pos a} {b = negsuc b} h = absurd h.lt
lt_le {a = negsuc a} {b = pos b} h = le_z_yes tt
lt_le {a = negsuc a} {b = negsuc b} h = le_z_yes (le→leb b a (le_of_lt (ltb→lt b a h.lt)))

le_antisym : (a b : ℤ) → a ≤ℤ b → b ≤ℤ a → a ≡ b
le_antisym (pos a) (pos b) h k = ap pos (omega (arith, leb→le a b h.le, leb→le b a k.le))
le_antisym (pos a) (negsuc b) h k = absurd h.le
le_antisym (negsuc a) (pos b) h k = absurd k.le
le_antisym (negsuc a) (negsuc b) h k = ap negsuc (omega (arith, leb→le b a h.le, leb→le a b k.le))

not_lt : (a b : ℤ) → a ≤ℤ b → lt_z b a ≡ false
not_lt a b h = go (lt_z b a) refl
  where
    go : (t : Bool) → lt_z b a ≡ t → t ≡ false
    go true e = clash_ℤ {a = b} {b = a} (lt_z_yes (subst T (sym e) tt)) h
    go false e = refl

le_through : {a b c : ℤ} → a ≤ℤ b → b ≤ℤ c → a ≤ℤ c
le_through {a} {b} {c} h k = go (lt_z c a) refl
  where
    go : (t : Bool) → lt_z c a ≡ t → a ≤ℤ c
    go true e = clash_ℤ (<ℤ-≤ℤ_trans (lt_z_yes {a = c} {b = a} (subst T (sym e) tt)) h) k
    go false e = lt_z_no (subst (λ (t : Bool). T (not t)) (sym e) tt)

pub neg_le_pos : (k m : ℕ) → neg_ℤ (pos k) ≤ℤ pos m
neg_le_pos zero m = le_z_yes (le→leb 0 m zero-le)
neg_le_pos (suc k) m = le_z_yes tt

-- ---- the smaller of two
pub smaller_pos : (a b : ℕ) → smaller_of (pos a) (pos b) ≡ pos (min a b)
unfolding smaller_of
smaller_pos a b = go (ltb a b) refl
  where
    go : (t : Bool) → ltb a b ≡ t → cond t (pos a) (pos b) ≡ pos (min a b)
    go true e = ap pos (sym (min-eq_left (le_of_lt (ltb-true a b e))))
    go false e = ap pos (sym (min-eq_right (ltb-false a b e)))

pub smaller_left : (a b : ℤ) → a ≤ℤ b → smaller_of b a ≡ a
unfolding smaller_of
smaller_left a b h = ap (λ (t : Bool). cond t b a) (not_lt a b h)

pub below_both : (w a b : ℤ) → w ≤ℤ a → w ≤ℤ b → w ≤ℤ smaller_of a b
unfolding smaller_of
below_both w a b p q = go (lt_z a b)
  where
    go : (t : Bool) → w ≤ℤ cond t a b
    go true = p
    go false = q

-- the smaller of two is at or below what one of them is at or below
not_above_left : (a b : ℤ) {c : ℤ} → a ≤ℤ c → smaller_of a b ≤ℤ c
unfolding smaller_of
not_above_left a b {c} h = go (lt_z a b) refl
  where
    go : (t : Bool) → lt_z a b ≡ t → cond t a b ≤ℤ c
    go true e = h
    go false e = le_through (lt_z_no (subst (λ (t : Bool). T (not t)) (sym e) tt)) h

pub not_above_right : (a b : ℤ) {c : ℤ} → b ≤ℤ c → smaller_of a b ≤ℤ c
unfolding smaller_of
not_above_right a b {c} h = go (lt_z a b) refl
  where
    go : (t : Bool) → lt_z a b ≡ t → cond t a b ≤ℤ c
    go true e = lt_le (<ℤ-≤ℤ_trans (lt_z_yes (subst T (sym e) tt)) h)
    go false e = h

pub smaller_right : (a b : ℤ) → a ≤ℤ b → smaller_of a b ≡ a
smaller_right a b h = le_antisym (smaller_of a b) a (not_above_left a b (≤ℤ_refl a)) (below_both a a b (≤ℤ_refl a) h)

-- ---- trimmed into -k to high
module _ (k : ℕ) (high w : ℤ) where
  abbrev low : ℤ
  low = neg_ℤ (pos k)

  pub not_below_low : low ≤ℤ trimmed_into low high w
  unfolding trimmed_into
  not_below_low = raised (smaller_of high w) (lt_z (smaller_of high w) low) refl
    where
      raised : (x : ℤ) (t : Bool) → lt_z x low ≡ t → low ≤ℤ cond t low x
      raised x true e = ≤ℤ_refl low
      raised x false e = lt_z_no (subst (λ (t : Bool). T (not t)) (sym e) tt)

  pub inside_kept : low ≤ℤ w → w ≤ℤ high → trimmed_into low high w ≡ w
  unfolding trimmed_into
  inside_kept p q = ap (λ (x : ℤ). cond (lt_z x low) low x) (smaller_left w high q) ∙ ap (λ (t : Bool). cond t low w) (not_lt low w p)

  pub above_high : low ≤ℤ high → high ≤ℤ w → trimmed_into low high w ≡ high
  unfolding trimmed_into
  above_high p q = ap (λ (x : ℤ). cond (lt_z x low) low x) (smaller_right high w q) ∙ ap (λ (t : Bool). cond t low high) (not_lt low high p)

  capped_below : smaller_of high w ≤ℤ low → trimmed_into low high w ≡ low
  unfolding trimmed_into
  capped_below h = go (lt_z (smaller_of high w) low) refl
    where
      go : (t : Bool) → lt_z (smaller_of high w) low ≡ t → cond t low (smaller_of high w) ≡ low
      go true e = refl
      go false e = le_antisym (smaller_of high w) low h (lt_z_no (subst (λ (t : Bool). T (not t)) (sym e) tt))

  pub below_low : w ≤ℤ low → trimmed_into low high w ≡ low
  below_low h = capped_below (not_above_right high w h)

  pub ends_crossed : high ≤ℤ low → trimmed_into low high w ≡ low
  ends_crossed h = capped_below (not_above_left high w h)

-- ---- trimming by std's `min` and `max`
larger : (a b : ℤ) → int_max a b ≡ cond (lt_z a b) b a
larger a b = go (lt_z b a) (lt_z a b) refl refl
  where
    at_most : (x y : ℤ) → lt_z x y ≡ false → y ≤ℤ x
    at_most x y e = lt_z_no (subst (λ (t : Bool). T (not t)) (sym e) tt)

    go : (s t : Bool) → lt_z b a ≡ s → lt_z a b ≡ t → cond s a b ≡ cond t b a
    go true true p q = clash_ℤ {a = b} {b = a} (lt_z_yes (subst T (sym p) tt)) (lt_le (lt_z_yes (subst T (sym q) tt)))
    go true false p q = refl
    go false true p q = refl
    go false false p q = le_antisym b a (at_most a b q) (at_most b a p)

pub trimmed_is : (w : ℤ) (v hardest most limit : ℕ) → int_max (int_min w (int_min (pos limit -ℤ pos v) (pos most))) (neg_ℤ (pos (min hardest v))) ≡ trimmed_to w v hardest most limit
unfolding smaller_of trimmed_into trimmed_to
trimmed_is w v hardest most limit =
    let low = neg_ℤ (pos (min hardest v)) in
    let capped = int_min w (int_min (pos limit -ℤ pos v) (pos most)) in
    larger capped low ∙ ap (λ (l : ℤ). cond (lt_z capped (neg_ℤ l)) (neg_ℤ l) capped) (sym (smaller_pos hardest v))

-- a number from -k to h
pub data Between (k h : ℕ) : ℤ → Type 0 where
  fall : (n : ℕ) → n ≤ k → Between k h (neg_ℤ (pos n))
  rise : (n : ℕ) → n ≤ h → Between k h (pos n)

not_fallen : (m k : ℕ) → lt_z (pos m) (neg_ℤ (pos k)) ≡ false
not_fallen m zero = le-ltb m 0 zero-le
not_fallen m (suc k) = refl

pub between : (k h : ℕ) (w : ℤ) → Between k h (trimmed_into (neg_ℤ (pos k)) (pos h) w)
unfolding trimmed_into smaller_of
between k h (pos n) =
    subst (Between k h)
    (sym (ap (λ (x : ℤ). cond (lt_z x (neg_ℤ (pos k))) (neg_ℤ (pos k)) x) (smaller_pos h n) ∙ ap (λ (t : Bool). cond t (neg_ℤ (pos k)) (pos (min h n))) (not_fallen (min h n) k)))
    (rise (min h n) (min-le_left h n))
between zero h (negsuc n) = fall 0 zero-le
between (suc k) h (negsuc n) = go (ltb k n) refl
  where
    go : (t : Bool) → ltb k n ≡ t → Between (suc k) h (cond t (negsuc k) (negsuc n))
    go true e = fall (suc k) (le_refl (suc k))
    go false e = fall (suc n) (suc-le-suc (ltb-false k n e))

-- ---- a number from -k to h, added to a v that is k or more
pub pos_minus : (v k : ℕ) → k ≤ v → pos v -ℤ pos k ≡ pos (v - k)
pos_minus v zero h = ap pos (same v)
  where
    same : (x : ℕ) → x + 0 ≡ x - 0
    same x = omega arith
pos_minus v (suc k) h = ap (λ (b : Bool). cond b (negsuc (suc k - suc v)) (pos (v - suc k))) (le-ltb v (suc k) h)

pub record Sum (v k h : ℕ) (t : ℤ) : Type 0 where
  pub value : ℕ
  pub is : pos v +ℤ t ≡ pos value
  pub high : value ≤ v + h

pub sum_between : (v k h : ℕ) {t : ℤ} → k ≤ v → Between k h t → Sum v k h t
sum_between v k h p (fall n q) = record { value = v - n; is = pos_minus v n (le_trans q p); high = omega arith }
sum_between v k h p (rise n q) = record { value = v + n; is = refl; high = omega arith }
