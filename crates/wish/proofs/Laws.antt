-- What the crates above use of units, of trimming and of readings, with nothing to unfold. Assumes nothing.
use mathlib.Core.Path.{◌≡◌, refl, ap, ◌∙◌}
use mathlib.Core.Bool.{Bool, true, false, not, ◌&&◌, ◌||◌, cond}
use Prim.Native.Nat.{ℕ, ◌+◌, ◌-◌, ◌*◌, ◌^◌, ◌≤◌, ◌<◌, min}
use native.Mathlib.Nat.{min-le_right}
use native.Mathlib.Omega.{arith}
use lib.Dec.{leb, eqb, lit≤}
use lib.IntN.{ℤ, pos, neg_ℤ, ◌+ℤ◌, ◌-ℤ◌}
use lib.Signed.{◌≤ℤ◌}
use lib.Ieee.{nan, inf, fin, up, down, le}
use lib.Ieee.Exact.{HasValue}
use Rattle.wish.specs.Rounding.{rounded_times}
use Rattle.wish.specs.Units.{lies_within, units_within, acceleration_units, target_units, units_of}
use Rattle.wish.specs.Trimming.{smaller_of, trimmed_into, trimmed_to}
use Rattle.wish.specs.Reading.{reading_of}
use Rattle.std.proofs.Common.{Some, None}
use Rattle.wish.specs.declared.Wish.TheVariants.{Units, Acceleration, TargetSpeed, Hold}
use Rattle.wish.proofs.Values.{within_size, within_size_from_0}
use Rattle.wish.proofs.Trimming.{smaller_pos, smaller_left, smaller_right, not_above_right, below_both, neg_le_pos, not_below_low, inside_kept, above_high, below_low, ends_crossed, pos_minus, between, sum_between}
use Rattle.wish.proofs.Quotients.{double_of_exact}

-- ---- "whole units" and "hold (0 units)"; which units the two sorts of float have is in `Nearest`

pub whole_units : (u : ℤ) (v : ℕ) → units_of (Units u) v ≡ Some u
unfolding units_of
whole_units u v = refl

pub hold_units : (v : ℕ) → units_of Hold v ≡ Some (pos 0)
unfolding units_of
hold_units v = refl

-- ---- which floats have units: ±m * 2 ^ e is m * up e / down e in size

-- "An acceleration must lie from −16 to 16, .. ends included"
pub acceleration_range : (s : Bool) (m : ℕ) (e : ℤ) (v : ℕ)
    → units_of (Acceleration (fin s m e)) v ≡ cond (leb (m * up e) (16 * down e)) (Some (rounded_times 16 (fin s m e))) None
unfolding units_of acceleration_units units_within
acceleration_range s m e v = ap (λ (t : Bool). cond t (Some (rounded_times 16 (fin s m e))) None) (within_size 4 s m e)

-- "a speed from 0 to 64, ends included; .. negative zero counts as zero"
pub target_range : (s : Bool) (m : ℕ) (e : ℤ) (v : ℕ)
    → units_of (TargetSpeed (fin s m e)) v ≡ cond ((not s || eqb (m * up e) 0) && leb (m * up e) (64 * down e)) (Some (rounded_times 128 (fin s m e) -ℤ pos v)) None
unfolding units_of target_units units_within
target_range s m e v = ap (λ (t : Bool). cond t (Some (rounded_times 128 (fin s m e) -ℤ pos v)) None) (within_size_from_0 6 s m e)

-- "not-a-number and infinities are outside"
pub no_number_outside : (v : ℕ) → (units_of (Acceleration nan) v ≡ None) × (units_of (TargetSpeed nan) v ≡ None)
unfolding units_of acceleration_units target_units units_within lies_within le
no_number_outside v = (refl, refl)

pub infinity_outside : (s : Bool) (v : ℕ) → (units_of (Acceleration (inf s)) v ≡ None) × (units_of (TargetSpeed (inf s)) v ≡ None)
unfolding units_of acceleration_units target_units units_within lies_within le
infinity_outside false v = (refl, refl)
infinity_outside true v = (refl, refl)

-- ---- trimming

-- The speed v, with the units w trimmed for it and added.
pub record NewSpeed (w : ℤ) (v hardest most limit : ℕ) : Type 0 where
  pub speed : ℕ
  pub is : pos v +ℤ trimmed_to w v hardest most limit ≡ pos speed
  pub rises_at_most : speed ≤ v + most
  pub within_limit : speed ≤ limit

module _ (w : ℤ) (v hardest most limit : ℕ) where
  into : trimmed_to w v hardest most limit ≡ trimmed_into (neg_ℤ (pos (min hardest v))) (smaller_of (pos most) (pos limit -ℤ pos v)) w
  unfolding trimmed_to
  into = ap (λ (l : ℤ). trimmed_into (neg_ℤ l) (smaller_of (pos most) (pos limit -ℤ pos v)) w) (smaller_pos hardest v)

  -- nothing brakes harder than `hardest`, at any speed
  pub no_harder : neg_ℤ (pos (min hardest v)) ≤ℤ trimmed_to w v hardest most limit
  no_harder = rw into (not_below_low (min hardest v) (smaller_of (pos most) (pos limit -ℤ pos v)) w)

  -- what lies between the ends already is not changed
  pub inside_stands : neg_ℤ (pos (min hardest v)) ≤ℤ w → w ≤ℤ pos most → w ≤ℤ (pos limit -ℤ pos v) → trimmed_to w v hardest most limit ≡ w
  inside_stands l a r = into ∙ inside_kept (min hardest v) _ w l (below_both w (pos most) (pos limit -ℤ pos v) a r)

  -- what lies below the lower end becomes the lower end, wherever the upper one is
  pub below_raised : w ≤ℤ neg_ℤ (pos (min hardest v)) → trimmed_to w v hardest most limit ≡ neg_ℤ (pos (min hardest v))
  below_raised h = into ∙ below_low (min hardest v) _ w h

  capped_at : (top : ℤ) → smaller_of (pos most) (pos limit -ℤ pos v) ≡ top → neg_ℤ (pos (min hardest v)) ≤ℤ top → top ≤ℤ w → trimmed_to w v hardest most limit ≡ top
  capped_at top e l h = into ∙ ap (λ (z : ℤ). trimmed_into (neg_ℤ (pos (min hardest v))) z w) e ∙ above_high (min hardest v) top w l h

  -- what lies above the upper end becomes the upper end: `most`, where that is the smaller of the two,
  pub above_capped_at_most : pos most ≤ℤ (pos limit -ℤ pos v) → pos most ≤ℤ w → trimmed_to w v hardest most limit ≡ pos most
  above_capped_at_most s h = capped_at (pos most) (smaller_right (pos most) (pos limit -ℤ pos v) s) (neg_le_pos (min hardest v) most) h

  -- or what the limit leaves, where that is, and the ends do not cross
  pub above_capped_at_limit : (pos limit -ℤ pos v) ≤ℤ pos most → neg_ℤ (pos (min hardest v)) ≤ℤ (pos limit -ℤ pos v) → (pos limit -ℤ pos v) ≤ℤ w → trimmed_to w v hardest most limit ≡ pos limit -ℤ pos v
  above_capped_at_limit s l h = capped_at (pos limit -ℤ pos v) (smaller_left (pos limit -ℤ pos v) (pos most) s) l h

  -- where they meet or cross, which takes a speed at or above the limit, the lower end wins whatever the units are
  pub crossed_brakes : (pos limit -ℤ pos v) ≤ℤ neg_ℤ (pos (min hardest v)) → trimmed_to w v hardest most limit ≡ neg_ℤ (pos (min hardest v))
  crossed_brakes h = into ∙ ends_crossed (min hardest v) _ w (not_above_right (pos most) (pos limit -ℤ pos v) h)

  module _ (allowed : v ≤ limit) where
    ends : trimmed_to w v hardest most limit ≡ trimmed_into (neg_ℤ (pos (min hardest v))) (pos (min most (limit - v))) w
    ends =
        into
        ∙ ap (λ (h : ℤ). trimmed_into (neg_ℤ (pos (min hardest v))) h w)
        (ap (smaller_of (pos most)) (pos_minus limit v allowed) ∙ smaller_pos most (limit - v))

    -- a speed within the limit stays there, and rises by no more than `most`
    pub new_speed : NewSpeed w v hardest most limit
    new_speed =
        let k = min hardest v in
        let h = min most (limit - v) in
        let s = sum_between v k h (min-le_right hardest v) (between k h w) in
        record { speed = s.value; is = ap (λ (t : ℤ). pos v +ℤ t) ends ∙ s.is; rises_at_most = omega arith; within_limit = omega arith }

-- ---- readings

-- both doubles of a reading are exact
pub reading_exact : (p v : ℕ) → p < 2 ^ 53 → v < 2 ^ 53 → HasValue (reading_of p v).position false p 2048 × HasValue (reading_of p v).speed false v 128
unfolding reading_of
reading_exact p v hp hv = (double_of_exact p 11 hp (lit≤ tt), double_of_exact v 7 hv (lit≤ tt))
