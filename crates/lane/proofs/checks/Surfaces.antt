-- The surface rows: what is known of a sound row, of a carrier's guaranteed braking by it, and of each row of a table of which none is unsound.
use mathlib.Core.Path.{◌≡◌, refl}
use mathlib.Core.Bool.{Bool, true, false, not, or-true}
use mathlib.Core.List.{List}
use Prim.Native.Nat.{ℕ, zero, suc, ◌+◌, ◌≤◌, ◌<◌}
use native.Mathlib.Nat.{le_trans}
use native.Mathlib.Numerals.{add-one}
use native.Mathlib.Omega.{arith}
use borrow.Author.Tests.{leb-true, eqb-true, eqb-false, not-false}
use lib.Dec.{eqb, leb}
use Rattle.lane.specs.declared.Carrier.{Carrier}
use Rattle.lane.specs.declared.Row.{Row}
use Rattle.lane.specs.Safety.{guaranteed_rate}
use Rattle.lane.specs.Surface.{row_of, sound_row, unsound_below, unsound}
use Rattle.lane.proofs.lists.Passed.{both}
use Rattle.lane.proofs.lists.Tests.{neither}

pub record SoundRow (r : Row) : Type 0 where
  pub brakes : 1 ≤ r.guaranteed
  pub brakes_harder : r.guaranteed ≤ r.hardest
  pub hardest_most : r.hardest ≤ 255
  pub gains : 1 ≤ r.most
  pub gains_most : r.most ≤ 255

pub sound_row_is : (r : Row) → sound_row r ≡ true → SoundRow r
unfolding sound_row
sound_row_is r e =
    let t = both _ (leb r.most 255) e in
    let u = both _ (leb 1 r.most) t.0 in
    let v = both _ (leb r.hardest 255) u.0 in
    let w = both (leb 1 r.guaranteed) (leb r.guaranteed r.hardest) v.0 in
    record {
      brakes = leb-true _ _ w.0;
      brakes_harder = leb-true _ _ w.1;
      hardest_most = leb-true _ _ v.1;
      gains = leb-true _ _ u.1;
      gains_most = leb-true _ _ t.1;
    }

-- what a function requires of the row that it is handed
pub row_brakes : (r : Row) → SoundRow r → (1 ≤ r.guaranteed) × (1 ≤ r.hardest)
row_brakes r s = (s.brakes, le_trans s.brakes s.brakes_harder)

-- and with it of a carrier, whose own rate may be above the row's or below it
pub rate_brakes : (r : Row) (c : Carrier) → (1 ≤ r.guaranteed) × (1 ≤ r.hardest) → 1 ≤ c.rate → (1 ≤ guaranteed_rate r c) × (1 ≤ r.hardest)
rate_brakes r c s h = (omega (arith, s.0), s.1)

-- "the guaranteed one at most the hardest", whatever the own rate
pub rate_no_harder : (r : Row) (c : Carrier) → SoundRow r → guaranteed_rate r c ≤ r.hardest
rate_no_harder r c s = omega (arith, s.brakes_harder)

-- ---- a table
module _ (rows : List Row) where
  below_sound : (n code : ℕ) → code < n → unsound_below n rows ≡ false → sound_row (row_of rows code) ≡ true
  unfolding unsound_below
  below_sound zero code h e = absurd (omega arith)
  below_sound (suc n) code h e = by_place (eqb code n) refl (below_sound n code)
    where
      t : (unsound_below n rows ≡ false) × (not (sound_row (row_of rows n)) ≡ false)
      t = neither (unsound_below n rows) (not (sound_row (row_of rows n))) e

      by_place : (b : Bool) → eqb code n ≡ b → (code < n → unsound_below n rows ≡ false → sound_row (row_of rows code) ≡ true) → sound_row (row_of rows code) ≡ true
      by_place true p before = rw (eqb-true code n p) (not-false _ t.1)
      by_place false p before = before (omega (arith, eqb-false code n p)) t.0

  pub sound_at : (code : ℕ) → code ≤ 7 → unsound rows ≡ false → SoundRow (row_of rows code)
  unfolding unsound
  sound_at code h e = sound_row_is (row_of rows code) (below_sound 8 code (omega arith) e)

  -- ---- the pass over the codes
  pub none_passed : unsound_below 0 rows ≡ false
  unfolding unsound_below
  none_passed = refl

  pub sound_passed : (code : ℕ) → unsound_below code rows ≡ false → not (sound_row (row_of rows code)) ≡ false → unsound_below (code + 1) rows ≡ false
  unfolding unsound_below
  sound_passed code passed e = rw (add-one code, passed, e) refl

  still_unsound : (n code : ℕ) → code ≤ n → unsound_below code rows ≡ true → unsound_below n rows ≡ true
  unfolding unsound_below
  still_unsound zero code h e = let z : code ≡ 0 = omega arith in rw z at e
  still_unsound (suc n) code h e = by_place (eqb code (suc n)) refl (λ k. still_unsound n code k e)
    where
      by_place : (b : Bool) → eqb code (suc n) ≡ b → (code ≤ n → unsound_below n rows ≡ true) → unsound_below (suc n) rows ≡ true
      by_place true p before = rw (eqb-true code (suc n) p) at e
      by_place false p before = rw (before (omega (arith, eqb-false code (suc n) p))) refl

  pub unsound_found : (code : ℕ) → code < 8 → not (sound_row (row_of rows code)) ≡ true → unsound rows ≡ true
  unfolding unsound unsound_below
  unsound_found code h e = still_unsound 8 (suc code) (omega arith) (rw (e, or-true))

  pub all_passed : (code : ℕ) → 8 ≤ code → code ≤ 8 → unsound_below code rows ≡ false → unsound rows ≡ false
  unfolding unsound
  all_passed code h k e = let p : code ≡ 8 = omega arith in rw p at e
