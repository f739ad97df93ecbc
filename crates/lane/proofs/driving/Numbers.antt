-- A number of 32 bits, read as one with a sign, and the units that it makes where 16 bits hold that.
use mathlib.Core.Path.{◌≡◌, refl}
use mathlib.Core.Bool.{Bool, true, false}
use Prim.Native.Nat.{ℕ, zero, suc, ◌-◌, ◌^◌, ◌≤◌, ◌<◌}
use native.Mathlib.Omega.{arith}
use borrow.Author.Tests.{lt-ltb, le-ltb, ltb-true, ltb-false}
use Rattle.std.specs.Prelude.{Some, None}
use lib.Dec.{ltb}
use lib.IntN.{neg_ℤ, pos}
use mir.Syntax.{w16, w32}
use mir.Val.{SFits, to_z}
use mir.Facts.{to_z_pos}
use Rattle.wish.specs.declared.Wish.TheVariants.{Units}
use Rattle.lane.specs.Given.{units_made}

module _ (v : ℕ) (high : v < 2 ^ 32) where
  positive : v < 2147483648 → to_z w32 v ≡ pos v
  positive h = to_z_pos w32 {n = v} h

  negative : 2147483648 ≤ v → to_z w32 v ≡ neg_ℤ (pos (4294967296 - v))
  negative h =
      let e : 4294967296 - v ≡ suc (4294967296 - suc v) = omega arith in
      rw (le-ltb v 2147483648 h, e) refl

  small : (n : ℕ) → SFits w16 (neg_ℤ (pos n)) → n ≤ 32768
  small zero f = omega arith
  small (suc n) f = omega (arith, f.sfits)

  fits : (n : ℕ) → n ≤ 32768 → SFits w16 (neg_ℤ (pos n))
  fits zero h = record { sfits = omega arith }
  fits (suc n) h = record { sfits = omega arith }

  -- the three ranges of the definition
  below : v < 32768 → units_made v ≡ Some (Units (pos v))
  unfolding units_made
  below h = rw (lt-ltb v 32768 h) refl

  between : 32768 ≤ v → v < 4294934528 → units_made v ≡ None
  unfolding units_made
  between h k = rw (le-ltb v 32768 h, lt-ltb v 4294934528 k) refl

  above : 4294934528 ≤ v → units_made v ≡ Some (Units (neg_ℤ (pos (4294967296 - v))))
  unfolding units_made
  above h = rw (le-ltb v 32768 (omega arith), le-ltb v 4294934528 h) refl

  -- 16 bits do not hold what lies between
  too_wide : 32768 ≤ v → v < 4294934528 → ¬ SFits w16 (to_z w32 v)
  too_wide h k = by_test (ltb v 2147483648) refl
    where
      by_test : (t : Bool) → ltb v 2147483648 ≡ t → ¬ SFits w16 (to_z w32 v)
      by_test true e f = let g = rw (positive (ltb-true v 2147483648 e)) at f.sfits in omega (arith, g)
      by_test false e f =
          let g : SFits w16 (neg_ℤ (pos (4294967296 - v))) = rw (← negative (ltb-false v 2147483648 e)) f in
          omega (arith, small _ g)

  pub units_read : SFits w16 (to_z w32 v) → units_made v ≡ Some (Units (to_z w32 v))
  units_read f = by_test (ltb v 32768) (ltb v 4294934528) refl refl
    where
      by_test : (s t : Bool) → ltb v 32768 ≡ s → ltb v 4294934528 ≡ t → units_made v ≡ Some (Units (to_z w32 v))
      by_test true t d e = let h = ltb-true v 32768 d in rw (positive (omega (arith, h))) (below h)
      by_test false true d e = absurd (too_wide (ltb-false v 32768 d) (ltb-true v 4294934528 e) f)
      by_test false false d e = let h = ltb-false v 4294934528 e in rw (negative (omega (arith, h))) (above h)

  pub none_read : ¬ SFits w16 (to_z w32 v) → units_made v ≡ None
  none_read f = by_test (ltb v 32768) (ltb v 4294934528) refl refl
    where
      by_test : (s t : Bool) → ltb v 32768 ≡ s → ltb v 4294934528 ≡ t → units_made v ≡ None
      by_test true t d e = let h = ltb-true v 32768 d in absurd (f (rw (positive (omega (arith, h))) (record { sfits = h })))
      by_test false true d e = between (ltb-false v 32768 d) (ltb-true v 4294934528 e)
      by_test false false d e = let h = ltb-false v 4294934528 e in absurd (f (rw (negative (omega (arith, h))) (fits (4294967296 - v) (omega (arith, h)))))
