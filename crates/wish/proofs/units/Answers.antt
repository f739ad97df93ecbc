-- `wish::units` meets its contract, by cases on the wish. Assumes nothing.
use borrow.Author.Rules.{rules}
use mathlib.Core.Path.{◌≡◌, refl, sym, ap, ◌∙◌, subst}
use mathlib.Core.Bool.{Bool, true, false, cond}
use Prim.Native.Nat.{ℕ, ◌+◌, ◌≤◌, ◌<◌, ◌^◌, zero-le}
use native.Mathlib.Nat.{lt_of_le_of_lt}
use native.Mathlib.Omega.{arith}
use lib.Dec.{T, lit≤, lit<}
use lib.IntN.{ℤ, pos, ◌-ℤ◌}
use lib.Signed.{mag}
use lib.Ieee.{Float, fin, of_bits, neg, fits, binary32}
use mir.Syntax.{w16, w64}
use mir.Val.{SFits, to_z, of_z}
use mir.Facts.{to_z-of_z, sfits_widen}
use Rattle.std.proofs.Common.{Option, Some, None, option_map, MatchOption, IsSomeAnd}
use Rattle.wish.specs.Rounding.{rounded_times}
use Rattle.wish.specs.Units.{lies_within, units_within, acceleration_units, target_units, units_of, size_in}
use Rattle.wish.proofs.Ints.{mag_minus, unsigned_read, minus_is}
use Rattle.wish.proofs.Products.{product_within, product_units}
use Rattle.wish.proofs.units.Goals.{After-map, In-Acceleration, In-TargetSpeed, In-Units}
use Rattle.wish.proofs.units.Goals as goal

-- ---- units, less the present speed
less : ℕ → Option ℤ → Option ℤ
less v o = option_map (λ z. z -ℤ pos v) o

-- what `map` gives, by what its closure gives
mapped : (o r : Option ℤ) (v : ℕ) (P : ℤ → ℤ → Type 0) → MatchOption o (r ≡ None) (λ z. IsSomeAnd r (P z)) → ((z y : ℤ) → o ≡ Some z → P z y → y ≡ z -ℤ pos v) → r ≡ less v o
unfolding less
mapped None r v P p f = p
mapped (Some z) None v P p f = absurd p
mapped (Some z) (Some y) v P p f = ap Some (f z y refl p)

less_small : (o : Option ℤ) (v : ℕ) → ((z : ℤ) → o ≡ Some z → mag z ≤ 8192) → size_in (less v o) ≤ 32767 + v
unfolding less
less_small None v f = zero-le
less_small (Some z) v f = let m = f z refl in omega (arith, mag_minus z v)

less_within : (v : ℕ) (lo hi x : Float) (z : ℤ) → less v (units_within lo hi x z) ≡ units_within lo hi x (z -ℤ pos v)
unfolding less units_within
less_within v lo hi x z = go (lies_within lo hi x)
  where
    go : (t : Bool) → less v (cond t (Some z) None) ≡ cond t (Some (z -ℤ pos v)) None
    go true = refl
    go false = refl

-- ---- whole units
-- the units of the arm are an `i16`
narrow : (c : In-Units) → SFits w16 c.in-Units.u
narrow c = search rules

pub returns-in-Units-clause-given : goal.returns-in-Units-clause-given
unfolding units_of
returns-in-Units-clause-given c =
    let n = narrow (goal.at.returns-in-Units-clause-given c).In-Units in
    let wide : SFits w64 (to_z w16 (of_z w16 c.in-Units.u)) = subst (SFits w64) (sym (to_z-of_z n)) (sfits_widen tt n) in
    rw c.in-Units.is (ap Some (to_z-of_z wide ∙ to_z-of_z n))

-- ---- an acceleration
held : (c : In-Acceleration) → T (fits binary32 c.in-Acceleration.x)
held c = search rules

pub units_within-requires-clause-in_bounds : goal.units_within-requires-clause-in_bounds
unfolding of_bits neg
units_within-requires-clause-in_bounds c = λ e.
    product_within true 1 4 4 4 (lit≤ tt) (lit≤ tt) c.in-Acceleration.x (held (goal.at.units_within-requires-clause-in_bounds c).In-Acceleration) (rw (c.new.ensures.start, c.new.ensures.end) at e)

pub returns-in-Acceleration-clause-given : goal.returns-in-Acceleration-clause-given
unfolding of_bits neg units_of acceleration_units
returns-in-Acceleration-clause-given c =
    let g = rw (c.new.ensures.start, c.new.ensures.end) at c.units_within.ensures.given in
    rw c.in-Acceleration.is (g ∙ product_units true 1 4 4 4 (lit≤ tt) (lit≤ tt) c.in-Acceleration.x (held (goal.at.returns-in-Acceleration-clause-given c).In-Acceleration))

-- ---- a target speed
held_target : (c : In-TargetSpeed) → T (fits binary32 c.in-TargetSpeed.x)
held_target c = search rules

pub units_within-requires-in-TargetSpeed-clause-in_bounds : goal.units_within-requires-in-TargetSpeed-clause-in_bounds
unfolding of_bits
units_within-requires-in-TargetSpeed-clause-in_bounds c = λ e.
    product_within false 0 0 6 7 (lit≤ tt) (lit≤ tt) c.in-TargetSpeed.x (held_target (goal.at.units_within-requires-in-TargetSpeed-clause-in_bounds c).In-TargetSpeed) (rw (c.new-in-TargetSpeed.ensures.start, c.new-in-TargetSpeed.ensures.end) at e)

slower : (c : After-map) → c.map.result ≡ less c.args.v c.units_within-in-TargetSpeed.result
slower c = mapped c.units_within-in-TargetSpeed.result c.map.result c.args.v _ c.map.ensures.cases
    (λ z y e p.
    let few : mag z < 2 ^ 62 = lt_of_le_of_lt (c.units_within-in-TargetSpeed.ensures.small z e) (lit< tt) in
    let read : to_z w64 (of_z w64 z) ≡ z = to_z-of_z {w = w64} (record { sfits = omega arith }) in
    let gives : y ≡ to_z w64 (of_z w64 (to_z w64 (of_z w64 z) -ℤ to_z w64 c.args.v)) = search rules in
    gives ∙ minus_is z c.args.v read (unsigned_read c.ranges.v.fits) few c.ranges.v.fits)

pub returns-in-TargetSpeed-clause-given : goal.returns-in-TargetSpeed-clause-given
unfolding of_bits units_of target_units
returns-in-TargetSpeed-clause-given c =
    let x = c.in-TargetSpeed.x in
    let low = fin false 0 (pos 0) in
    let high = fin false 1 (pos 6) in
    let g = rw (c.new-in-TargetSpeed.ensures.start, c.new-in-TargetSpeed.ensures.end) at c.units_within-in-TargetSpeed.ensures.given in
    rw c.in-TargetSpeed.is (slower (goal.at.returns-in-TargetSpeed-clause-given c).After-map ∙ ap (less c.args.v) (g ∙ product_units false 0 0 6 7 (lit≤ tt) (lit≤ tt) x (held_target (goal.at.returns-in-TargetSpeed-clause-given c).In-TargetSpeed)) ∙ less_within c.args.v low high x (rounded_times 128 x))

pub returns-in-TargetSpeed-clause-small : goal.returns-in-TargetSpeed-clause-small
returns-in-TargetSpeed-clause-small c = rw (slower (goal.at.returns-in-TargetSpeed-clause-small c).After-map) (less_small c.units_within-in-TargetSpeed.result c.args.v c.units_within-in-TargetSpeed.ensures.small)

-- ---- hold
pub returns-in-Hold-clause-given : goal.returns-in-Hold-clause-given
unfolding units_of
returns-in-Hold-clause-given c = rw c.in-Hold.is refl
