-- `wish::units_within` meets its contract: the order that `contains` goes by is IEEE 754's. Assumes nothing.
use borrow.Author.Rules.{rules}
use mathlib.Core.Path.{◌≡◌, refl, sym, ap, ap₂, ◌∙◌, subst}
use mathlib.Core.Bool.{Bool, true, false, ◌&&◌, ◌||◌, cond}
use lib.IntN.{ℤ, pos}
use lib.Dec.{lit≤}
use lib.Signed.{mag}
use Prim.Native.Nat.{◌≤◌}
use lib.Ieee.{Float, fin, lt, eq, le, mul, binary32}
use Rattle.std.specs.Ordering.{float_partial_cmp, partial_le, partial_lt, is_some_and, is_le}
use Rattle.std.proofs.Common.{Option, Some, None, is_some, IfSome, Less, Equal, Greater}
use Rattle.std.specs.Range.{range_inclusive_start, range_inclusive_end}
use Rattle.wish.specs.Rounding.{rounded_times}
use Rattle.wish.specs.Units.{lies_within, units_within}
use Rattle.wish.proofs.Values.{range, rounded_at_most}
use Rattle.wish.proofs.units_within.Goals.{After-contains}
use Rattle.wish.proofs.units_within.Goals as goal

at_most : (x y : Float) → partial_le float_partial_cmp x y ≡ le x y
unfolding le
at_most x y = by_tests (lt x y) (eq x y) (lt y x)
  where
    by_tests : (a b c : Bool) → is_some_and is_le (cond a (Some Less) (cond b (Some Equal) (cond c (Some Greater) None))) ≡ a || b
    by_tests true b c = refl
    by_tests false true c = refl
    by_tests false false true = refl
    by_tests false false false = refl

contained : (low high x : Float) (spent : Bool) → spent ≡ false
    → partial_le float_partial_cmp low x && cond spent (partial_lt float_partial_cmp x high) (partial_le float_partial_cmp x high) ≡ lies_within low high x
unfolding lies_within
contained low high x spent e = rw e (ap₂ (λ (a b : Bool). a && b) (at_most low x) (at_most x high))

inside : (c : After-contains) → c.contains.result ≡ lies_within (range_inclusive_start c.args.range) (range_inclusive_end c.args.range) c.args.x
inside c = c.contains.ensures.value ∙ contained _ _ c.args.x _ c.requires.whole

pub then-requires : goal.then-requires
then-requires c = λ t.
    let h : lies_within (fin true 1 (pos 13)) (fin false 1 (pos 13)) (mul binary32 c.args.x c.args.factor) ≡ true = c.requires.in_bounds (sym (inside (goal.at.then-requires c).After-contains) ∙ t) in
    search rules

-- what `then` gives, by the test and what its closure gives
chosen : (o : Option ℤ) (t : Bool) (z : ℤ) (P : ℤ → Type 0) → is_some o ≡ t → IfSome o P → ((r : ℤ) → P r → r ≡ z) → o ≡ cond t (Some z) None
chosen None true z P e p f = cc
chosen None false z P e p f = refl
chosen (Some r) true z P e p f = ap Some (f r p)
chosen (Some r) false z P e p f = cc

few : (t : Bool) (q z : ℤ) → cond t (Some q) None ≡ Some z → (t ≡ true → mag q ≤ 8192) → mag z ≤ 8192
few true q z e f = let h : q ≡ z = cc in subst (λ (x : ℤ). mag x ≤ 8192) h (f refl)
few false q z e f = cc

pub returns : goal.returns
unfolding units_within
returns c =
    let a = c.args in
    let y = mul binary32 a.x a.factor in
    let z = rounded_times 1 y in
    let e = c.then.ensures.variant ∙ inside (goal.at.returns c).After-contains in
    let given = chosen c.then.result _ z _ e c.then.ensures.some (λ r p. search rules) in
    let bound : (t : lies_within (range_inclusive_start a.range) (range_inclusive_end a.range) a.x ≡ true) → mag z ≤ 8192 = λ t. rounded_at_most 8192 1 y (range true 1 13 13 (lit≤ tt) y (c.requires.in_bounds t)) in
    record { small = λ w h. few _ z w (sym given ∙ h) bound; given = given }
