-- `wish::rounded` meets its contract: y is the fraction that `Fraction::of` gives, and `rounded_size` rounds it. Assumes nothing.
use mathlib.Core.Path.{◌≡◌, refl, sym, ap, ◌∙◌}
use mathlib.Core.Bool.{Bool, true, false}
use Prim.Native.Nat.{ℕ, ◌*◌, ◌^◌, ◌<◌}
use native.Mathlib.Nat.{mul-one}
use native.Mathlib.Omega.{arith}
use lib.Dec.{lit<}
use lib.IntN.{pos, +ℤ_idl}
use lib.Pow.{pow_pos}
use Rattle.wish.specs.Rounding.{signed, rounded_size, rounded_times}
use Rattle.wish.proofs.Values.{rounded_value}
use Rattle.wish.proofs.Ints.{unsigned_read, minus_is}
use Rattle.wish.proofs.rounded.Goals.{After-rounded_size-size}
use Rattle.wish.proofs.rounded.Goals as goal

-- the size to which the fraction is rounded is, with the sign of y, y rounded
whole : (c : After-rounded_size-size) (s : Bool) → c.of-f.result.negative ≡ s → signed s c.rounded_size-size.result ≡ rounded_times 1 c.args.y
whole c s e =
    let r = c.of-f.result in
    ap (signed s) (c.rounded_size-size.ensures ∙ ap (λ (x : ℕ). rounded_size x (2 ^ r.shift)) (sym (mul-one r.digits)))
    ∙ ap (λ (t : Bool). signed t (rounded_size (r.digits * 1) (2 ^ r.shift))) (sym e)
    ∙ sym (rounded_value 1 c.args.y r.negative r.digits (2 ^ r.shift) (pow_pos r.shift) c.of-f.ensures.0)

small : (c : After-rounded_size-size) → c.rounded_size-size.result < 2 ^ 32
small c = omega arith

pub returns-then-f : goal.returns-then-f
returns-then-f c = let h = small (goal.at.returns-then-f c).After-rounded_size-size in minus_is (pos 0) _ refl (unsigned_read h) (lit< tt) h ∙ +ℤ_idl _ ∙ whole (goal.at.returns-then-f c).After-rounded_size-size true c.if-f.true

pub returns-else-f : goal.returns-else-f
returns-else-f c = unsigned_read (small (goal.at.returns-else-f c).After-rounded_size-size) ∙ whole (goal.at.returns-else-f c).After-rounded_size-size false c.if-f.false
