-- `wish::trimmed` meets its contract: its ends are those of the definition, which nothing of 32 bits brings near the bounds of 64. Assumes nothing.
use borrow.Author.Rules.{rules}
use mathlib.Core.Path.{◌≡◌, refl, ap, ap₂, ◌∙◌}
use Prim.Native.Nat.{◌<◌, ◌^◌, min}
use native.Mathlib.Nat.{lt_of_le_of_lt, lt_of_lt_of_le, min-le_left}
use lib.Dec.{lit≤, lit<}
use lib.IntN.{pos, neg_ℤ, ◌-ℤ◌, +ℤ_idl}
use mir.Syntax.{w64}
use mir.Val.{to_z, of_z}
use Rattle.std.specs.Int.{int_min, int_max}
use Rattle.wish.proofs.Ints.{unsigned_read, minus_is}
use Rattle.wish.proofs.Trimming.{trimmed_is}
use Rattle.wish.specs.Trimming.{trimmed_to}
use Rattle.wish.proofs.trimmed.Goals.{After-min, After-min-2}
use Rattle.wish.proofs.trimmed.Goals as goal

-- the lower end, and the units with the upper one applied, as the machine reads them
low : (c : After-min) → to_z w64 (of_z w64 (pos 0 -ℤ to_z w64 c.min.result)) ≡ neg_ℤ (pos (min c.args.hardest c.args.v))
low c =
    let k = min c.args.hardest c.args.v in
    let few : k < 2 ^ 32 = lt_of_le_of_lt (min-le_left c.args.hardest c.args.v) c.ranges.hardest.fits in
    minus_is (pos 0) k refl (ap (to_z w64) c.min.ensures ∙ unsigned_read few) (lit< tt) few ∙ +ℤ_idl _

capped : (c : After-min-2) → let a = c.args in to_z w64 (of_z w64 c.min-2.result) ≡ int_min a.w (int_min (pos a.limit -ℤ pos a.v) (pos a.most))
capped c =
    let a = c.args in
    let r = c.ranges in
    let room : to_z w64 (of_z w64 (to_z w64 a.limit -ℤ to_z w64 a.v)) ≡ pos a.limit -ℤ pos a.v =
    minus_is (pos a.limit) a.v (unsigned_read r.limit.fits) (unsigned_read r.v.fits) (lt_of_lt_of_le r.limit.fits (lit≤ tt)) r.v.fits in
    let w : to_z w64 (of_z w64 a.w) ≡ a.w = search rules in
    let high : to_z w64 (of_z w64 c.min-high.result) ≡ c.min-high.result = search rules in
    let read : to_z w64 (of_z w64 c.min-2.result) ≡ c.min-2.result = search rules in
    read ∙ c.min-2.ensures.value ∙ ap₂ int_min w (high ∙ c.min-high.ensures.value ∙ ap₂ int_min room (unsigned_read r.most.fits))

-- the definition, at the two numbers that the machine compares
is : (c : After-min-2) → let a = c.args in
    let low = to_z w64 (of_z w64 (pos 0 -ℤ to_z w64 c.min.result)) in
    let capped = to_z w64 (of_z w64 c.min-2.result) in
    int_max capped low ≡ trimmed_to a.w a.v a.hardest a.most a.limit
is c = let a = c.args in ap₂ int_max (capped c) (low c.before.before) ∙ trimmed_is a.w a.v a.hardest a.most a.limit

pub returns : goal.returns
returns c =
    let read : to_z w64 (of_z w64 c.max.result) ≡ c.max.result = search rules in
    read ∙ c.max.ensures.value ∙ is (goal.at.returns c).After-min-2
