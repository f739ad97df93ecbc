-- `text::numbers::read_digits` meets its contract: what is read, followed by the digits that are left, gives the answer of them all.
use mathlib.Core.Path.{◌≡◌, sym, ◌∙◌}
use mathlib.Core.List.{List}
use Prim.Native.Nat.{ℕ, ◌+◌, ◌*◌, ◌≤◌, ◌<◌}
use native.Mathlib.Nat.{le-div_iff_mul-le, div-lt_iff_lt-mul}
use native.Mathlib.Numerals.{add-one}
use native.Mathlib.Omega.{arith}
use lib.ListN.{length, get_or, drop, drop_of_length-le}
use lib.Seq.{drop-cons}
use Rattle.std.specs.Prelude.{Some, None}
use Rattle.text.specs.Fields.{digit_in}
use Rattle.text.proofs.Reading.{within_in, within_end, within_over, within_next, within_none}
use Rattle.text.proofs.numbers.read_digits.Goals.{Else-most-digit-2}
use Rattle.text.proofs.numbers.read_digits.Goals as goal

-- the digit d at the place i of ds, after those that stand for a
module _ (b most a : ℕ) (ds : List ℕ) (i d : ℕ) (h : i < length ds) (e : d ≡ digit_in (get_or ds i 0)) where
  next : d < b → within_in b most (a * b + d) (drop (i + 1) ds) ≡ within_in b most a (drop i ds)
  next g = rw (add-one, drop-cons ds i 0 h, e) (sym (within_next b most a (get_or ds i 0) _ (omega arith)))

  none : b ≤ d → within_in b most a (drop i ds) ≡ None
  none g = rw (drop-cons ds i 0 h) (within_none b most a (get_or ds i 0) _ (omega arith))

  over : d < b → most < a * b + d → within_in b most a (drop i ds) ≡ None
  over g m = sym (next g) ∙ within_over b most (a * b + d) (drop (i + 1) ds) (omega arith) m

done : (b most a : ℕ) (ds : List ℕ) (i : ℕ) → length ds ≤ i → a ≤ most → within_in b most a (drop i ds) ≡ Some a
done b most a ds i h g = rw (drop_of_length-le ds h) (within_end b most a g)

-- the next value, where the tests let it pass
room : (c : Else-most-digit-2)
    → c.loop-byte.value * c.args.base + c.digit_in-digit.result ≤ c.args.most
room c = omega (arith, (le-div_iff_mul-le c.requires.0).0 c.if-most-digit-2.false)

pub returns-then-digit-base : goal.returns-then-digit-base
unfolding within_in
returns-then-digit-base c =
    let now = c.loop-byte in
    sym (none _ _ now.value _ now.byte-index _ (omega arith) c.digit_in-digit.ensures (omega arith)) ∙ now.invariant.1

pub returns-then-most-digit : goal.returns-then-most-digit
unfolding within_in
returns-then-most-digit c =
    let now = c.loop-byte in
    sym (over _ _ now.value _ now.byte-index _ (omega arith) c.digit_in-digit.ensures (omega arith) (omega arith)) ∙ now.invariant.1

pub returns-then-most-digit-2 : goal.returns-then-most-digit-2
unfolding within_in
returns-then-most-digit-2 c =
    let now = c.loop-byte in
    let base = c.requires.0 in
    sym
    (over _ _ now.value _ now.byte-index _ (omega arith) c.digit_in-digit.ensures (omega arith)
    (omega (arith, (div-lt_iff_lt-mul base).0 c.if-most-digit-2.true)))
    ∙ now.invariant.1

pub overflow_mul-value : goal.overflow_mul-value
overflow_mul-value c = omega (arith, room (goal.at.overflow_mul-value c).Else-most-digit-2)

pub overflow_add-value : goal.overflow_add-value
overflow_add-value c = omega (arith, room (goal.at.overflow_add-value c).Else-most-digit-2)

pub loop-byte-preserved : goal.loop-byte-preserved
loop-byte-preserved c =
    let now = c.loop-byte in
    let digit = c.digit_in-digit.ensures in
    (room (goal.at.loop-byte-preserved c).Else-most-digit-2, next _ _ now.value _ now.byte-index _ (omega arith) digit (omega arith) ∙ now.invariant.1)

pub returns : goal.returns
unfolding within_in
returns c =
    let now = c.loop-byte in
    sym (done _ _ _ _ now.byte-index (omega arith) now.invariant.0) ∙ now.invariant.1
