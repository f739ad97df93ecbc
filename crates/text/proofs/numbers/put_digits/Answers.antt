-- `text::numbers::put_digits` meets its contract: the digits that are left, written into the buffer as it is, give what all of them give at first.
use mathlib.Core.Path.{◌≡◌, refl, sym, ap, ◌∙◌}
use mathlib.Core.List.{List}
use Prim.Native.Nat.{ℕ, suc, ◌+◌, ◌-◌, ◌*◌, ◌/◌, ◌%◌, ◌≤◌}
use native.Mathlib.Omega.{arith}
use lib.ListN.{length}
use Rattle.text.specs.Numbers.{digit, digits}
use Rattle.text.specs.Lines.{written}
use Rattle.text.proofs.Digits.{length_digits, digit_small, square, two_of, two_more}
use Rattle.text.proofs.Laws.{written_nothing, written_before, written_one}
use Rattle.text.proofs.numbers.put_digits.Goals as goal

-- the last two digits put, and then those before them
two_first : (at b left n : ℕ) (buffer : List ℕ) → 2 ≤ left → at + left ≤ length buffer
    → written at (digits b (left - 2) (n / (b * b))) (written (at + (left - 2)) (digits b 2 n) buffer) ≡ written at (digits b left n) buffer
two_first at b left n buffer h room =
    let front : List ℕ = digits b (left - 2) (n / (b * b)) in
    let back : List ℕ = digits b 2 n in
    let long : length front ≡ left - 2 = length_digits b (left - 2) (n / (b * b)) in
    let e : suc (suc (left - 2)) ≡ left = omega arith in
    cc (written_before at front back buffer (omega (arith, length_digits b 2 n)), two_more b (left - 2) n)

pub overflow_mul-square : goal.overflow_mul-square
overflow_mul-square c = let p = square c.requires.base_nonzero in omega arith

pub loop-left-init : goal.loop-left-init
loop-left-init c = (omega arith, refl, refl)

pub overflow_sub-left : goal.overflow_sub-left
overflow_sub-left c = omega arith

pub overflow_add-at : goal.overflow_add-at
overflow_add-at c = omega arith

pub nonzero_rem-rest : goal.nonzero_rem-rest
nonzero_rem-rest c = (square c.requires.base_nonzero).0

pub put_two-requires : goal.put_two-requires
put_two-requires c =
    record { base_nonzero = c.requires.base_nonzero; at_in_bounds = omega arith }

pub nonzero_div-rest : goal.nonzero_div-rest
nonzero_div-rest c = (square c.requires.base_nonzero).0

pub loop-left-smaller : goal.loop-left-smaller
loop-left-smaller c = omega arith

pub loop-left-preserved : goal.loop-left-preserved
loop-left-preserved c =
    let now = c.loop-left in
    let a = c.args in (
      omega arith,
      c.put_two.auto.out ∙ now.invariant.1,
      rw (c.put_two.ensures, two_of a.base now.rest c.requires.base_nonzero.0)
          (two_first a.at a.base now.left now.rest now.out (omega arith) (omega arith) ∙ now.invariant.2),
    )

pub nonzero_rem-rest-then-left-gt0 : goal.nonzero_rem-rest-then-left-gt0
nonzero_rem-rest-then-left-gt0 c = omega arith

pub digit-requires : goal.digit-requires
digit-requires c = digit_small _ c.requires.base_nonzero

pub bounds-out-at : goal.bounds-out-at
bounds-out-at c = omega arith

pub returns-then-left-gt0 : goal.returns-then-left-gt0
unfolding digits
returns-then-left-gt0 c =
    let now = c.loop-left in
    let a = c.args in
    let e : 1 ≡ now.left = omega arith in
    rw (c.digit.ensures, ← written_one a.at (digit (now.rest % a.base)) now.out (omega arith))
    (ap (λ (k : ℕ). written a.at (digits a.base k now.rest) now.out) e ∙ now.invariant.2)

pub returns-else-left-gt0 : goal.returns-else-left-gt0
unfolding digits
returns-else-left-gt0 c =
    let now = c.loop-left in
    let a = c.args in
    let e : 0 ≡ now.left = omega arith in
    sym (written_nothing a.at now.out) ∙ ap (λ (k : ℕ). written a.at (digits a.base k now.rest) now.out) e ∙ now.invariant.2
