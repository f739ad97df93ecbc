-- `text::numbers::decimal_length` meets its contract: the digits counted, with those of what is left, are one more than the number's.
use mathlib.Core.Path.{◌≡◌}
use Prim.Native.Nat.{ℕ, ◌+◌, ◌^◌, ◌≤◌, ◌<◌}
use native.Mathlib.Omega.{arith}
use lib.ListN.{length}
use Rattle.text.specs.Numbers.{decimal}
use Rattle.text.proofs.Digits.{longer_by_four}
use Rattle.text.proofs.Laws.{decimal_not_empty, decimal_at_most, decimal_more}
use Rattle.text.proofs.numbers.decimal_length.Goals as goal

-- the digits of what is left
left : (k n : ℕ) → 10 ^ k ≤ n → n < 10 ^ (k + 1) → length (decimal n) ≡ k + 1
left k n h g = omega (arith, decimal_more k n h, decimal_at_most (k + 1) n (omega arith) g)

pub loop-rest-init : goal.loop-rest-init
loop-rest-init c = (omega arith, decimal_at_most 20 c.args.n (omega arith) (omega arith))

pub overflow_add-count : goal.overflow_add-count
overflow_add-count c = omega (arith, decimal_not_empty c.loop-rest.rest)

pub loop-rest-smaller : goal.loop-rest-smaller
loop-rest-smaller c = omega arith

pub loop-rest-preserved : goal.loop-rest-preserved
loop-rest-preserved c = (omega (arith, longer_by_four c.loop-rest.rest (omega arith)), omega arith)

pub returns-then-rest-lt10 : goal.returns-then-rest-lt10
returns-then-rest-lt10 c =
    let rest = c.loop-rest.rest in
    omega (arith, decimal_not_empty rest, decimal_at_most 1 rest (omega arith) (omega arith))

pub overflow_add-result : goal.overflow_add-result
overflow_add-result c = omega (arith, decimal_not_empty c.loop-rest.rest)

pub returns-then-rest-lt100 : goal.returns-then-rest-lt100
returns-then-rest-lt100 c = omega (arith, left 1 c.loop-rest.rest (omega arith) (omega arith))

pub overflow_add-result-then-rest-lt1000 : goal.overflow_add-result-then-rest-lt1000
overflow_add-result-then-rest-lt1000 c = omega (arith, decimal_not_empty c.loop-rest.rest)

pub returns-then-rest-lt1000 : goal.returns-then-rest-lt1000
returns-then-rest-lt1000 c = omega (arith, left 2 c.loop-rest.rest (omega arith) (omega arith))

pub overflow_add-result-2 : goal.overflow_add-result-2
overflow_add-result-2 c = omega (arith, decimal_not_empty c.loop-rest.rest)

pub returns : goal.returns
returns c = omega (arith, left 3 c.loop-rest.rest (omega arith) (omega arith))
