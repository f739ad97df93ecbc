use mathlib.Core.Path.{◌≡◌}
use Prim.Native.Nat.{◌≤◌}
use lib.ListN.{length}
use Rattle.text.specs.Numbers.{digits}
use Rattle.text.specs.Lines.{written}
use Rattle.text.proofs.numbers.put_digits.Given as goal

abbrev pub invariant-loop-left : goal.invariant-loop-left
invariant-loop-left l =
    (l.left ≤ l.count)
    × (length l.out ≡ length l.initial.out)
    × (written l.at (digits l.base l.left l.rest) l.out ≡ written l.at (digits l.base l.count l.n) l.initial.out)

abbrev pub decreases-loop-left : goal.decreases-loop-left
decreases-loop-left l = l.left
