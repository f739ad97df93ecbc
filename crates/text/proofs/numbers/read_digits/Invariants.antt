use mathlib.Core.Path.{◌≡◌}
use Prim.Native.Nat.{◌≤◌}
use lib.ListN.{drop}
use Rattle.text.proofs.Reading.{within_in}
use Rattle.text.proofs.numbers.read_digits.Given as goal

abbrev pub invariant-loop-byte : goal.invariant-loop-byte
invariant-loop-byte l = (l.value ≤ l.most) × (within_in l.base l.most l.value (drop l.byte-index l.digits) ≡ within_in l.base l.most 0 l.digits)
