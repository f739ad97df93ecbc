use mathlib.Core.Path.{◌≡◌}
use Prim.Native.Nat.{◌+◌}
use lib.ListN.{length, drop}
use Rattle.text.specs.Lines.{written}
use Rattle.text.proofs.lines.put_bytes.Given as goal

abbrev pub invariant-loop-i : goal.invariant-loop-i
invariant-loop-i l =
    (length l.out ≡ length l.initial.out) × (written (l.at + l.i) (drop l.i l.bytes) l.out ≡ written l.at l.bytes l.initial.out)
