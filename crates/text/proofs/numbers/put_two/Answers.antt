-- `text::numbers::put_two` meets its contract: the two stores, one after the other, write the last two digits.
use mathlib.Core.Path.{◌≡◌}
use mathlib.Core.List.{List, [], ◌∷◌}
use Prim.Native.Nat.{ℕ, ◌+◌, ◌≤◌}
use native.Mathlib.Omega.{arith}
use lib.ListN.{length, set, length-set}
use Rattle.text.specs.Numbers.{digits}
use Rattle.text.specs.Lines.{written}
use Rattle.text.proofs.Digits.{digit_small}
use Rattle.text.proofs.Laws.{length_written, written_then, written_one}
use Rattle.text.proofs.numbers.put_two.Goals as goal

stores : (at : ℕ) (out : List ℕ) {x y d e : ℕ} → at + 2 ≤ length out → x ≡ d → y ≡ e
    → set (set out at x) (at + 1) y ≡ written at (d ∷ (e ∷ [])) out
stores at out {x} {y} {d} {e} room p q =
    rw (p, q, ← written_one at d out (omega arith), ← written_one (at + 1) e (written at (d ∷ []) out) (rw length_written (omega arith)))
    (written_then at (d ∷ []) (e ∷ []) out (omega arith))

pub digit-requires : goal.digit-requires
digit-requires c = digit_small _ c.requires.base_nonzero

pub digit-requires-2 : goal.digit-requires-2
digit-requires-2 c = digit_small _ c.requires.base_nonzero

pub bounds-out-at-2 : goal.bounds-out-at-2
bounds-out-at-2 c = rw length-set (omega arith)

pub returns : goal.returns
unfolding digits
returns c =
    stores c.args.at c.args.out.now (omega arith) c.digit.ensures c.digit-2.ensures
