-- The keys and newlines are 9 bytes, and each of the three words has at most 20 digits.
use borrow.Author.Rules.{rules}
use mir.Syntax.{w64}
use mir.Val.{Fits}
use Prim.Native.Nat.{ℕ, ◌≤◌}
use native.Mathlib.Omega.{arith}
use lib.ListN.{length, get_or}
use Rattle.text.specs.Numbers.{decimal}
use Rattle.lane.specs.declared.Row.{Row}
use Rattle.lane.specs.Layout.{surface_in}
use Rattle.lane.proofs.calls.Texts.{digits_64}
use Rattle.lane.proofs.checks.TableTexts.{length_row}
use Rattle.lane.proofs.table.row_length.Goals.{Start}
use Rattle.lane.proofs.table.row_length.Goals as goal

-- the most digits of each
record Few (r : Row) : Type 0 where
  guaranteed : length (decimal r.guaranteed) ≤ 20
  hardest : length (decimal r.hardest) ≤ 20
  most : length (decimal r.most) ≤ 20

digits : (c : Start) (i : ℕ) → length (decimal (get_or c.args.row i 0)) ≤ 20
digits c i = let f : Fits w64 (get_or c.args.row i 0) = search rules in digits_64 _ f.fits

few : (c : Start) → Few (surface_in c.args.row)
few c = record { guaranteed = digits c 0; hardest = digits c 1; most = digits c 2 }

pub overflow_add-result : goal.overflow_add-result
overflow_add-result c = omega (arith, few (goal.at.overflow_add-result c).Start)

pub overflow_add-result-2 : goal.overflow_add-result-2
overflow_add-result-2 c = omega (arith, few (goal.at.overflow_add-result-2 c).Start)

pub overflow_add-result-3 : goal.overflow_add-result-3
overflow_add-result-3 c = omega (arith, few (goal.at.overflow_add-result-3 c).Start)

pub returns : goal.returns
returns c =
    (omega (arith, length_row (surface_in c.args.row)), omega (arith, few (goal.at.returns c).Start))
