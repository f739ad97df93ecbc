-- The keys and newlines are 28 bytes, and each of the four words has at most 20 digits.
use borrow.Author.Rules.{rules}
use Prim.Native.Nat.{◌≤◌}
use native.Mathlib.Omega.{arith}
use lib.ListN.{length, length-append}
use Rattle.text.specs.Numbers.{decimal}
use Rattle.text.proofs.Laws.{length_line}
use Rattle.lane.proofs.calls.Texts.{digits_64}
use Rattle.lane.proofs.transfer.road_length.Goals.{Start}
use Rattle.lane.proofs.transfer.road_length.Goals as goal

-- the most digits of each
record Few (c : Start) : Type 0 where
  surface : length (decimal c.args.road.surface) ≤ 20
  end : length (decimal c.args.road.end) ≤ 20
  limit : length (decimal c.args.road.limit) ≤ 20
  cycle : length (decimal c.args.cycle) ≤ 20

few : (c : Start) → Few c
few c =
    record { surface = digits_64 _ (search rules); end = digits_64 _ (search rules); limit = digits_64 _ (search rules); cycle = digits_64 _ (search rules) }

pub overflow_add-result : goal.overflow_add-result
overflow_add-result c = omega (arith, few (goal.at.overflow_add-result c).Start)

pub overflow_add-result-2 : goal.overflow_add-result-2
overflow_add-result-2 c = omega (arith, few (goal.at.overflow_add-result-2 c).Start)

pub overflow_add-result-3 : goal.overflow_add-result-3
overflow_add-result-3 c = omega (arith, few (goal.at.overflow_add-result-3 c).Start)

pub overflow_add-result-4 : goal.overflow_add-result-4
overflow_add-result-4 c = omega (arith, few (goal.at.overflow_add-result-4 c).Start)

pub returns : goal.returns
returns c = (simp (length-append, length_line) (omega arith), omega (arith, few (goal.at.returns c).Start))
