-- `lane::listing::carrier_length` meets its contract: the keys and newlines are 31 bytes, and each of the five words has at most 20 digits.
use borrow.Author.Rules.{rules}
use Prim.Native.Nat.{◌≤◌}
use native.Mathlib.Omega.{arith}
use lib.ListN.{length}
use Rattle.text.specs.Numbers.{decimal}
use Rattle.lane.specs.declared.Carrier.{Carrier}
use Rattle.lane.proofs.calls.Texts.{digits_64, length_carrier}
use Rattle.lane.proofs.listing.carrier_length.Goals.{Start}
use Rattle.lane.proofs.listing.carrier_length.Goals as goal

-- the most digits of each
record Few (x : Carrier) : Type 0 where
  number : length (decimal x.number) ≤ 20
  position : length (decimal x.position) ≤ 20
  speed : length (decimal x.speed) ≤ 20
  long : length (decimal x.length) ≤ 20
  rate : length (decimal x.rate) ≤ 20

few : (c : Start) → Few c.args.c
few c =
    record {
      number = digits_64 _ (search rules);
      position = digits_64 _ (search rules);
      speed = digits_64 _ (search rules);
      long = digits_64 _ (search rules);
      rate = digits_64 _ (search rules);
    }

pub overflow_add-result : goal.overflow_add-result
overflow_add-result c = omega (arith, few (goal.at.overflow_add-result c).Start)

pub overflow_add-result-2 : goal.overflow_add-result-2
overflow_add-result-2 c = omega (arith, few (goal.at.overflow_add-result-2 c).Start)

pub overflow_add-result-3 : goal.overflow_add-result-3
overflow_add-result-3 c = omega (arith, few (goal.at.overflow_add-result-3 c).Start)

pub overflow_add-result-4 : goal.overflow_add-result-4
overflow_add-result-4 c = omega (arith, few (goal.at.overflow_add-result-4 c).Start)

pub overflow_add-result-5 : goal.overflow_add-result-5
overflow_add-result-5 c = omega (arith, few (goal.at.overflow_add-result-5 c).Start)

pub returns : goal.returns
returns c =
    (omega (arith, length_carrier c.args.c), omega (arith, few (goal.at.returns c).Start))
