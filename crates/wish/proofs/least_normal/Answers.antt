-- `wish::least_normal` meets its contract: both numbers are computed. Assumes nothing.
use mathlib.Core.Path.{refl}
use lib.Ieee.{of_bits, neg}
use Rattle.wish.proofs.least_normal.Goals as goal

pub returns-then-minus : goal.returns-then-minus
unfolding of_bits neg
returns-then-minus c = rw c.if-minus.true refl

pub returns-else-minus : goal.returns-else-minus
unfolding of_bits
returns-else-minus c = rw c.if-minus.false refl
