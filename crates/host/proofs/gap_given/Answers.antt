use mathlib.Core.Path.{sym}
use Rattle.host.proofs.Gaps.{gap_given_is}
use Rattle.host.proofs.gap_given.Goals as goal

pub returns-then-head-eq0 : goal.returns-then-head-eq0
returns-then-head-eq0 c = let a = c.args in rw c.if-head-eq0.true (sym (gap_given_is 0 a.number).0)

pub returns-else-head-eq0 : goal.returns-else-head-eq0
returns-else-head-eq0 c = let a = c.args in sym ((gap_given_is a.head a.number).1 c.if-head-eq0.false)
