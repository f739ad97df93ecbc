-- Those that pass are the numbers from `lowest` on that are below `end`, if there are any.
use mathlib.Core.Path.{sym}
use Rattle.lane.proofs.checks.Spans.{span_some, span_none}
use Rattle.lane.proofs.openings.span.Goals as goal

pub returns-then-lowest-end : goal.returns-then-lowest-end
returns-then-lowest-end c test passes h = sym (span_some test _ _ h passes c.if-lowest-end.true)

pub returns : goal.returns
returns c test passes h = sym (span_none test _ _ h passes c.if-lowest-end.false)
