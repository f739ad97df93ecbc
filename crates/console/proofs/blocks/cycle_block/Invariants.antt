use Rattle.console.proofs.Wishing.{Asking}
use Rattle.console.proofs.blocks.cycle_block.Given as goal

abbrev pub invariant-loop-i : goal.invariant-loop-i
invariant-loop-i l = Asking l.initial.lines.rest.now l.lines.rest.now l.count l.wishes l.i
