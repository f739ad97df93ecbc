-- `console::runs::put_refusal` meets its contract: the definition's one line is put.
use Rattle.console.specs.Output.{refusal}
use Rattle.console.proofs.runs.put_refusal.Goals as goal

pub returns : goal.returns
unfolding refusal
returns c =
    record { out_after = c.put_decimal_line.ensures.out_after; value = c.put_decimal_line.ensures.value }
