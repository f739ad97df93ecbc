-- `text::lines::put_hexadecimal_line` meets its contract: a hexadecimal value is the digits of base 16.
use Rattle.text.specs.Numbers.{hexadecimal}
use Rattle.text.proofs.lines.put_hexadecimal_line.Goals as goal

pub returns : goal.returns
unfolding hexadecimal
returns c =
    record { out_after = c.put_line.ensures.out_after; value = c.put_line.ensures.value }
