-- `text::lines::put_decimal_line` meets its contract: as many of the last decimal digits as the number has are its decimal digits.
use Rattle.text.proofs.Digits.{decimal_is_digits}
use Rattle.text.proofs.lines.put_decimal_line.Goals as goal

pub returns : goal.returns
returns c =
    let n = c.args.n in
    record {
      out_after = rw (c.decimal_length.ensures, decimal_is_digits n) at c.put_line.ensures.out_after;
      value = rw (c.decimal_length.ensures, decimal_is_digits n) at c.put_line.ensures.value;
    }
