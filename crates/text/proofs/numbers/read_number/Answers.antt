-- `text::numbers::read_number` meets its contract: no byte and a leading zero are refused, and else the number is that of its digits.
use mathlib.Core.Path.{sym, ◌∙◌}
use native.Mathlib.Omega.{arith}
use Rattle.text.proofs.Reading.{none_there, some_there, within_in, number_within, number_empty, number_leading}
use Rattle.text.proofs.numbers.read_number.Goals.{else-digits-gt1-via-then-digits-gt1+else-digits-eq48, else-digits-gt1-via-else-digits-gt1}
use Rattle.text.proofs.numbers.read_number.Goals as goal

pub returns-then-is_empty : goal.returns-then-is_empty
returns-then-is_empty c = sym (number_empty _ _ (none_there _ c.is_empty.ensures c.if-is_empty.true))

pub returns-then-digits-eq48 : goal.returns-then-digits-eq48
returns-then-digits-eq48 c = sym (number_leading _ _ (omega arith) c.if-digits-eq48.true)

pub returns : goal.returns
unfolding within_in
returns c =
    c.read_digits.ensures
    ∙ number_within _ _ (some_there _ c.is_empty.ensures c.if-is_empty.false) (λ h z. elim c.else-digits-gt1.branch [
      | else-digits-gt1-via-then-digits-gt1+else-digits-eq48 w ↦ w.if-digits-eq48.false z
      | else-digits-gt1-via-else-digits-gt1 w ↦ omega arith
    ])
