-- The line's value is read as a number; where it is none, what was left before is left again.
use mathlib.Core.Path.{refl, sym, ◌∙◌}
use Rattle.text.proofs.GroupLaws.{number_of_none, number_of_value}
use Rattle.text.proofs.fields.Lines.number.Goals as goal

pub returns-in_err-digits : goal.returns-in_err-digits
returns-in_err-digits c = rw c.from_residual.ensures (number_of_none _ _ c.in_err-digits.ensures.0, refl)

pub returns-in_err-number : goal.returns-in_err-number
returns-in_err-number c =
    rw c.from_residual-in_err-number.ensures (number_of_value _ _ c.in_ok-digits.ensures (sym c.read_number.ensures ∙ c.in_err-number.was), refl)

pub returns : goal.returns
returns c = number_of_value _ _ c.in_ok-digits.ensures (sym c.read_number.ensures ∙ c.in_ok-number.was)
