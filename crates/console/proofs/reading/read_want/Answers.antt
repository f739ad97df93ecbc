-- `console::reading::read_want` meets its contract: the wish is what the line's value asks for.
use mathlib.Core.Path.{sym}
use mathlib.Core.Bool.{false≢true}
use Rattle.console.proofs.Wishing.{wanted_as_is, want_missing, want_told}
use Rattle.console.proofs.reading.read_want.Goals as goal

pub returns-in_err-value : goal.returns-in_err-value
returns-in_err-value c =
    rw c.from_residual.ensures
    (record { asks = wanted_as_is (sym (want_missing _ c.in_err-value.ensures.0)); rest_is = λ e. absurd (false≢true e); within = λ e. absurd (false≢true e) })

pub returns : goal.returns
returns c = want_told _ c.in_ok-value.ensures c.wish_wanted.ensures
