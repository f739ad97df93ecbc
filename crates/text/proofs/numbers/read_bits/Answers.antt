-- `text::numbers::read_bits` meets its contract: eight hexadecimal digits make a number below 2 ^ 32, so the bound refuses none.
use mathlib.Core.Path.{◌≡◌, sym, ◌∙◌}
use mathlib.Core.List.{List}
use Prim.Native.Nat.{ℕ}
use native.Mathlib.Omega.{arith}
use lib.ListN.{length}
use borrow.Author.Tests.{ne_eqb}
use Rattle.text.specs.Fields.{bits_in}
use Rattle.std.specs.Prelude.{None}
use Rattle.text.proofs.Reading.{within_in, bits_within}
use Rattle.text.proofs.numbers.read_bits.Goals as goal

not_eight : (ds : List ℕ) → (length ds ≡ 8 → ⊥) → None ≡ bits_in ds
unfolding bits_in
not_eight ds h = rw (ne_eqb (length ds) 8 h)

pub returns-then-digits-ne8 : goal.returns-then-digits-ne8
returns-then-digits-ne8 c = not_eight _ (λ e. omega arith)

pub returns-in_err-bits : goal.returns-in_err-bits
unfolding within_in
returns-in_err-bits c = c.from_residual.ensures ∙ sym c.in_err-bits.was ∙ c.read_digits.ensures ∙ bits_within _ (omega arith)

pub returns : goal.returns
unfolding within_in
returns c = sym c.in_ok-bits.was ∙ c.read_digits.ensures ∙ bits_within _ (omega arith)
