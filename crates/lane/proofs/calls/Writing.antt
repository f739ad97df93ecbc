-- What decides a text of the lane that is written into a lent buffer, whichever text it is.
use mathlib.Core.Path.{◌≡◌, refl}
use mathlib.Core.Bool.{true, false}
use mathlib.Core.List.{List}
use Prim.Native.Nat.{ℕ, ◌≤◌}
use native.Mathlib.Nat.{zero-add}
use native.Mathlib.Omega.{arith}
use lib.Dec.{ltb}
use lib.ListN.{length}
use Rattle.text.specs.Lines.{written}
use Rattle.text.proofs.Laws.{written_fits}
use Rattle.lane.specs.State.{State}
use Rattle.lane.specs.Rules.{broken}
use Rattle.lane.specs.Listing.{written_no, at_start}

module _ (s : State) (text buffer : List ℕ) where
  pub writing_broken : broken s ≡ true → written_no s text buffer ≡ 21
  writing_broken b = rw b refl

  module _ (b : broken s ≡ false) where
    pub writing_too_long : ltb (length buffer) (length text) ≡ true → written_no s text buffer ≡ 9
    writing_too_long h = rw (b, h) refl

    pub writing_fits : ltb (length buffer) (length text) ≡ false → written_no s text buffer ≡ 0
    writing_fits h = rw (b, h) refl

  -- the text put at the buffer's start
  pub writing_put : length text ≤ length buffer → written 0 text buffer ≡ at_start text buffer
  writing_put h = simp zero-add at (written_fits 0 text buffer (omega arith))
