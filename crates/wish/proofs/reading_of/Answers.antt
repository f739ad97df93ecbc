-- `wish::reading_of` meets its contract: each quotient by a power of two is exact. Assumes nothing.
use mathlib.Core.Path.{refl, ◌∙◌}
use Prim.Native.Nat.{ℕ, ◌<◌, ◌^◌}
use native.Mathlib.Nat.{lt_of_lt_of_le}
use lib.Dec.{lit≤}
use lib.Ieee.{of_bits}
use Rattle.wish.specs.Reading.{double_of, reading_of}
use Rattle.wish.proofs.Quotients.{double_of_exact, quotient_kept}
use Rattle.wish.proofs.reading_of.Goals as goal

few : (n : ℕ) → n < 2 ^ 32 → n < 2 ^ 53
few n h = lt_of_lt_of_le h (lit≤ tt)

pub returns : goal.returns
unfolding of_bits reading_of double_of
returns c =
    let p = few c.args.p c.ranges.p.fits in
    let v = few c.args.v c.ranges.v.fits in
    let position = c.zero_or_above.ensures ∙ quotient_kept c.args.p 11 p (lit≤ tt) refl in
    let speed = c.zero_or_above-2.ensures ∙ quotient_kept c.args.v 7 v (lit≤ tt) refl in
    record { value = rw (position, speed) refl; has_value = (rw position (double_of_exact c.args.p 11 p (lit≤ tt)), rw speed (double_of_exact c.args.v 7 v (lit≤ tt))) }
