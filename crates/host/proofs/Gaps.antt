-- The flag for the head: 0 names the carrier, any other word the head, whatever number is beside it.
use mathlib.Core.Path.{◌≡◌, refl}
use Prim.Native.Nat.{ℕ}
use borrow.Author.Tests.{ne_eqb}
use Rattle.lane.specs.declared.Gap.TheVariants.{Behind, AheadOfAll}
use Rattle.host.specs.Gaps.{gap_given}

-- document 02, T-07: a controller "names a carrier on the lane, or the head"
pub gap_given_is : (head number : ℕ) → (gap_given 0 number ≡ Behind number) × (¬ (head ≡ 0) → gap_given head number ≡ AheadOfAll)
unfolding gap_given
gap_given_is head number = (refl, λ h. rw (ne_eqb head 0 h) refl)
