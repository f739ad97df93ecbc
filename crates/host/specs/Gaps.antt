-- An exported function takes no enum: a gap comes as a flag for the head, and a number.
use Rattle.std.specs.Prelude.{ℕ, cond, eqb}
use Rattle.lane.specs.declared.Gap.{Gap}
use Rattle.lane.specs.declared.Gap.TheVariants.{Behind, AheadOfAll}

-- document 02, T-07: a controller "names a carrier on the lane, or the head"; where the flag is not 0 the number is not looked at
unfoldable pub gap_given : (head number : ℕ) → Gap
gap_given head number = cond (eqb head 0) (Behind number) AheadOfAll
