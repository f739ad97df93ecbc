-- A sound row is of 32 bits.
use native.Mathlib.Omega.{arith}
use Rattle.lane.specs.Layout.{surface_in, table_from}
use Rattle.lane.proofs.checks.Surfaces.{SoundRow, sound_at}
use Rattle.lane.proofs.checks.Soundness.{sound_road}
use Rattle.lane.proofs.rows.row_in.Goals.{After-surface_at-row}
use Rattle.lane.proofs.rows.row_in.Goals as goal

pub surface_at-row-requires : goal.surface_at-row-requires
surface_at-row-requires c = let s = sound_road _ c.requires.0 in (omega arith, omega (arith, s.surface))

-- the row read is sound
known : (k : After-surface_at-row) → SoundRow (surface_in k.surface_at-row.result)
known k =
    rw k.surface_at-row.ensures (sound_at (table_from 1 k.args.l.now) k.args.road.surface (sound_road _ k.requires.0).surface k.requires.1)

pub narrow-requires : goal.narrow-requires
narrow-requires c = let r = known (goal.at.narrow-requires c).After-surface_at-row in omega (arith, r.brakes_harder, r.hardest_most)

pub narrow-requires-2 : goal.narrow-requires-2
narrow-requires-2 c = omega (arith, (known (goal.at.narrow-requires-2 c).After-surface_at-row).hardest_most)

pub narrow-requires-3 : goal.narrow-requires-3
narrow-requires-3 c = omega (arith, (known (goal.at.narrow-requires-3 c).After-surface_at-row).gains_most)

pub returns : goal.returns
returns c =
    rw (c.narrow.ensures, c.narrow-2.ensures, c.narrow-3.ensures) c.surface_at-row.ensures
