-- The rows passed are sound.
use borrow.Author.Rules.{rules}
use mathlib.Core.Path.{◌≡◌, sym, ap, ◌∙◌}
use mathlib.Core.Bool.{not}
use mathlib.Core.List.{map}
use native.Mathlib.Omega.{arith}
use Rattle.lane.specs.Surface.{row_of, sound_row}
use Rattle.lane.specs.Layout.{surface_in}
use Rattle.lane.proofs.checks.Tables.{row_read}
use Rattle.lane.proofs.checks.Surfaces.{none_passed, sound_passed, unsound_found, all_passed}
use Rattle.lane.proofs.rows.unsound.Goals.{After-sound}
use Rattle.lane.proofs.rows.unsound.Goals as goal

pub loop-row-init : goal.loop-row-init
loop-row-init c = (search rules, none_passed _)

tested : (c : After-sound) → c.sound.result ≡ sound_row (row_of (map surface_in c.args.table) c.loop-row.row-index)
tested c = c.sound.ensures ∙ ap sound_row (sym (row_read c.args.table c.loop-row.row-index))

pub returns-then-not-sound : goal.returns-then-not-sound
returns-then-not-sound c =
    sym (unsound_found (map surface_in c.args.table) c.loop-row.row-index (omega arith) (ap not (sym (tested (goal.at.returns-then-not-sound c).After-sound) ∙ c.if-not-sound.true)))

pub loop-row-preserved : goal.loop-row-preserved
loop-row-preserved c =
    (omega arith, sound_passed (map surface_in c.args.table) c.loop-row.row-index c.loop-row.invariant.1 (ap not (sym (tested (goal.at.loop-row-preserved c).After-sound) ∙ c.if-not-sound.false)))

pub returns : goal.returns
returns c =
    sym (all_passed (map surface_in c.args.table) c.loop-row.row-index (omega arith) c.loop-row.invariant.0 c.loop-row.invariant.1)
