-- The rows passed are sound.
use borrow.Author.Rules.{rules}
use mathlib.Core.Path.{◌≡◌, sym, ap, ◌∙◌}
use mathlib.Core.Bool.{not}
use native.Mathlib.Omega.{arith}
use Rattle.lane.specs.Surface.{row_of, sound_row}
use Rattle.lane.specs.Layout.{table_from}
use Rattle.lane.proofs.checks.Surfaces.{none_passed, sound_passed, unsound_found, all_passed}
use Rattle.lane.proofs.rows.unsound_in.Goals.{After-sound}
use Rattle.lane.proofs.rows.unsound_in.Goals as goal

pub loop-code-init : goal.loop-code-init
loop-code-init c = (search rules, none_passed _)

tested : (c : After-sound) → c.sound.result ≡ sound_row (row_of (table_from c.args.table c.args.l.now) c.loop-code.code)
tested c = c.sound.ensures ∙ ap sound_row c.surface_at.ensures

pub returns-then-not-sound : goal.returns-then-not-sound
returns-then-not-sound c =
    sym (unsound_found (table_from c.args.table c.args.l.now) c.loop-code.code (omega arith) (ap not (sym (tested (goal.at.returns-then-not-sound c).After-sound) ∙ c.if-not-sound.true)))

pub loop-code-preserved : goal.loop-code-preserved
loop-code-preserved c =
    (omega arith, sound_passed (table_from c.args.table c.args.l.now) c.loop-code.code c.loop-code.invariant.1 (ap not (sym (tested (goal.at.loop-code-preserved c).After-sound) ∙ c.if-not-sound.false)))

pub returns : goal.returns
returns c =
    sym (all_passed (table_from c.args.table c.args.l.now) c.loop-code.code (omega arith) c.loop-code.invariant.0 c.loop-code.invariant.1)
