-- `console::blocks::start_block` meets its contract: its four lines are read, and then it is run.
use mathlib.Core.Path.{refl}
use mathlib.Core.List.{List}
use Prim.Native.Nat.{ℕ}
use lib.ListN.{get_or}
use Rattle.text.specs.Groups.{Key}
use Rattle.lane.specs.Handover.{road_keys}
use Rattle.lane.specs.Call.{start_call}
use Rattle.console.specs.Blocks.{Parsed, parsed, start_lines}
use Rattle.console.proofs.Lines.{Reads, none_read_yet, fields, fields_on, fields_stop, fields_end, all_read}
use Rattle.console.specs.Output.{printed}
use Rattle.console.proofs.Printing.{refused_keeps, call_gives}
use Rattle.console.proofs.blocks.start_block.Goals as goal

abbrev keys : List Key
keys = road_keys

abbrev run : List ℕ → List ℕ → Parsed
run ns t = parsed (start_call (record { surface = get_or ns 0 0; end = get_or ns 1 0; limit = get_or ns 2 0 }) (get_or ns 3 0)) 0

begun : (t : List ℕ) → Reads t t (start_lines t) (fields keys run)
unfolding start_lines fields
begun t = none_read_yet t (fields keys run)

pub returns-in_err-surface : goal.returns-in_err-surface
returns-in_err-surface c = rw c.from_residual.ensures (fields_stop _ _ _ (begun _) c.in_err-surface.ensures.0, refl, refl)

pub returns-in_err-end : goal.returns-in_err-end
returns-in_err-end c = rw c.from_residual-in_err-end.ensures (fields_stop _ _ _ (fields_on _ _ _ (begun _) c.in_ok-surface.ensures) c.in_err-end.ensures.0, refl, refl)

pub returns-in_err-limit : goal.returns-in_err-limit
returns-in_err-limit c = rw c.from_residual-in_err-limit.ensures (fields_stop _ _ _ (fields_on _ _ _ (fields_on _ _ _ (begun _) c.in_ok-surface.ensures) c.in_ok-end.ensures) c.in_err-limit.ensures.0, refl, refl)

pub returns-in_err-cycle : goal.returns-in_err-cycle
returns-in_err-cycle c = rw c.from_residual-in_err-cycle.ensures (fields_stop _ _ _ (fields_on _ _ _ (fields_on _ _ _ (fields_on _ _ _ (begun _) c.in_ok-surface.ensures) c.in_ok-end.ensures) c.in_ok-limit.ensures) c.in_err-cycle.ensures.0, refl, refl)

pub returns : goal.returns
unfolding printed
returns c =
    let g = c.start-done.ensures in
    all_read (fields_end _ (fields_on _ _ _ (fields_on _ _ _ (fields_on _ _ _ (fields_on _ _ _ (begun _) c.in_ok-surface.ensures) c.in_ok-end.ensures) c.in_ok-limit.ensures) c.in_ok-cycle.ensures)) (call_gives (start_call _ _) g (refused_keeps (start_call _ _) g) c.put_answer.ensures)
