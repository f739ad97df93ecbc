-- `console::blocks::surface_block` meets its contract: its one line is read, and then it is run.
use mathlib.Core.Path.{refl}
use mathlib.Core.List.{List, [], ◌∷◌}
use Prim.Native.Nat.{ℕ}
use lib.ListN.{get_or}
use Rattle.text.specs.Groups.{Key}
use Rattle.lane.specs.Handover.{surface_key}
use Rattle.lane.specs.Call.{surface_call}
use Rattle.console.specs.Blocks.{Parsed, parsed, surface_lines}
use Rattle.console.proofs.Lines.{Reads, none_read_yet, fields, fields_on, fields_stop, fields_end, all_read}
use Rattle.console.specs.Output.{printed}
use Rattle.console.proofs.Printing.{refused_keeps, call_gives}
use Rattle.console.proofs.blocks.surface_block.Goals as goal

abbrev keys : List Key
keys = surface_key ∷ []

abbrev run : List ℕ → List ℕ → Parsed
run ns t = parsed (surface_call (get_or ns 0 0)) 0

begun : (t : List ℕ) → Reads t t (surface_lines t) (fields keys run)
unfolding surface_lines fields
begun t = none_read_yet t (fields keys run)

pub returns-in_err-surface : goal.returns-in_err-surface
returns-in_err-surface c = rw c.from_residual.ensures (fields_stop _ _ _ (begun _) c.in_err-surface.ensures.0, refl, refl)

pub returns : goal.returns
unfolding printed
returns c =
    let g = c.surface-done.ensures.given in
    all_read (fields_end _ (fields_on _ _ _ (begun _) c.in_ok-surface.ensures)) (call_gives (surface_call _) g (refused_keeps (surface_call _) g) c.put_answer.ensures)
