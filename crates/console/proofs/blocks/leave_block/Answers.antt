-- `console::blocks::leave_block` meets its contract: its one line is read, and then it is run.
use mathlib.Core.Path.{refl}
use mathlib.Core.List.{List, [], ◌∷◌}
use Prim.Native.Nat.{ℕ}
use lib.ListN.{get_or}
use Rattle.text.specs.Groups.{Key}
use Rattle.lane.specs.Listing.{car_key, car_most}
use Rattle.lane.specs.Call.{leave_call}
use Rattle.console.specs.Blocks.{Parsed, parsed, leave_lines}
use Rattle.console.proofs.Lines.{Reads, none_read_yet, fields, fields_on, fields_stop, fields_end, all_read}
use Rattle.console.specs.Output.{printed}
use Rattle.console.proofs.Printing.{refused_keeps, call_gives}
use Rattle.console.proofs.blocks.leave_block.Goals as goal

abbrev keys : List Key
keys = record { name = car_key; most = car_most } ∷ []

abbrev run : List ℕ → List ℕ → Parsed
run ns t = parsed (leave_call (get_or ns 0 0)) 0

begun : (t : List ℕ) → Reads t t (leave_lines t) (fields keys run)
unfolding leave_lines fields
begun t = none_read_yet t (fields keys run)

pub returns-in_err-number : goal.returns-in_err-number
returns-in_err-number c = rw c.from_residual.ensures (fields_stop _ _ _ (begun _) c.in_err-number.ensures.0, refl, refl)

pub returns : goal.returns
unfolding printed
returns c =
    let g = c.leave-done.ensures in
    all_read (fields_end _ (fields_on _ _ _ (begun _) c.in_ok-number.ensures)) (call_gives (leave_call _) g (refused_keeps (leave_call _) g) c.put_answer.ensures)
