-- `console::blocks::enter_block` meets its contract: its five lines are read, and then it is run.
use mathlib.Core.Path.{refl}
use mathlib.Core.List.{List}
use Prim.Native.Nat.{ℕ}
use lib.ListN.{get_or}
use Rattle.text.specs.Groups.{Key}
use Rattle.lane.specs.Listing.{carrier_keys}
use Rattle.lane.specs.Call.{enter_call}
use Rattle.console.specs.Blocks.{Parsed, parsed, enter_lines}
use Rattle.console.proofs.Lines.{Reads, none_read_yet, fields, fields_on, fields_stop, fields_end, all_read}
use Rattle.console.proofs.blocks.enter_block.Goals as goal

abbrev keys : List Key
keys = carrier_keys

abbrev run : List ℕ → List ℕ → Parsed
run ns t = parsed (enter_call (record { number = get_or ns 0 0; position = get_or ns 1 0; speed = get_or ns 2 0; length = get_or ns 3 0; rate = get_or ns 4 0 })) 0

begun : (t : List ℕ) → Reads t t (enter_lines t) (fields keys run)
unfolding enter_lines fields
begun t = none_read_yet t (fields keys run)

pub returns-in_err-number : goal.returns-in_err-number
returns-in_err-number c = rw c.from_residual.ensures (fields_stop _ _ _ (begun _) c.in_err-number.ensures.0, refl, refl)

pub returns-in_err-position : goal.returns-in_err-position
returns-in_err-position c = rw c.from_residual-in_err-position.ensures (fields_stop _ _ _ (fields_on _ _ _ (begun _) c.in_ok-number.ensures) c.in_err-position.ensures.0, refl, refl)

pub returns-in_err-speed : goal.returns-in_err-speed
returns-in_err-speed c = rw c.from_residual-in_err-speed.ensures (fields_stop _ _ _ (fields_on _ _ _ (fields_on _ _ _ (begun _) c.in_ok-number.ensures) c.in_ok-position.ensures) c.in_err-speed.ensures.0, refl, refl)

pub returns-in_err-length : goal.returns-in_err-length
returns-in_err-length c = rw c.from_residual-in_err-length.ensures (fields_stop _ _ _ (fields_on _ _ _ (fields_on _ _ _ (fields_on _ _ _ (begun _) c.in_ok-number.ensures) c.in_ok-position.ensures) c.in_ok-speed.ensures) c.in_err-length.ensures.0, refl, refl)

pub returns-in_err-rate : goal.returns-in_err-rate
returns-in_err-rate c = rw c.from_residual-in_err-rate.ensures (fields_stop _ _ _ (fields_on _ _ _ (fields_on _ _ _ (fields_on _ _ _ (fields_on _ _ _ (begun _) c.in_ok-number.ensures) c.in_ok-position.ensures) c.in_ok-speed.ensures) c.in_ok-length.ensures) c.in_err-rate.ensures.0, refl, refl)

pub returns : goal.returns
returns c = all_read (fields_end _ (fields_on _ _ _ (fields_on _ _ _ (fields_on _ _ _ (fields_on _ _ _ (fields_on _ _ _ (begun _) c.in_ok-number.ensures) c.in_ok-position.ensures) c.in_ok-speed.ensures) c.in_ok-length.ensures) c.in_ok-rate.ensures)) c.run_enter.ensures
