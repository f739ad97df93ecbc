-- What the text holds decides with the lane, and an accepted table takes the place of the next one.
use mathlib.Core.Path.{◌≡◌, sym, ap, ap₂, ◌∙◌}
use mathlib.Core.List.{List}
use Rattle.lane.specs.declared.Row.{Row}
use Rattle.lane.specs.declared.layout.Figures.{Figures}
use Rattle.lane.specs.Refusals.{outcome_no}
use Rattle.lane.specs.Surface.{Tables}
use Rattle.lane.specs.Layout.{figures_in, tables_in, records_in, state_with, state_of}
use Rattle.lane.specs.Table.{table_in, rows_loaded, load_no, loaded_state}
use Rattle.lane.specs.Call.{load_call}
use Rattle.lane.proofs.Refused.{passed_up}
use Rattle.lane.proofs.checks.TableTexts.{bad_unless}
use Rattle.lane.proofs.calls.Answers.{gives_refusal, gives_accepted}
use Rattle.lane.proofs.load.Goals.{After-check_load}
use Rattle.lane.proofs.load.Goals as goal

-- the number found is that of the text
number : (k : After-check_load) → outcome_no k.check_load.result ≡ load_no (state_of k.args.l.now) k.args.text.now
number k = k.check_load.ensures.number k.args.text.now (bad_unless _ _ k.loaded.ensures)

pub returns-in_err-table : goal.returns-in_err-table
returns-in_err-table c =
    let a = c.args in
    let why = sym (ap outcome_no c.in_err-table.was) ∙ number (goal.at.returns-in_err-table c).After-check_load in
    rw (passed_up _ c.from_residual.ensures.1) (gives_refusal (load_call a.text.now) a.l.now _ why)

pub returns : goal.returns
unfolding loaded_state
returns c =
    let a = c.args in
    let z : load_no (state_of a.l.now) a.text.now ≡ 0 = sym (number (goal.at.returns c).After-check_load) ∙ ap outcome_no c.in_ok-table.was in
    let rows = sym (rw c.in_ok-table.ensures.table at c.loaded.ensures).1 in
    gives_accepted (load_call a.text.now) a.l.now c.put_next.new.l z
    (ap₂ (λ (f : Figures) (t : Tables). state_with f t (records_in c.put_next.new.l)) c.put_next.ensures.l_unchanged (c.put_next.ensures.l_after ∙ ap (λ (rs : List Row). record { in_force = (tables_in a.l.now).in_force; next = rs }) rows)
    ∙ ap (state_with (figures_in a.l.now) (record { in_force = (tables_in a.l.now).in_force; next = rows_loaded (table_in a.text.now) })) c.put_next.ensures.l_unchanged_2)
