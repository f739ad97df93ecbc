-- One table has one text: the reader takes the text of eight sound rows for them, and whatever it takes is the text of what it takes it for.
use mathlib.Core.Path.{◌≡◌, refl, ap, ◌∙◌}
use mathlib.Core.Bool.{false, true≢false}
use mathlib.Core.List.{List, [], append-nil}
use Prim.Native.Nat.{ℕ}
use native.Mathlib.Omega.{arith}
use lib.ListN.{length}
use Rattle.text.specs.Groups.{Got, got, missing, whole}
use Rattle.text.proofs.GroupLaws.{whole_taken}
use Rattle.lane.specs.declared.Row.{Row}
use Rattle.lane.specs.Surface.{unsound}
use Rattle.lane.specs.State.{State}
use Rattle.lane.specs.Table.{table_text, rows_in, table_in, bad_table, rows_loaded}
use Rattle.lane.specs.Call.{load_call, call_no}
use Rattle.lane.proofs.checks.Surfaces.{sound_at}
use Rattle.lane.proofs.checks.TableTexts.{rows_again, rows_taken}
use Rattle.lane.proofs.calls.Answers.{load_tells}

pub table_taken : (text : List ℕ) (rs : List Row) → table_in text ≡ got rs [] → text ≡ table_text rs
unfolding table_in
table_taken text rs e = (rows_taken text rs [] (whole_taken (rows_in text) rs [] e).0).0 ∙ append-nil (table_text rs)

pub table_text_is : (rs : List Row) → length rs ≡ 8 → unsound rs ≡ false → table_in (table_text rs) ≡ got rs []
unfolding table_in
table_text_is rs eight e =
    let again = rows_again rs [] eight (λ i p. let s = sound_at rs i (omega arith) e in (omega (arith, s.brakes_harder, s.hardest_most), omega (arith, s.hardest_most), omega (arith, s.gains_most))) in
    ap whole (rw (append-nil (table_text rs)) at again)

-- ---- a load of a text

-- that of eight sound rows is good, and they are the rows that it brings
pub text_brings : (rs : List Row) → length rs ≡ 8 → unsound rs ≡ false
    → (bad_table (table_in (table_text rs)) ≡ false) × (rows_loaded (table_in (table_text rs)) ≡ rs)
unfolding bad_table rows_loaded
text_brings rs eight e = rw (table_text_is rs eight e) (e, refl)

-- and one that is accepted is the text of the rows that it brings
pub brought_text : (s : State) (text : List ℕ) → call_no (load_call text) s ≡ 0 → text ≡ table_text (rows_loaded (table_in text))
unfolding table_in bad_table rows_loaded
brought_text s text z = by_rows (table_in text) refl (load_tells s text z).good
  where
    by_rows : (x : Got (List Row)) → table_in text ≡ x → bad_table x ≡ false → text ≡ table_text (rows_loaded x)
    by_rows (got rs rest) e good = let w = whole_taken (rows_in text) rs rest e in table_taken text rs (e ∙ ap (got rs) w.1)
    by_rows missing e good = absurd (true≢false good)
