-- The first row with two words put anew.
use native.Mathlib.Omega.{arith}
use Rattle.lane.proofs.checks.Records.{figures_put, tables_kept, records_kept}
use Rattle.lane.proofs.layout.put_count.Goals as goal

pub returns : goal.returns
returns c = let a = c.args in
    record { l_after = figures_put a.l.now _ (omega arith); l_unchanged = tables_kept a.l.now 0 _ (λ code h e. omega arith); l_unchanged_2 = records_kept a.l.now 0 _ (omega arith) }
