-- The tests on the two carriers next to the place are made in the order of `gap_no`, each only where there is such a carrier.
use mathlib.Core.Path.{◌≡◌, refl, sym, ap, ◌∙◌}
use mathlib.Core.Bool.{true, not, ◌&&◌}
use Prim.Native.Nat.{◌-◌}
use native.Mathlib.Omega.{arith}
use borrow.Author.Tests.{lt-ltb, le-ltb}
use lib.Dec.{ltb}
use lib.ListN.{length, get_or, take}
use lib.Seq.{get_or-take, length-take-le}
use Rattle.lane.specs.declared.Carrier.{Carrier}
use Rattle.lane.specs.Layout.{records_in}
use Rattle.lane.specs.Safety.{leader, safe_with}
use Rattle.lane.specs.Calls.{none, ahead_of, gap_no}
use Rattle.lane.proofs.checks.Surfaces.{rate_brakes}
use Rattle.lane.proofs.checks.Gaps.{ahead_is, ahead_nobody}
use Rattle.lane.proofs.rules.check_neighbours.Goals.{then-place-gt0+else-not-safe, else-place-gt0, After-safe, After-safe-then-place-count, Joined-place-gt0}
use Rattle.lane.proofs.rules.check_neighbours.Goals as goal

pub safe-requires : goal.safe-requires
safe-requires c =
    let own = c.requires.le_guaranteed in
    let ahead = rw (← c.carrier_at.ensures) at (c.requires.by_index (c.args.place - 1) (omega arith)) in
    record { bound = rate_brakes c.args.row c.args.c own.0 own.1.1.1.1; length_bound = (omega (arith, own.1, ahead), (own.1.1.0, (omega (arith, ahead), ahead.1.0))) }

-- the first test, where someone is ahead
ahead_tested : (c : After-safe) → let a = c.args in
    safe_with a.row (ahead_of a.place (take a.count (records_in a.l.now))) a.c ≡ c.safe.result
ahead_tested c =
    let a = c.args in
    rw (
      ahead_is (records_in a.l.now) a.count a.place c.if-place-gt0.true (omega arith),
      c.safe.ensures,
      c.carrier_at.ensures,
    )
    refl

pub returns-then-not-safe : goal.returns-then-not-safe
unfolding gap_no
returns-then-not-safe c = rw (ahead_tested (goal.at.returns-then-not-safe c).After-safe, c.if-not-safe.true) refl

-- past the first test, whichever way
ahead_safe : (c : Joined-place-gt0) → let a = c.args in
    safe_with a.row (ahead_of a.place (take a.count (records_in a.l.now))) a.c ≡ true
unfolding safe_with
ahead_safe c =
    let a = c.args in
    elim c.if-place-gt0.branch [
      | then-place-gt0+else-not-safe w ↦
          rw (ahead_is (records_in a.l.now) a.count a.place w.if-place-gt0.true (omega arith))
          (sym (w.safe.ensures ∙ ap (λ (x : Carrier). safe_with a.row (leader x) a.c) w.carrier_at.ensures) ∙ w.if-not-safe.false)
      | else-place-gt0 w ↦ rw (ahead_nobody (records_in a.l.now) a.count a.place w.if-place-gt0.false) refl
    ]

pub safe-requires-then-place-count : goal.safe-requires-then-place-count
safe-requires-then-place-count c =
    let own = c.requires.le_guaranteed in
    let behind = rw (← c.carrier_at-then-place-count.ensures) at (c.requires.by_index c.args.place (omega arith)) in
    record { bound = rate_brakes c.args.row c.carrier_at-then-place-count.result own.0 behind.1.1.1; length_bound = (omega (arith, own.1, behind), (behind.1.0, (omega (arith, own.1), own.1.1.0))) }

-- the second test, where someone is behind
behind_tested : (c : After-safe-then-place-count) → let a = c.args in let cs = take a.count (records_in a.l.now) in
    ltb a.place (length cs) && not (safe_with a.row (leader a.c) (get_or cs a.place none)) ≡ not c.safe-then-place-count.result
behind_tested c =
    let a = c.args in
    let l = records_in a.l.now in
    rw (
      length-take-le a.count l (omega arith),
      lt-ltb _ _ c.if-place-count.true,
      get_or-take a.count l a.place none c.if-place-count.true,
      c.safe-then-place-count.ensures,
      c.carrier_at-then-place-count.ensures,
    )
    refl

pub returns-then-not-safe-2 : goal.returns-then-not-safe-2
unfolding gap_no
returns-then-not-safe-2 c = rw (ahead_safe (goal.at.returns-then-not-safe-2 c).Joined-place-gt0, behind_tested (goal.at.returns-then-not-safe-2 c).After-safe-then-place-count, c.if-not-safe-2.true) refl

pub returns-else-not-safe-2 : goal.returns-else-not-safe-2
unfolding gap_no
returns-else-not-safe-2 c = rw (ahead_safe (goal.at.returns-else-not-safe-2 c).Joined-place-gt0, behind_tested (goal.at.returns-else-not-safe-2 c).After-safe-then-place-count, c.if-not-safe-2.false) refl

pub returns-else-place-count : goal.returns-else-place-count
unfolding gap_no
returns-else-place-count c =
    let a = c.args in
    rw (ahead_safe (goal.at.returns-else-place-count c).Joined-place-gt0, length-take-le a.count (records_in a.l.now) (omega arith), le-ltb _ _ c.if-place-count.false) refl
