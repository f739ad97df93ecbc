-- What the links pass over has other numbers.
use mathlib.Core.Path.{◌≡◌, refl, sym, ◌∙◌, subst}
use mathlib.Core.Bool.{◌||◌}
use Prim.Native.Nat.{ℕ, ◌+◌, ◌%◌, ◌<◌}
use native.Mathlib.Omega.{arith}
use borrow.Author.Tests.{eq-eqb, ne_eqb}
use lib.ListN.{get_or}
use lib.Seq.{slice}
use Rattle.lane.specs.Layout.{records_in}
use Rattle.lane.specs.Safety.{any_of, numbered}
use Rattle.lane.specs.Calls.{none}
use Rattle.lane.proofs.lists.Search.{any_next, any_past}
use Rattle.lane.proofs.rules.linked.Goals.{After-carrier_at-c, After-from-place}
use Rattle.lane.proofs.rules.linked.Goals as goal

pub loop-place-init : goal.loop-place-init
loop-place-init c = (omega arith, (refl, c.requires.none_value))

-- those from a place on, by the carrier there
from_here : (c : After-carrier_at-c) → let a = c.args in
    any_of (numbered a.number) (slice a.first a.count (records_in a.l.now))
    ≡ numbered a.number c.carrier_at-c.result || any_of (numbered a.number) (slice (c.loop-place.place + 1) a.count (records_in a.l.now))
from_here c =
    let a = c.args in
    c.loop-place.invariant.1.0 ∙ rw c.carrier_at-c.ensures (any_next _ (records_in a.l.now) c.loop-place.place a.count (omega arith) (omega arith))

pub returns-then-c-number : goal.returns-then-c-number
returns-then-c-number c = sym (from_here (goal.at.returns-then-c-number c).After-carrier_at-c ∙ rw (eq-eqb _ _ c.if-c-number.true) refl)

-- where the link at the place leads
module _ (c : After-from-place) where
  abbrev Leads : ℕ → Type 0
  Leads p =
      let a = c.args in
      (c.loop-place.place < p)
      × ((any_of (numbered a.number) (slice (c.loop-place.place + 1) a.count (records_in a.l.now)) ≡ any_of (numbered a.number) (slice p a.count (records_in a.l.now)))
      × (p < a.count → (get_or (records_in a.l.now) p none).number % 64 ≡ a.number % 64))

  link : Leads c.from-place.result
  link =
      subst Leads (sym c.from-place.ensures) (c.requires.by_index c.loop-place.place (omega arith) (omega arith) (c.loop-place.invariant.1.1 (omega arith)))

pub loop-place-smaller : goal.loop-place-smaller
loop-place-smaller c = omega (arith, (link (goal.at.loop-place-smaller c).After-from-place).0)

pub loop-place-preserved : goal.loop-place-preserved
loop-place-preserved c =
    (omega (arith, (link (goal.at.loop-place-preserved c).After-from-place).0), (from_here (goal.at.loop-place-preserved c).After-carrier_at-c ∙ rw (ne_eqb _ _ c.if-c-number.false) (link (goal.at.loop-place-preserved c).After-from-place).1.0, (link (goal.at.loop-place-preserved c).After-from-place).1.1))

pub returns : goal.returns
returns c =
    let a = c.args in
    sym (c.loop-place.invariant.1.0 ∙ any_past _ (records_in a.l.now) c.loop-place.place a.count (omega arith))
