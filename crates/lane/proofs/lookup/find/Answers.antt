-- What the search has passed has another number, and where it stops stands the number, or the end.
use mathlib.Core.Path.{◌≡◌, refl, sym, ap, ◌∙◌, subst}
use mathlib.Core.Bool.{Bool}
use mathlib.Core.List.{List}
use Prim.Native.Nat.{ℕ, ◌+◌}
use native.Mathlib.Nat.{zero-add}
use native.Mathlib.Omega.{arith}
use Rattle.std.specs.Prelude.{None}
use lib.ListN.{get_or}
use lib.Seq.{take-length}
use Rattle.lane.specs.declared.Carrier.{Carrier}
use Rattle.lane.specs.declared.lookup.Lookup.{Lookup}
use Rattle.lane.specs.Layout.{state_of}
use Rattle.lane.specs.Safety.{numbered}
use Rattle.lane.specs.Calls.{none}
use Rattle.lane.specs.Lookup.{lookup, RestsOn}
use Rattle.lane.proofs.lists.Lookups.{ends_found, goes_on, ends_absent, looks_at}
use Rattle.lane.proofs.Looked.{looked_exact}
use Rattle.lane.proofs.lookup.find.Goals.{After-look}
use Rattle.lane.proofs.lookup.find.Goals as goal

pub loop-place-init : goal.loop-place-init
loop-place-init c = (refl, rw (take-length (state_of c.args.l.now).carriers) (sym (zero-add _)))

pub look-requires : goal.look-requires
look-requires c =
    rw c.loop-place.invariant.0 (looks_at c.args.number (state_of c.args.l.now).carriers c.loop-place.place (omega arith) (omega (arith, c.loop-place.invariant.1)))

-- what `look` tells of the record at the loop's place, and what it counts
module _ (c : After-look) where
  told : (t : Bool) → c.look.result ≡ t → numbered c.args.number (get_or (state_of c.args.l.now).carriers c.loop-place.place none) ≡ t
  told t e = sym (rw c.loop-place.invariant.0 at c.look.ensures.value) ∙ e

  next : c.look.new.self ≡ record { found = None; looked = c.loop-place.place + 1 }
  next = rw c.loop-place.invariant.0 at c.look.ensures.self_after

pub loop-place-preserved : goal.loop-place-preserved
loop-place-preserved c =
    let k = (goal.at.loop-place-preserved c).After-look in
    (next k, goes_on c.args.number (state_of c.args.l.now).carriers c.loop-place.place c.loop-place.invariant.1 (omega arith) (told k _ c.if-look.false) _ refl)

-- an answer rests on the records that it counts
with_rest : (number : ℕ) (cs : List Carrier) (r : Lookup) → r ≡ lookup number cs → (r ≡ lookup number cs) × RestsOn number cs r.looked
with_rest number cs r e = (e, subst (λ (r : Lookup). RestsOn number cs r.looked) (sym e) (looked_exact number cs))

pub returns-then-look : goal.returns-then-look
returns-then-look c =
    let k = (goal.at.returns-then-look c).After-look in
    let there = ends_found c.args.number (state_of c.args.l.now).carriers c.loop-place.place c.loop-place.invariant.1 (omega arith) (told k _ c.if-look.true) _ (ap (λ (r : Lookup). r.looked) (next k)) in
    let is = with_rest _ _ _ there in
    record { found = is.0; rests = is.1 }

pub returns-after-loop-place : goal.returns-after-loop-place
returns-after-loop-place c =
    let is = with_rest _ _ _ (c.loop-place.invariant.0 ∙ ends_absent c.args.number (state_of c.args.l.now).carriers c.loop-place.place c.loop-place.invariant.1 (omega arith)) in
    record { found = is.0; rests = is.1 }
