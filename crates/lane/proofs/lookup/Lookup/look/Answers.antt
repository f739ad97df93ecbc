-- A record that the definition counts is one of the carriers.
use mathlib.Core.Path.{refl, sym, ap, ◌∙◌}
use Prim.Native.Nat.{◌<◌}
use native.Mathlib.Omega.{arith}
use borrow.Author.Rules.{rules}
use lib.ListN.{length}
use lib.Seq.{get_or-take}
use Rattle.lane.specs.Safety.{numbered}
use Rattle.lane.specs.Calls.{none}
use Rattle.lane.specs.Layout.{figures_in, records_in, state_of}
use Rattle.lane.proofs.lists.Lists.{take_few}
use Rattle.lane.proofs.lists.Lookups.{looked_few}
use Rattle.lane.proofs.checks.Records.{records_long}
use Rattle.lane.proofs.lookup.Lookup.look.Goals.{Start}
use Rattle.lane.proofs.lookup.Lookup.look.Goals as goal

-- the next record is that of a carrier
module _ (s : Start) where
  carrier_next : (s.args.self.now.looked < (figures_in s.args.l.now).count) × (s.args.self.now.looked < length (records_in s.args.l.now))
  carrier_next =
      let few = take_few (figures_in s.args.l.now).count (records_in s.args.l.now) in
      let looked = looked_few s.args.number (state_of s.args.l.now).carriers in
      (omega (arith, s.requires, looked, few.0), omega (arith, s.requires, looked, few.1))

pub carrier_at-c-requires : goal.carrier_at-c-requires
carrier_at-c-requires c = omega (arith, (carrier_next (goal.at.carrier_at-c-requires c).Start).1, records_long _ c.told-l)

pub overflow_add-self : goal.overflow_add-self
overflow_add-self c = let near = carrier_next (goal.at.overflow_add-self c).Start in
    let long = records_long _ c.told-l in search rules

pub returns : goal.returns
returns c =
    let a = c.args in
    record { value = ap (numbered a.number) (c.carrier_at-c.ensures ∙ sym (get_or-take _ (records_in a.l.now) a.self.now.looked none (carrier_next (goal.at.returns c).Start).0)); self_after = refl }
