-- The four parts, put one after the other.
use mathlib.Core.Path.{◌≡◌, ap, ◌∙◌}
use mathlib.Core.List.{◌∷◌, []}
use Prim.Native.Nat.{◌+◌, ◌≤◌}
use native.Mathlib.Omega.{arith}
use lib.ListN.{length}
use Rattle.text.specs.Groups.{group_text}
use Rattle.text.specs.Lines.{written}
use Rattle.text.proofs.Laws.{length_written}
use Rattle.lane.specs.declared.layout.Figures.{Figures}
use Rattle.lane.specs.State.{State}
use Rattle.lane.specs.Layout.{state_of}
use Rattle.lane.specs.Table.{table_text}
use Rattle.lane.specs.Listing.{lane_text}
use Rattle.lane.specs.Handover.{road_keys, road_text}
use Rattle.lane.proofs.calls.Handing.{handover_length, parts_put}
use Rattle.lane.proofs.transfer.put_text.Goals.{After-figures_of-f, After-put_road-figures, After-put_text-in_force, After-put_text-next}
use Rattle.lane.proofs.transfer.put_text.Goals as goal

-- the state, and the room that its text has in the buffer
module _ (c : After-figures_of-f) where
  abbrev s : State
  s = state_of c.args.l.now

  room : length (table_text s.tables.in_force) + length (table_text s.tables.next) + length (road_text s) + length (lane_text s) ≤ length c.args.out.now
  room = omega (arith, c.requires.1, handover_length s)

  road_is : group_text road_keys (c.figures_of-f.result.road.surface ∷ c.figures_of-f.result.road.end ∷ c.figures_of-f.result.road.limit ∷ c.figures_of-f.result.cycle ∷ []) ≡ road_text s
  road_is = ap (λ (f : Figures). group_text road_keys (f.road.surface ∷ f.road.end ∷ f.road.limit ∷ f.cycle ∷ [])) c.figures_of-f.ensures.value

pub put_text-in_force-requires : goal.put_text-in_force-requires
put_text-in_force-requires c = (omega arith, omega (arith, room (goal.at.put_text-in_force-requires c).After-figures_of-f))

-- a part that was put leaves the buffer as long as it was, and the place behind it
module _ (c : After-put_text-in_force) where
  long : length c.put_text-in_force.new.out ≡ length c.args.out.now
  long = ap length c.put_text-in_force.ensures.out_after ∙ length_written _ _ _

pub put_text-next-requires : goal.put_text-next-requires
put_text-next-requires c =
    (omega arith, omega (arith, room (goal.at.put_text-next-requires c).After-figures_of-f, long (goal.at.put_text-next-requires c).After-put_text-in_force, c.put_text-in_force.ensures.value))

module _ (c : After-put_text-next) where
  long_2 : length c.put_text-next.new.out ≡ length c.args.out.now
  long_2 = ap length c.put_text-next.ensures.out_after ∙ length_written _ _ _ ∙ ap length c.put_text-in_force.ensures.out_after ∙ length_written _ _ _

pub put_road-figures-requires : goal.put_road-figures-requires
put_road-figures-requires c =
    omega (arith, room (goal.at.put_road-figures-requires c).After-figures_of-f, long_2 (goal.at.put_road-figures-requires c).After-put_text-next, c.put_text-in_force.ensures.value, c.put_text-next.ensures.value, ap length (road_is (goal.at.put_road-figures-requires c).After-figures_of-f))

module _ (c : After-put_road-figures) where
  road_put : group_text road_keys (c.figures_of-f.result.road.surface ∷ c.figures_of-f.result.road.end ∷ c.figures_of-f.result.road.limit ∷ c.figures_of-f.result.cycle ∷ []) ≡ road_text (state_of c.args.l.now)
  road_put = ap (λ (f : Figures). group_text road_keys (f.road.surface ∷ f.road.end ∷ f.road.limit ∷ f.cycle ∷ [])) c.figures_of-f.ensures.value

  put_there : (c.put_road-figures.new.out ≡ written c.put_text-next.result (road_text (state_of c.args.l.now)) c.put_text-next.new.out)
      × (c.put_road-figures.result ≡ c.put_text-next.result + length (road_text (state_of c.args.l.now)))
  put_there = (rw road_put at c.put_road-figures.ensures.out_after, rw road_put at c.put_road-figures.ensures.value)

  long_3 : length c.put_road-figures.new.out ≡ length c.args.out.now
  long_3 =
      ap length put_there.0 ∙ length_written _ _ _ ∙ ap length c.put_text-next.ensures.out_after ∙ length_written _ _ _
      ∙ ap length c.put_text-in_force.ensures.out_after ∙ length_written _ _ _

pub put_text-requires : goal.put_text-requires
put_text-requires c =
    (c.requires.0, omega (arith, room (goal.at.put_text-requires c).After-figures_of-f, long_3 (goal.at.put_text-requires c).After-put_road-figures, (put_there (goal.at.put_text-requires c).After-put_road-figures).1, c.put_text-in_force.ensures.value, c.put_text-next.ensures.value))

pub returns : goal.returns
returns c =
    let all = parts_put (s (goal.at.returns c).After-figures_of-f) c.args.out.now c.requires.1 (c.put_text-in_force.ensures.out_after, c.put_text-in_force.ensures.value) (c.put_text-next.ensures.out_after, c.put_text-next.ensures.value) (put_there (goal.at.returns c).After-put_road-figures) (c.put_text.ensures.out_after, c.put_text.ensures.value) in
    record { out_after = all.0; value = all.1 }
