-- What is known of the two neighbours decides.
use mathlib.Core.Path.{◌≡◌, refl, sym, ap, ◌∙◌}
use Prim.Native.Nat.{◌≤◌}
use native.Mathlib.Omega.{arith}
use lib.ListN.{length}
use lib.Seq.{length-take-le}
use Rattle.lane.specs.declared.layout.Figures.{Figures}
use Rattle.lane.specs.Surface.{row_in}
use Rattle.lane.specs.Layout.{Words, records_in, state_of}
use Rattle.lane.specs.Opening.{newcomer_at, opens}
use Rattle.lane.proofs.Newcomers.{values_are}
use Rattle.lane.proofs.checks.Soundness.{Sound, sound, sound_road_holds}
use Rattle.lane.proofs.calls.Openings.{opens_between}
use Rattle.lane.proofs.openings.opening_at.Goals.{After-figures_of-f, After-row_in-row, Start}
use Rattle.lane.proofs.openings.opening_at.Goals as goal

-- what is known of the lane and of the newcomer
module _ (s : Start) where
  abbrev l : Words
  l = s.args.l.now

  known : Sound (state_of l)
  known = sound (state_of l) s.requires.0

  values : (s.args.n.speed ≤ (state_of l).road.limit) × (s.args.n.length ≤ 65535) × (1 ≤ s.args.n.rate) × (s.args.n.rate ≤ 255)
  values = values_are (state_of l).road (newcomer_at s.args.n 0) s.requires.1.1

pub row_in-row-requires : goal.row_in-row-requires
row_in-row-requires c =
    (rw c.figures_of-f.ensures.value (sound_road_holds (state_of (l (goal.at.row_in-row-requires c).Start)).road (known (goal.at.row_in-row-requires c).Start).road), (known (goal.at.row_in-row-requires c).Start).in_force_is)

-- the row that is found is the one in force
row_is : (c : After-row_in-row) → c.row_in-row.result ≡ row_in (state_of (l c.before.before.before)).tables (state_of (l c.before.before.before)).road
row_is c = c.row_in-row.ensures ∙ rw c.figures_of-f.ensures.value refl

pub lowest_at-requires : goal.lowest_at-requires
lowest_at-requires c =
    let counted : c.figures_of-f.result.count ≡ length (state_of (l (goal.at.lowest_at-requires c).Start)).carriers =
    ap (λ (f : Figures). f.count) c.figures_of-f.ensures.value ∙ sym (length-take-le (state_of (l (goal.at.lowest_at-requires c).Start)).count (records_in (l (goal.at.lowest_at-requires c).Start)) (omega (arith, (known (goal.at.lowest_at-requires c).Start).count, c.figures_of-f.ensures.l_len))) in
    record { l_value = (c.requires.0, (row_is (goal.at.lowest_at-requires c).After-row_in-row, counted)); speed_bound = (omega (arith, (values (goal.at.lowest_at-requires c).Start).0, (known (goal.at.lowest_at-requires c).Start).road.limit_most), (values (goal.at.lowest_at-requires c).Start).1) }

end_is : (c : After-figures_of-f) → c.figures_of-f.result.road.end ≡ (state_of (l c.before)).road.end
end_is c = ap (λ (f : Figures). f.road.end) c.figures_of-f.ensures.value

pub end_at-requires : goal.end_at-requires
end_at-requires c =
    record { l_value = (c.requires.0, (row_is (goal.at.end_at-requires c).After-row_in-row, c.requires.1.0)); end_value = (end_is (goal.at.end_at-requires c).After-figures_of-f, (omega (arith, (values (goal.at.end_at-requires c).Start).0, (known (goal.at.end_at-requires c).Start).road.limit_most), (values (goal.at.end_at-requires c).Start).2)) }

pub returns : goal.returns
returns c =
    let end = end_is (goal.at.returns c).After-figures_of-f in
    let h = known (goal.at.returns c).Start in
    c.span.ensures (opens (state_of (l (goal.at.returns c).Start)) c.args.place c.args.n)
    (opens_between (state_of (l (goal.at.returns c).Start)) c.args.place c.args.n h.carriers.safe c.requires.1.0 _ _
    (λ p. rw (row_is (goal.at.returns c).After-row_in-row) at (c.lowest_at.ensures p))
    (λ p. rw (row_is (goal.at.returns c).After-row_in-row, end) at (c.end_at.ensures.0 p)))
    (omega (arith, c.end_at.ensures.1, end, h.road.end_most))
