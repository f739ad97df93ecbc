-- The checks are made in the order of `lane_no`, over the figures as they are read once.
use mathlib.Core.Path.{◌≡◌, refl, sym, ◌∙◌}
use mathlib.Core.Bool.{false, ◌||◌, cond}
use borrow.Author.Tests.{ne_eqb, lt-ltb, le-ltb}
use lib.Dec.{ltb}
use lib.ListN.{take}
use Rattle.lane.specs.Surface.{unsound, row_in}
use Rattle.lane.specs.Layout.{Words, table_from, tables_in, records_in, state_of}
use Rattle.lane.specs.Rules.{road_no, carriers_no, lane_no}
use Rattle.lane.proofs.Refused.{refused_number, accepted_zero}
use Rattle.lane.proofs.lists.Tests.{neither}
use Rattle.lane.proofs.checks.Surfaces.{row_brakes, sound_at}
use Rattle.lane.proofs.checks.Soundness.{sound_road}
use Rattle.lane.proofs.checks.Checks.{lane_checks}
use Rattle.lane.proofs.rules.check_lane.Goals.{Else-is_err, Else-unsound_in}
use Rattle.lane.proofs.rules.check_lane.Goals as goal

pub returns-then-not-f : goal.returns-then-not-f
returns-then-not-f c = rw (lane_checks _ _ c.figures_of-f.ensures.value, c.if-not-f.true) refl

pub returns-then-is_err : goal.returns-then-is_err
returns-then-is_err c =
    rw (lane_checks _ _ c.figures_of-f.ensures.value, c.if-not-f.false, ← c.check_road.ensures, ne_eqb _ _ (refused_number c.check_road.result (sym c.is_err.ensures.value ∙ c.if-is_err.true))) refl

-- what is known past the tests of the road, and of both tables
module _ (c : Else-is_err) where
  abbrev l : Words
  l = c.args.l.now

  road_holds : road_no c.figures_of-f.result.road ≡ 0
  road_holds = sym c.check_road.ensures ∙ accepted_zero c.check_road.result (sym c.is_err.ensures.value ∙ c.if-is_err.false)

  -- the checks that are left
  left : lane_no (state_of l)
      ≡ cond
      (unsound (table_from 1 l) || unsound (table_from 9 l) || ltb 64 c.figures_of-f.result.count)
      36
      (carriers_no (row_in (tables_in l) c.figures_of-f.result.road) c.figures_of-f.result.road (take c.figures_of-f.result.count (records_in l)))
  left = lane_checks l c.figures_of-f.result c.figures_of-f.ensures.value ∙ rw (c.if-not-f.false, road_holds) refl

module _ (c : Else-unsound_in) where
  sound_tables : (unsound (table_from 1 (l c.before.before.before)) ≡ false) × (unsound (table_from 9 (l c.before.before.before)) ≡ false)
  sound_tables =
      let t = neither c.unsound_in.result c.unsound_in-2.result c.if-unsound_in.false in
      (sym c.unsound_in.ensures ∙ t.0, sym c.unsound_in-2.ensures ∙ t.1)

pub returns-then-unsound_in : goal.returns-then-unsound_in
returns-then-unsound_in c =
    sym (left (goal.at.returns-then-unsound_in c).Else-is_err ∙ rw (← c.unsound_in.ensures, ← c.unsound_in-2.ensures, c.if-unsound_in.true) refl)

pub returns-then-f-gt-MOST_CARRIERS : goal.returns-then-f-gt-MOST_CARRIERS
returns-then-f-gt-MOST_CARRIERS c =
    sym (left (goal.at.returns-then-f-gt-MOST_CARRIERS c).Else-is_err ∙ rw ((sound_tables (goal.at.returns-then-f-gt-MOST_CARRIERS c).Else-unsound_in).0, (sound_tables (goal.at.returns-then-f-gt-MOST_CARRIERS c).Else-unsound_in).1, lt-ltb _ _ c.if-f-gt-MOST_CARRIERS.true) refl)

pub row_in-requires : goal.row_in-requires
row_in-requires c = (road_holds (goal.at.row_in-requires c).Else-is_err, (sound_tables (goal.at.row_in-requires c).Else-unsound_in).0)

pub check_carriers-requires : goal.check_carriers-requires
check_carriers-requires c =
    let road = road_holds (goal.at.check_carriers-requires c).Else-is_err in
    record { count_bound = (c.if-f-gt-MOST_CARRIERS.false, (c.figures_of-f.ensures.l_len, road)); le_guaranteed = rw c.row_in.ensures (row_brakes _ (sound_at _ _ (sound_road _ road).surface (sound_tables (goal.at.check_carriers-requires c).Else-unsound_in).0)) }

pub returns : goal.returns
returns c =
    c.check_carriers.ensures
    ∙ sym (left (goal.at.returns c).Else-is_err ∙ rw ((sound_tables (goal.at.returns c).Else-unsound_in).0, (sound_tables (goal.at.returns c).Else-unsound_in).1, le-ltb _ _ c.if-f-gt-MOST_CARRIERS.false, ← c.row_in.ensures) refl)
