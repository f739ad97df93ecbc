-- `lane::motion::run` meets its contract: the records hold who is left of those that have moved, and the figures say how many.
use borrow.Author.Rules.{rules}
use mathlib.Core.Path.{◌≡◌, ap, ap₂, ◌∙◌}
use mathlib.Core.List.{List}
use Prim.Native.Nat.{◌+◌, ◌≤◌}
use native.Mathlib.Omega.{arith}
use lib.Count.{ones}
use lib.ListN.{take}
use mir.Syntax.{w64}
use mir.Val.{Fits}
use Rattle.lane.specs.declared.Carrier.{Carrier}
use Rattle.lane.specs.declared.Drive.{Drive}
use Rattle.lane.specs.declared.Road.{Road}
use Rattle.lane.specs.declared.Row.{Row}
use Rattle.lane.specs.declared.layout.Figures.{Figures}
use Rattle.lane.specs.Surface.{row_in}
use Rattle.lane.specs.Layout.{Words, figures_in, records_in, state_of}
use Rattle.lane.specs.Safety.{nobody}
use Rattle.lane.specs.Wishes.{drives, all_moved, replaced_in, word_of, remaining}
use Rattle.lane.specs.Calls.{drives_with, left_after}
use Rattle.lane.proofs.checks.Records.{counting, carriers_are}
use Rattle.lane.proofs.lists.Words.{word_ones}
use Rattle.lane.proofs.calls.Answers.{ready_tells}
use Rattle.lane.proofs.driving.Ready.{ready_few, ready_road, ready_faultless, ready_brakes, ready_state}
use Rattle.lane.proofs.motion.run.Goals.{After-drive_all-left, After-figures_of-f}
use Rattle.lane.proofs.motion.run.Goals as goal

-- the lane handed in, and its figures
module _ (k : After-figures_of-f) where
  abbrev l : Words
  l = k.args.l.now

  few : k.args.count ≤ 64
  few = ready_few l k.args.count k.requires

-- the carriers are driven, and what is known of it is said of the state
module _ (d : After-drive_all-left) where
  abbrev drives_of : Row → Road → List Carrier → List Drive
  drives_of row road cs = drives row road.limit nobody cs (take d.args.count d.args.units.now)

  said : (P : Row → Road → List Carrier → Type 0) → P d.row_in-row.result d.figures_of-f.result.road (take d.args.count (records_in (l d.before.before.before.before)))
      → P (row_in (state_of (l d.before.before.before.before)).tables (state_of (l d.before.before.before.before)).road) (state_of (l d.before.before.before.before)).road (state_of (l d.before.before.before.before)).carriers
  said = ready_state (l d.before.before.before.before) d.args.count d.requires d.figures_of-f.result d.figures_of-f.ensures.value d.row_in-row.result d.row_in-row.ensures

  word_is : d.drive_all-left.result.word ≡ word_of (replaced_in (drives_with (state_of (l d.before.before.before.before)) (take d.args.count d.args.units.now)))
  word_is = said (λ row road cs. d.drive_all-left.result.word ≡ word_of (replaced_in (drives_of row road cs))) d.drive_all-left.ensures.word_value

  kept_is : take d.drive_all-left.result.count (records_in d.drive_all-left.new.l)
      ≡ left_after (state_of (l d.before.before.before.before)) (drives_with (state_of (l d.before.before.before.before)) (take d.args.count d.args.units.now))
  kept_is =
      said (λ row road cs. take d.drive_all-left.result.count (records_in d.drive_all-left.new.l) ≡ remaining road (all_moved cs (drives_of row road cs)))
      d.drive_all-left.ensures.l_after

pub row_in-row-requires : goal.row_in-row-requires
row_in-row-requires c =
    ready_road (l (goal.at.row_in-row-requires c).After-figures_of-f) c.args.count c.requires c.figures_of-f.result c.figures_of-f.ensures.value

pub drive_all-left-requires : goal.drive_all-left-requires
drive_all-left-requires c =
    let row = c.row_in-row.result in
    let is = c.row_in-row.ensures in
    record { count_bound = (few (goal.at.drive_all-left-requires c).After-figures_of-f, ((ready_road (l (goal.at.drive_all-left-requires c).After-figures_of-f) c.args.count c.requires c.figures_of-f.result c.figures_of-f.ensures.value).0, ready_faultless (l (goal.at.drive_all-left-requires c).After-figures_of-f) c.args.count c.requires c.figures_of-f.result c.figures_of-f.ensures.value row is)); l_len = (c.figures_of-f.ensures.l_len, ready_brakes (l (goal.at.drive_all-left-requires c).After-figures_of-f) c.args.count c.requires c.figures_of-f.result c.figures_of-f.ensures.value row is) }

pub overflow_add-f : goal.overflow_add-f
overflow_add-f c =
    let g : Fits w64 c.figures_of-f.result.cycle = search rules in
    let e = ap (λ (f : Figures). f.cycle) c.figures_of-f.ensures.value in
    omega (arith, (ready_tells (state_of (l (goal.at.overflow_add-f c).After-figures_of-f)) c.args.count c.requires).not_last)

pub overflow_cast-result : goal.overflow_cast-result
overflow_cast-result c = omega (arith, few (goal.at.overflow_cast-result c).After-figures_of-f)

pub returns : goal.returns
returns c =
    let lane = l (goal.at.returns c).After-figures_of-f in
    let left = c.drive_all-left.result.count in
    let all = c.drive_all-left.ensures.count_le_count in
    let figures : figures_in c.put_count.new.l ≡ counting (figures_in lane) ((state_of lane).cycle + 1) left =
    c.put_count.ensures.l_after
    ∙ ap₂ (λ (f g : Figures). counting f (g.cycle + 1) left) c.drive_all-left.ensures.count_le_count.1.0.0 c.figures_of-f.ensures.value
    in
    record {
      word_value = word_is (goal.at.returns c).After-drive_all-left;
      replaced_value = ap ones (word_is (goal.at.returns c).After-drive_all-left) ∙ word_ones _;
      l_after = omega (arith, all.0, ap (λ (f : Figures). f.count) figures);
      l_after_2 = carriers_are lane c.put_count.new.l _ left (records_in c.drive_all-left.new.l) _ figures (c.put_count.ensures.l_unchanged ∙ c.drive_all-left.ensures.count_le_count.1.0.1) c.put_count.ensures.l_unchanged_2
          (omega (arith, all.0, all.1.1, few (goal.at.returns c).After-figures_of-f)) (kept_is (goal.at.returns c).After-drive_all-left);
    }
