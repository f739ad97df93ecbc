-- The checks are made in the order of `place_no`, and the place is where the walk ends.
use mathlib.Core.Path.{◌≡◌, refl, sym, ap, ◌∙◌}
use mathlib.Core.Bool.{Bool, cond}
use native.Mathlib.Omega.{arith}
use borrow.Author.Tests.{eq-eqb, ne_eqb}
use lib.Dec.{ltb}
use lib.ListN.{take}
use lib.Seq.{length-take-le}
use Rattle.lane.specs.declared.refusal.Refusal.TheVariants.{LaneFull, NumberPresent}
use Rattle.lane.specs.Refusals.{outcome_no}
use Rattle.lane.specs.Surface.{row_in}
use Rattle.lane.specs.Safety.{any_of, numbered}
use Rattle.lane.specs.Layout.{tables_in, records_in, state_with, state_of}
use Rattle.lane.specs.Calls.{none, walk, gap_no, place_no}
use Rattle.lane.proofs.Refused.{passed_up}
use Rattle.lane.proofs.lists.Search.{place_le}
use Rattle.lane.proofs.lists.Lookups.{found_at, found_nowhere}
use Rattle.lane.proofs.checks.Soundness.{Sound, row_sound, sound_with, sound_road_holds, newcomer_fit, fit_narrow, fit_of}
use Rattle.lane.proofs.checks.Surfaces.{row_brakes}
use Rattle.lane.proofs.checks.Checks.{place_checks, refused_as, accepted_as}
use Rattle.lane.proofs.rules.find_place.Goals.{After-figures_of-f, After-find-named, After-check_neighbours}
use Rattle.lane.proofs.rules.find_place.Goals as goal

-- what the figures and the records have
known : (c : After-figures_of-f) → Sound (state_with c.figures_of-f.result (tables_in c.args.l.now) (records_in c.args.l.now))
known c = sound_with _ _ c.figures_of-f.ensures.value c.requires.0

pub returns-then-count-eq-MOST_CARRIERS : goal.returns-then-count-eq-MOST_CARRIERS
returns-then-count-eq-MOST_CARRIERS c =
    let a = c.args in
    refused_as _ _ LaneFull (place_checks a.l.now _ c.figures_of-f.ensures.value a.c ∙ rw (eq-eqb _ _ c.if-count-eq-MOST_CARRIERS.true) refl)

-- past 22 what is found decides
found_decides : (c : After-find-named) (t : Bool) → let a = c.args in let cs = take c.figures_of-f.result.count (records_in a.l.now) in
    any_of (numbered a.c.number) (state_of a.l.now).carriers ≡ t
    → place_no (state_of a.l.now) a.c ≡ cond t 23 (gap_no (row_in (tables_in a.l.now) c.figures_of-f.result.road) (walk a.c.position cs) a.c cs)
found_decides c t e =
    let a = c.args in
    place_checks a.l.now _ c.figures_of-f.ensures.value a.c
    ∙ rw (ne_eqb _ _ c.if-count-eq-MOST_CARRIERS.false, e) refl

pub returns-in-Some : goal.returns-in-Some
returns-in-Some c =
    let there = found_at _ _ _ c.find-named.ensures.found _ c.in-Some.is in
    refused_as _ _ NumberPresent (found_decides (goal.at.returns-in-Some c).After-find-named _ there.0)

pub entry_place-place-requires : goal.entry_place-place-requires
entry_place-place-requires c = (known (goal.at.entry_place-place-requires c).After-figures_of-f).count

pub row_in-requires : goal.row_in-requires
row_in-requires c =
    let s = known (goal.at.row_in-requires c).After-figures_of-f in
    (sound_road_holds c.figures_of-f.result.road s.road, s.in_force_is)

pub check_neighbours-requires : goal.check_neighbours-requires
unfolding walk
check_neighbours-requires c =
    let a = c.args in
    let f = c.figures_of-f.result in
    let l = records_in a.l.now in
    let s = known (goal.at.check_neighbours-requires c).After-figures_of-f in
    let few = length-take-le f.count l (omega arith) in
    let end = place_le (λ k. ltb k.position a.c.position) (take f.count l) in
    let own = newcomer_fit f.road a.c (rw c.figures_of-f.ensures.value c.requires.1) in
    let new = fit_narrow f.road a.c s.road own in
    record {
      place_le_count = (omega (arith, c.entry_place-place.ensures), (s.count, c.figures_of-f.ensures.l_len));
      le_guaranteed = (rw c.row_in.ensures (row_brakes _ (row_sound s)), (new.position, (new.speed, (new.short, own.rate_least))));
      by_index = λ i h.
          let fits = fit_of f.road l f.count i none s.carriers h (omega (arith, s.count)) in
          let n = fit_narrow f.road _ s.road fits in
          (n.position, (n.speed, (n.short, fits.rate_least)));
    }

-- past 22 and 23 the gap decides
gap_decides : (c : After-check_neighbours) → let a = c.args in place_no (state_of a.l.now) a.c ≡ outcome_no c.check_neighbours.result
gap_decides c =
    found_decides c.before.before.before.before _ (found_nowhere _ _ _ c.find-named.ensures.found c.in_default.is)
    ∙ rw (← c.entry_place-place.ensures, ← c.row_in.ensures) (sym c.check_neighbours.ensures)

pub returns-in_err-check_neighbours : goal.returns-in_err-check_neighbours
returns-in_err-check_neighbours c =
    rw (passed_up _ c.from_residual.ensures.1) (refused_as _ _ _ (gap_decides (goal.at.returns-in_err-check_neighbours c).After-check_neighbours ∙ ap outcome_no c.in_err-check_neighbours.was))

pub returns : goal.returns
returns c =
    accepted_as _ _ _ (gap_decides (goal.at.returns c).After-check_neighbours ∙ ap outcome_no c.in_ok-check_neighbours.was) (rw c.figures_of-f.ensures.value at c.entry_place-place.ensures)
