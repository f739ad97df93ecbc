-- The checks are made in the order of `surface_no`; on a lane that breaks no rule every row in force brakes, and numbers are of 32 bits.
use mathlib.Core.Path.{◌≡◌, refl, sym, ap, ◌∙◌}
use mathlib.Core.Bool.{Bool, false, not, cond}
use Prim.Native.Nat.{ℕ, ◌≤◌}
use native.Mathlib.Omega.{arith}
use borrow.Author.Tests.{lt-ltb, le-ltb, not-false, not-true}
use lib.ListN.{take}
use Rattle.lane.specs.declared.Row.{Row}
use Rattle.lane.specs.declared.layout.Figures.{Figures}
use Rattle.lane.specs.Surface.{row_of}
use Rattle.lane.specs.Layout.{Words, table_from, records_in, state_of, state_with, tables_in}
use Rattle.lane.specs.Safety.{lane_safe}
use Rattle.lane.specs.Rules.{road_no, broken}
use Rattle.lane.specs.Calls.{none, on_surface, surface_no}
use Rattle.lane.proofs.Refused.{passed_up}
use Rattle.lane.proofs.checks.Surfaces.{row_brakes, sound_at}
use Rattle.lane.proofs.checks.Soundness.{sound_road_holds, surfaced_road, fit_narrow, fit_of, Sound, sound_with}
use Rattle.lane.proofs.checks.Checks.{surface_checks, passes_21, refuses_21}
use Rattle.lane.proofs.weather.check_surface.Goals.{After-any_unsafe, After-figures_of-f, In_ok-check_sound}
use Rattle.lane.proofs.weather.check_surface.Goals as goal

pub returns-in_err-check_sound : goal.returns-in_err-check_sound
unfolding surface_no
returns-in_err-check_sound c =
    let why = refuses_21 (state_of c.args.l.now) _ c.in_err-check_sound.ensures in
    rw (passed_up _ c.from_residual.ensures.1, why.0) why.1

unbroken : (c : In_ok-check_sound) → broken (state_of c.args.l.now) ≡ false
unbroken c = passes_21 _ c.in_ok-check_sound.ensures

pub returns-then-code-gt-LAST_SURFACE : goal.returns-then-code-gt-LAST_SURFACE
unfolding surface_no
returns-then-code-gt-LAST_SURFACE c = rw (unbroken (goal.at.returns-then-code-gt-LAST_SURFACE c).In_ok-check_sound, lt-ltb _ _ c.if-code-gt-LAST_SURFACE.true) refl

-- what is known of the lane past the first two checks
module _ (at : After-figures_of-f) where
  abbrev l : Words
  l = at.args.l.now

  abbrev code : ℕ
  code = at.args.code

  abbrev f : Figures
  f = at.figures_of-f.result

  lane_sound : Sound (state_with f (tables_in l) (records_in l))
  lane_sound = sound_with l f at.figures_of-f.ensures.value (unbroken at.before.before)

  known : code ≤ 7
  known = at.if-code-gt-LAST_SURFACE.false

  surfaced_sound : road_no (on_surface code f.road) ≡ 0
  surfaced_sound = sound_road_holds _ (surfaced_road code f.road known lane_sound.road)

pub row_in-requires : goal.row_in-requires
row_in-requires c = (surfaced_sound (goal.at.row_in-requires c).After-figures_of-f, (lane_sound (goal.at.row_in-requires c).After-figures_of-f).in_force_is)

pub any_unsafe-requires : goal.any_unsafe-requires
any_unsafe-requires c =
    let h = lane_sound (goal.at.any_unsafe-requires c).After-figures_of-f in
    record {
      count_bound = (h.count, c.figures_of-f.ensures.l_len);
      le_guaranteed = rw c.row_in.ensures (row_brakes _ (sound_at _ _ (known (goal.at.any_unsafe-requires c).After-figures_of-f) h.in_force_is));
      by_index = λ i p.
          let fits = fit_of (f (goal.at.any_unsafe-requires c).After-figures_of-f).road (records_in (l (goal.at.any_unsafe-requires c).After-figures_of-f)) (f (goal.at.any_unsafe-requires c).After-figures_of-f).count i none h.carriers p (omega (arith, h.count, c.figures_of-f.ensures.l_len)) in
          let wide = fit_narrow _ _ h.road fits in
          (wide.position, (wide.speed, (wide.short, fits.rate_least)));
    }

-- the last check is that of safety by the new row
module _ (c : After-any_unsafe) where
  abbrev safe : Bool
  safe = lane_safe (row_of (table_from 1 (l c.before.before.before)) (code c.before.before.before)) (take (f c.before.before.before).count (records_in (l c.before.before.before)))

  found : c.any_unsafe.result ≡ not safe
  found = c.any_unsafe.ensures ∙ ap (λ (r : Row). not (lane_safe r (take (f c.before.before.before).count (records_in (l c.before.before.before))))) c.row_in.ensures

  number : surface_no (state_of (l c.before.before.before)) (code c.before.before.before) ≡ cond safe 0 34
  number = surface_checks (l c.before.before.before) (f c.before.before.before) c.figures_of-f.ensures.value (code c.before.before.before) ∙ rw (unbroken c.before.before.before.before.before, le-ltb _ _ (known c.before.before.before)) refl

pub returns-then-any_unsafe : goal.returns-then-any_unsafe
returns-then-any_unsafe c = sym (number (goal.at.returns-then-any_unsafe c).After-any_unsafe ∙ rw (not-true (safe (goal.at.returns-then-any_unsafe c).After-any_unsafe) (sym (found (goal.at.returns-then-any_unsafe c).After-any_unsafe) ∙ c.if-any_unsafe.true)) refl)

pub returns : goal.returns
returns c = sym (number (goal.at.returns c).After-any_unsafe ∙ rw (not-false (safe (goal.at.returns c).After-any_unsafe) (sym (found (goal.at.returns c).After-any_unsafe) ∙ c.if-any_unsafe.false)) refl)
