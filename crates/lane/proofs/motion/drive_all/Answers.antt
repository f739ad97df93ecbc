-- `lane::motion::drive_all` meets its contract. The invariant: what the places passed have given, and the definition's result is that
-- followed by what it gives from the present place on.
use borrow.Author.Rules.{rules}
use mathlib.Core.Path.{◌≡◌, refl, sym, ap, ◌∙◌, subst}
use mathlib.Core.List.{List}
use Prim.Native.Nat.{◌≤◌, ◌<◌}
use native.Mathlib.Omega.{arith}
use lib.IntN.{ℤ, pos}
use lib.ListN.{get_or}
use mir.Syntax.{w32, w64}
use mir.Val.{SFits, to_z, of_z}
use mir.Facts.{to_z-of_z, sfits_widen}
use Rattle.lane.specs.declared.Carrier.{Carrier}
use Rattle.lane.specs.Layout.{records_in}
use Rattle.lane.specs.Wishes.{drive, moved}
use Rattle.lane.specs.Calls.{none}
use Rattle.lane.proofs.checks.Records.{same_head}
use Rattle.lane.proofs.checks.Surfaces.{rate_brakes}
use Rattle.lane.proofs.checks.Soundness.{SoundRoad, sound_road, Fit, fit_of, faultless, Narrow, fit_narrow}
use Rattle.lane.proofs.driving.Cycles.{ahead_at, driving_start, word_below, here, driving_on, all_marked, all_kept}
use Rattle.lane.proofs.motion.drive_all.Goals.{After-carrier_at-c, After-drive_one-arg-1, After-struct_told-1}
use Rattle.lane.proofs.motion.drive_all.Goals as goal

-- the carrier at the loop's place
module _ (k : After-carrier_at-c) where
  abbrev cs : List Carrier
  cs = records_in k.args.l.now

  below : k.loop-i.i < k.args.count
  below = omega arith

  road_sound : SoundRoad k.args.road
  road_sound = sound_road k.args.road k.requires.count_bound.1.0

  fit_here : Fit k.args.road k.carrier_at-c.result
  fit_here =
      subst (Fit k.args.road) (sym (k.carrier_at-c.ensures ∙ here k.loop-i.invariant.1))
      (fit_of k.args.road cs k.args.count k.loop-i.i none (faultless _ _ _ k.requires.count_bound.1.1) below (omega (arith, k.requires.count_bound.0, k.requires.l_len.0)))

  narrow_here : Narrow k.carrier_at-c.result
  narrow_here = fit_narrow k.args.road k.carrier_at-c.result road_sound fit_here

-- the units read are of 32 bits, which 64 hold
module _ (d : After-drive_one-arg-1) where
  abbrev unit : ℤ
  unit = get_or d.args.units.now d.loop-i.i (pos 0)

  unit_fits : SFits w32 unit
  unit_fits = search rules

  unit_wide : SFits w64 (to_z w32 (of_z w32 unit))
  unit_wide = subst (SFits w64) (sym (to_z-of_z unit_fits)) (sfits_widen tt unit_fits)

  unit_read : to_z w64 (of_z w64 (to_z w32 (of_z w32 unit))) ≡ unit
  unit_read = to_z-of_z unit_wide ∙ to_z-of_z unit_fits

-- and the acceleration driven of 64
driven_fits : (t : After-struct_told-1) → SFits w64 t.drive_one-d.result.acceleration
driven_fits t = search rules

pub loop-i-init : goal.loop-i-init
loop-i-init c =
    ((refl, refl), rw c.no_carrier-ahead.ensures (driving_start c.args.row c.args.road c.args.count _ c.args.units.now c.requires.count_bound.0 c.requires.l_len.0 (omega arith)))

pub overflow_cast-units : goal.overflow_cast-units
overflow_cast-units c = unit_wide (goal.at.overflow_cast-units c).After-drive_one-arg-1

pub drive_one-d-requires : goal.drive_one-d-requires
drive_one-d-requires c =
    let road = road_sound (goal.at.drive_one-d-requires c).After-carrier_at-c in
    let ahead = c.loop-i.invariant.1.narrow in
    record { bound = (rate_brakes c.args.row c.carrier_at-c.result c.requires.l_len.1 (fit_here (goal.at.drive_one-d-requires c).After-carrier_at-c).rate_least, ((fit_here (goal.at.drive_one-d-requires c).After-carrier_at-c).slow, road.limit_most)); length_bound = (omega (arith, (narrow_here (goal.at.drive_one-d-requires c).After-carrier_at-c).position, ahead.short), (omega (arith, ahead.position), ahead.speed)) }

pub marked-word-requires : goal.marked-word-requires
marked-word-requires c =
    (omega (arith, below (goal.at.marked-word-requires c).After-carrier_at-c, c.requires.count_bound.0), word_below c.loop-i.invariant.1)

pub move_one-requires : goal.move_one-requires
move_one-requires c =
    rw (to_z-of_z (driven_fits (goal.at.move_one-requires c).After-struct_told-1)) (c.drive_one-d.ensures.acceleration_value.0, (omega (arith, c.drive_one-d.ensures.acceleration_value.1, (road_sound (goal.at.move_one-requires c).After-carrier_at-c).limit_most), (omega (arith, (narrow_here (goal.at.move_one-requires c).After-carrier_at-c).position), (narrow_here (goal.at.move_one-requires c).After-carrier_at-c).speed)))

pub keep-left-requires : goal.keep-left-requires
keep-left-requires c =
    omega (arith, below (goal.at.keep-left-requires c).After-carrier_at-c, c.requires.count_bound.0, c.loop-i.invariant.1.few)

pub loop-i-preserved : goal.loop-i-preserved
loop-i-preserved c =
    let x = c.carrier_at-c.result in
    let inv = c.loop-i.invariant in
    let driven = ap (drive c.args.row c.args.road.limit (ahead_at c.loop-i.i c.loop-i.ahead) x) (unit_read (goal.at.loop-i-preserved c).After-drive_one-arg-1) in
    let moved-there = ap (moved x) (to_z-of_z (driven_fits (goal.at.loop-i-preserved c).After-struct_told-1)) in (
      same_head c.keep-left.ensures.l_unchanged inv.0,
      driving_on inv.1 x c.drive_one-d.result c.marked-word.result c.move_one.result (below (goal.at.loop-i-preserved c).After-carrier_at-c) (narrow_here (goal.at.loop-i-preserved c).After-carrier_at-c)
          c.carrier_at-c.ensures (c.drive_one-d.ensures.value ∙ driven) c.marked-word.ensures (c.move_one.ensures ∙ moved-there) _ _
          c.keep-left.ensures.l_after c.keep-left.ensures.value,
    )

pub returns : goal.returns
returns c =
    let inv = c.loop-i.invariant in
    let m = inv.1 in
    let past : c.args.count ≤ c.loop-i.i = omega arith in
    record { word_value = all_marked m past; l_after = all_kept m past; count_le_count = (omega (arith, m.few, m.place), (inv.0, m.long)) }
