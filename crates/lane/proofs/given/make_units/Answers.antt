-- A number that 16 bits hold with its sign is a wish of as many units.
use mathlib.Core.Path.{◌≡◌, sym, ◌∙◌}
use mir.Syntax.{w16, w32}
use mir.Val.{SFits, to_z, of_z}
use mir.Facts.{to_z-of_z}
use Rattle.std.proofs.lemmas.Result.{OkIff-at_ok, OkIff-at_err}
use Rattle.lane.proofs.driving.Numbers.{units_read, none_read}
use Rattle.lane.proofs.given.make_units.Goals.{After-cast_signed}
use Rattle.lane.proofs.given.make_units.Goals as goal

-- the number with its sign, as `try_from` reads it
read : (c : After-cast_signed) → to_z w32 (of_z w32 c.cast_signed.result) ≡ to_z w32 c.args.value
read c = to_z-of_z {w = w32} (record { sfits = c.cast_signed.type_inv }) ∙ c.cast_signed.ensures

pub returns-in-Ok : goal.returns-in-Ok
returns-in-Ok c =
    let r = OkIff-at_ok _ _ _ _ c.try_from.ensures c.in-Ok.is in
    let is = read (goal.at.returns-in-Ok c).After-cast_signed in
    let fits : SFits w16 (to_z w32 c.args.value) = rw is at r.0 in
    let units : c.in-Ok.units ≡ to_z w32 c.args.value = r.1 ∙ is in
    rw (units, to_z-of_z fits) (sym (units_read c.args.value c.ranges.value.fits fits))

pub returns-in-Err : goal.returns-in-Err
returns-in-Err c =
    let not = OkIff-at_err _ _ _ _ c.try_from.ensures c.in-Err.is in
    sym (none_read c.args.value c.ranges.value.fits (rw (read (goal.at.returns-in-Err c).After-cast_signed) at not))
