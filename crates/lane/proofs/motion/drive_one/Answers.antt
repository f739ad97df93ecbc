-- `lane::motion::drive_one` meets its contract: the units are trimmed, and stand or give way to guaranteed braking.
use borrow.Author.Rules.{rules}
use mathlib.Core.Path.{◌≡◌, refl, sym, ap, ap₂, ◌∙◌}
use mathlib.Core.Bool.{Bool, cond}
use native.Mathlib.Omega.{arith}
use lib.IntN.{ℤ}
use mir.Syntax.{w64}
use mir.Val.{SFits, to_z, of_z}
use mir.Facts.{to_z-of_z}
use Rattle.headway.specs.Stopping.{braking}
use Rattle.lane.specs.Safety.{Ahead, nobody, leader, guaranteed_rate}
use Rattle.lane.specs.Wishes.{trimmed, stands}
use Rattle.lane.proofs.driving.Drives.{Leads, trimmed_leads, braking_leads, drive_kept, drive_replaced}
use Rattle.lane.proofs.motion.drive_one.Goals.{After-trimmed-trimmed, After-wish_stands}
use Rattle.lane.proofs.motion.drive_one.Goals as goal

module _ (c : After-trimmed-trimmed) where
  abbrev ahead_of_is : Ahead
  ahead_of_is = cond c.args.foremost nobody (leader c.args.ahead)

  -- the trimmed wish of the definition
  abbrev w : ℤ
  w = trimmed c.args.row c.args.limit c.args.c c.args.units

  -- it is what the machine has
  trimmed_is : to_z w64 (of_z w64 c.trimmed-trimmed.result) ≡ w
  unfolding trimmed
  trimmed_is =
      let f : SFits w64 c.trimmed-trimmed.result = search rules in
      let g = to_z-of_z f in
      let e = c.trimmed-trimmed.ensures in
      let u = to_z-of_z c.ranges.units in
      cc

  leads : Leads c.args.c.speed w c.args.limit
  leads = trimmed_leads c.args.row c.args.limit c.args.c c.args.units c.requires.bound.1.0

stands_is : (c : After-wish_stands) (t : Bool) → c.wish_stands.result ≡ t → stands c.args.row (ahead_of_is c.before) c.args.c (w c.before) ≡ t
stands_is c t e =
    ap (stands c.args.row (ahead_of_is c.before) c.args.c) (sym (trimmed_is c.before)) ∙ sym c.wish_stands.ensures ∙ e

pub wish_stands-requires : goal.wish_stands-requires
wish_stands-requires c =
    record { bound = c.requires.bound.0; w_value = rw (trimmed_is (goal.at.wish_stands-requires c).After-trimmed-trimmed) (((leads (goal.at.wish_stands-requires c).After-trimmed-trimmed).sum, omega (arith, (leads (goal.at.wish_stands-requires c).After-trimmed-trimmed).small, c.requires.bound.1.1))); length_bound = ((c.requires.length_bound.0, (omega (arith, c.requires.bound.1), c.requires.length_bound.1))) }

pub returns-then-wish_stands : goal.returns-then-wish_stands
returns-then-wish_stands c =
    let a = c.args in
    record { value = rw (trimmed_is (goal.at.returns-then-wish_stands c).After-trimmed-trimmed) (drive_kept a.row a.limit (ahead_of_is (goal.at.returns-then-wish_stands c).After-trimmed-trimmed) a.c a.units (w (goal.at.returns-then-wish_stands c).After-trimmed-trimmed) (stands_is (goal.at.returns-then-wish_stands c).After-wish_stands _ c.if-wish_stands.true) refl); acceleration_value = rw (trimmed_is (goal.at.returns-then-wish_stands c).After-trimmed-trimmed) (((leads (goal.at.returns-then-wish_stands c).After-trimmed-trimmed).sum, (leads (goal.at.returns-then-wish_stands c).After-trimmed-trimmed).small)) }

pub returns : goal.returns
returns c =
    let a = c.args in
    let f : SFits w64 c.braking.result = search rules in
    let e : to_z w64 (of_z w64 c.braking.result) ≡ braking (guaranteed_rate a.row a.c) a.c.speed =
    to_z-of_z f ∙ c.braking.ensures ∙ ap₂ braking c.guaranteed_rate.ensures c.narrow-v.ensures
    in
    let l = braking_leads (guaranteed_rate a.row a.c) a.c.speed a.limit c.requires.bound.1.0 in
    record { value = rw e (drive_replaced a.row a.limit (ahead_of_is (goal.at.returns c).After-trimmed-trimmed) a.c a.units _ (stands_is (goal.at.returns c).After-wish_stands _ c.if-wish_stands.false) refl); acceleration_value = rw e ((l.sum, l.small)) }
