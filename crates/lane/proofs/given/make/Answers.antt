-- `lane::given::make` meets its contract, by the sorts in turn.
use borrow.Author.Tests.{ne_eqb}
use mathlib.Core.Path.{◌≡◌, refl, ap}
use native.Mathlib.Omega.{arith}
use Rattle.std.specs.Prelude.{Option, None}
use Rattle.wish.specs.Units.{units_of}
use Rattle.wish.specs.declared.Wish.{Wish}
use Rattle.lane.specs.Given.{wish_made, is_unknown, made_wish}
use Rattle.lane.proofs.given.make.Goals as goal

pub returns-in-0 : goal.returns-in-0
unfolding wish_made
returns-in-0 c =
    let e = c.make_units.ensures in
    record { unknown = rw (c.in-0.is) (ap is_unknown e); units = rw (c.in-0.is) (λ v. ap (λ (x : Option Wish). units_of (made_wish x) v) e) }

pub returns-in-1 : goal.returns-in-1
unfolding wish_made
returns-in-1 c = record { unknown = rw (c.in-1.is) refl; units = rw (c.in-1.is) c.acceleration_of.ensures }

pub returns-in-2 : goal.returns-in-2
unfolding wish_made
returns-in-2 c = record { unknown = rw (c.in-2.is) refl; units = rw (c.in-2.is) c.target_of.ensures }

pub returns-in-3 : goal.returns-in-3
unfolding wish_made
returns-in-3 c = record { unknown = rw (c.in-3.is) refl; units = rw (c.in-3.is) (λ v. refl) }

pub returns-in_default : goal.returns-in_default
unfolding wish_made
returns-in_default c =
    let s = c.args.sort in
    let none : wish_made s c.args.value ≡ None = rw (ne_eqb s 0 (λ e. omega arith), ne_eqb s 1 (λ e. omega arith), ne_eqb s 2 (λ e. omega arith), ne_eqb s 3 (λ e. omega arith)) refl in
    record { unknown = rw none refl; units = rw none (λ v. refl) }
