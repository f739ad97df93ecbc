-- `lane::given::convert` meets its contract, as `lane::motion::convert`. The invariant says too that no wish so far is one that cannot be made.
use mathlib.Core.Path.{◌≡◌, refl, sym, ap, ◌∙◌}
use mathlib.Core.Bool.{Bool, true, false, cond, true≢false}
use Prim.Native.Nat.{ℕ, ◌≤◌}
use native.Mathlib.Omega.{arith}
use Rattle.std.specs.Prelude.{Option}
use borrow.Author.Rules.{rules}
use mir.Syntax.{w32}
use mir.Val.{SFits}
use mir.Facts.{to_z-of_z}
use lib.ListN.{length, get_or, take, set}
use Rattle.wish.specs.Units.{units_of}
use Rattle.wish.specs.declared.Wish.{Wish}
use Rattle.wish.specs.declared.Wish.TheVariants.{Hold}
use Rattle.lane.specs.Refusals.{number_of}
use Rattle.lane.specs.Layout.{records_in}
use Rattle.lane.specs.Wishes.{is_outside, units_in, any_outside}
use Rattle.lane.specs.Given.{wish_made, is_unknown, made_wish, wishes_made, any_unknown, wishes_no, wishes_given}
use Rattle.lane.proofs.checks.Records.{records_long}
use Rattle.lane.proofs.driving.Ready.{ready_few, ready_narrow}
use Rattle.lane.proofs.driving.Converting.{converting_start, outside_here, converted_here, none_outside, all_converted}
use Rattle.lane.proofs.driving.Making.{few_sorts, few_values, by_sorts, unknown_here, known_here, all_known, unfit_no, unmade_first, unfit_is, none_unfit, made_take, made_at, made_long}
use Rattle.lane.proofs.given.convert.Goals.{After-units_at, After-make, Start}
use Rattle.lane.proofs.given.convert.Goals as goal

-- what the contract speaks of
module _ (s : Start) where
  abbrev no : ℕ
  no = wishes_no s.args.count s.args.sorts.now s.args.values.now

  abbrev outside : Bool
  outside = any_outside (take s.args.count (records_in s.args.l.now)) (wishes_given s.args.count s.args.sorts.now s.args.values.now)

-- whether the wish at the loop's place cannot be made
module _ (k : After-make) where
  told : (m : Option Wish) → k.make.result ≡ m → is_unknown (wish_made (get_or k.args.sorts.now k.loop-i.i 0) (get_or k.args.values.now k.loop-i.i 0)) ≡ is_unknown m
  told m e = sym k.make.ensures.unknown ∙ ap is_unknown e

-- the wish there
module _ (u : After-units_at) where
  wish_is : (v : ℕ) → units_of u.in-Some.w v ≡ units_of (get_or (wishes_made u.args.sorts.now u.args.values.now) u.loop-i.i Hold) v
  wish_is v =
      ap (λ (m : Option Wish). units_of (made_wish m) v) (sym u.in-Some.is) ∙ u.make.ensures.units v
      ∙ ap (λ (w : Wish). units_of w v) (made_at u.args.sorts.now u.args.values.now u.loop-i.i (omega arith) (omega arith))

-- a refusal by `unfit`, where one cannot be made or is outside its range
module _ (s : Start) where
  abbrev unknown : Bool
  unknown = any_unknown (take s.args.count s.args.sorts.now) (take s.args.count s.args.values.now)

  refused : (long : (s.args.count ≤ length s.args.sorts.now) × (s.args.count ≤ length s.args.values.now)) (m : ℕ) → m ≡ cond unknown 11 7 → (unknown ≡ false → outside s ≡ true) → (m ≡ unfit_no (no s) (outside s)) × ¬ (m ≡ 0)
  refused long m e o =
      unfit_is (no s) unknown (outside s) (by_sorts s.args.count s.args.sorts.now s.args.values.now long.0 long.1 unknown refl) m e o

pub returns-then-sorts-count : goal.returns-then-sorts-count
returns-then-sorts-count c =
    let a = c.args in
    record { number = unmade_first (no (goal.at.returns-then-sorts-count c).Start) 12 (λ z. omega arith) (sym (few_sorts a.count a.sorts.now a.values.now (omega arith))) (outside (goal.at.returns-then-sorts-count c).Start); units = tt }

pub returns-then-values-count : goal.returns-then-values-count
returns-then-values-count c =
    let a = c.args in
    record { number = unmade_first (no (goal.at.returns-then-values-count c).Start) 12 (λ z. omega arith) (sym (few_values a.count a.sorts.now a.values.now (omega arith) (omega arith))) (outside (goal.at.returns-then-values-count c).Start); units = tt }

pub loop-i-init : goal.loop-i-init
loop-i-init c =
    let a = c.args in
    let sorts : a.count ≤ length a.sorts.now = omega arith in
    let values : a.count ≤ length a.values.now = omega arith in (
      (sorts, values),
      (
        refl,
        converting_start _ _ _ _ (ready_few a.l.now a.count c.requires) (records_long _ (omega arith))
            (made_long a.count a.sorts.now a.values.now sorts values) (omega arith),
      ),
    )

pub bounds-sorts-i : goal.bounds-sorts-i
bounds-sorts-i c = omega arith

pub bounds-values-i : goal.bounds-values-i
bounds-values-i c = omega arith

pub unfit-requires : goal.unfit-requires
unfit-requires c = c.loop-i.invariant.0

pub returns-in_default : goal.returns-in_default
returns-in_default c =
    let a = c.args in
    let inv = c.loop-i.invariant in
    let here = unknown_here a.count a.sorts.now a.values.now inv.0.0 inv.0.1 c.loop-i.i inv.1.0 (omega arith) (told (goal.at.returns-in_default c).After-make _ c.in_default.is) in
    let r = refused (goal.at.returns-in_default c).Start c.loop-i.invariant.0 (number_of c.unfit.result) c.unfit.ensures (λ e. absurd (true≢false (sym here ∙ e))) in
    record { number = r.0; units = tt }

pub units_at-requires : goal.units_at-requires
units_at-requires c =
    let m = c.loop-i.invariant.1.1 in
    (omega (arith, m.most), (ready_narrow c.args.l.now c.args.count c.requires c.loop-i.i (omega arith) m.carriers).slow)

pub unfit-requires-in_default-units_at : goal.unfit-requires-in_default-units_at
unfit-requires-in_default-units_at c = c.loop-i.invariant.0

pub returns-in_default-units_at : goal.returns-in_default-units_at
returns-in_default-units_at c =
    let here = outside_here c.loop-i.invariant.1.1 Hold c.in-Some.w (wish_is (goal.at.returns-in_default-units_at c).After-units_at) _ c.units_at.ensures (omega arith) c.in_default-units_at.is in
    let r = refused (goal.at.returns-in_default-units_at c).Start c.loop-i.invariant.0 (number_of c.unfit-in_default-units_at.result) c.unfit-in_default-units_at.ensures (λ e. rw made_take at here) in
    record { number = r.0; units = tt }

pub loop-i-preserved : goal.loop-i-preserved
loop-i-preserved c =
    let a = c.args in
    let inv = c.loop-i.invariant in
    let f : SFits w32 c.in-Some-units_at.z = search rules in (
      inv.0,
      (
        known_here a.count a.sorts.now a.values.now inv.0.0 inv.0.1 c.loop-i.i inv.1.0 (omega arith) (told (goal.at.loop-i-preserved c).After-make _ c.in-Some.is),
        converted_here inv.1.1 Hold c.in-Some.w (wish_is (goal.at.loop-i-preserved c).After-units_at) _ c.units_at.ensures (omega arith) (ap is_outside c.in-Some-units_at.is) _
            (ap (set c.loop-i.units c.loop-i.i) (to_z-of_z f ∙ sym (ap units_in c.in-Some-units_at.is))),
      ),
    )

pub returns : goal.returns
returns c =
    let a = c.args in
    let inv = c.loop-i.invariant in
    let m = inv.1.1 in
    let known = all_known a.count a.sorts.now a.values.now inv.0.0 inv.0.1 c.loop-i.i inv.1.0 (omega (arith, m.place)) in
    record {
      number = none_unfit (no (goal.at.returns c).Start) (by_sorts a.count a.sorts.now a.values.now inv.0.0 inv.0.1 false known) (outside (goal.at.returns c).Start)
          (rw made_take at (none_outside m (omega arith)));
      units = rw made_take at (all_converted m (omega arith));
    }
