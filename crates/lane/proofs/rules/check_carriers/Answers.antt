-- The carriers passed break no rule but safety, and it is known whether they are safe; those of one sort are linked; of the one just passed it is
-- known where it rests.
use mathlib.Core.Path.{◌≡◌, refl, sym, ap, ◌∙◌, subst}
use mathlib.Core.Bool.{Bool, true, ◌||◌, ◌&&◌, cond}
use mathlib.Core.List.{List, []}
use Prim.Native.Nat.{ℕ, ◌-◌, ◌%◌, ◌≤◌, ◌<◌}
use native.Mathlib.Omega.{arith}
use lib.ListN.{length, get_or, length-set, take, replicate}
use lib.Seq.{slice, slice_empty}
use Rattle.lane.specs.declared.Carrier.{Carrier}
use Rattle.lane.specs.declared.Row.{Row}
use Rattle.lane.specs.Layout.{records_in}
use Rattle.lane.specs.Safety.{leader, safe_with, safe_from, lane_safe, any_of, numbered}
use Rattle.lane.specs.Rules.{misfit, carriers_no}
use Rattle.lane.specs.Calls.{none}
use Rattle.lane.proofs.lists.Tests.{neither}
use Rattle.lane.proofs.checks.Soundness.{Fit, SoundRoad, sound_road, fit, fit_narrow, fit_from}
use Rattle.lane.proofs.checks.Surfaces.{rate_brakes}
use Rattle.lane.proofs.checks.Gaps.{pair_narrow}
use Rattle.lane.proofs.checks.Faults.{low, Leads, met_none, linked_none, met_next, linked_next, misfit_none, misfit_next, misfit_whole, gap_next, gap_past}
use Rattle.lane.proofs.rules.check_carriers.Goals.{then-i-count+then-not-safe_at, then-i-count+else-not-safe_at, else-i-count, After-linked, After-loop-i, After-past_end, At-loop-i, Else-unlawful-past_end, Joined-i-count}
use Rattle.lane.proofs.rules.check_carriers.Goals as goal

nobody_safe : (r : Row) → true ≡ lane_safe r []
unfolding lane_safe safe_from
nobody_safe r = refl

pub loop-i-init : goal.loop-i-init
loop-i-init c =
    let a = c.args in
    let l = records_in a.l.now in
    record {
      sorts = refl;
      places = refl;
      within = omega arith;
      fitting = rw (slice_empty a.count l) (misfit_none a.road);
      safe_is = rw (slice_empty a.count l) (nobody_safe a.row);
      met = met_none l a.count (omega arith);
      linked = linked_none l a.count (replicate 64 64);
      behind_is = λ h. absurd (omega arith);
      stop_is = λ h. absurd (omega arith);
    }

-- what a turn adds to the carriers passed
turn : (c : After-past_end) → let a = c.args in
    misfit a.road (slice (c.loop-i.i - 1) a.count (records_in a.l.now))
    ≡ (c.unlawful.result || c.past_end.result) || any_of (numbered c.carrier_at-c.result.number) (slice c.loop-i.i a.count (records_in a.l.now))
turn c =
    let a = c.args in
    misfit_next (records_in a.l.now) a.count (omega arith) c.loop-i.i (omega arith) (omega arith) a.road c.loop-i.invariant.fitting
    ∙ rw (c.unlawful.ensures, c.past_end.ensures, c.carrier_at-c.ensures) refl

-- a misfit found past a place is one of the whole
found : (at : At-loop-i) → let a = at.args in
    misfit a.road (slice (at.loop-i.i - 1) a.count (records_in a.l.now)) ≡ true → 36 ≡ carriers_no a.row a.road (take a.count (records_in a.l.now))
unfolding carriers_no
found at e =
    let a = at.args in
    rw (misfit_whole (records_in a.l.now) a.count (omega arith) a.road (at.loop-i.i - 1) (omega arith) e) refl

pub returns-then-unlawful-past_end : goal.returns-then-unlawful-past_end
returns-then-unlawful-past_end c = found (goal.at.returns-then-unlawful-past_end c).At-loop-i (turn (goal.at.returns-then-unlawful-past_end c).After-past_end ∙ rw c.if-unlawful-past_end.true refl)

-- a carrier that breaks no rule by itself, and the records
module _ (c : Else-unlawful-past_end) where
  abbrev carrier : Carrier
  carrier = c.carrier_at-c.result

  abbrev l : List Carrier
  l = records_in c.args.l.now

  long : c.args.count ≤ length l
  long = omega arith

  road_sound : SoundRoad c.args.road
  road_sound = sound_road _ c.requires.count_bound.1.1

  lawful : Fit c.args.road carrier
  lawful =
      let t = neither c.unlawful.result c.past_end.result c.if-unlawful-past_end.false in
      fit _ _ (sym c.unlawful.ensures ∙ t.0) (sym c.past_end.ensures ∙ t.1)

  -- its number is looked for from here
  start : (p : ℕ) → p ≡ get_or c.loop-i.first (carrier.number % 64) 0 → Leads l c.args.count carrier.number c.loop-i.i p
  start p e = subst (Leads l c.args.count carrier.number c.loop-i.i) (sym e) (c.loop-i.invariant.met carrier.number)

pub safe_at-requires : goal.safe_at-requires
safe_at-requires c =
    let a = c.args in
    let inv = c.loop-i.invariant in
    let h : c.loop-i.i < a.count = omega arith in
    let next : Fit a.road c.loop-i.behind = subst (Fit a.road) (sym (inv.behind_is h)) (fit_from a.road (l (goal.at.safe_at-requires c).Else-unlawful-past_end) a.count c.loop-i.i none inv.fitting h (long (goal.at.safe_at-requires c).Else-unlawful-past_end)) in
    let narrow = pair_narrow a.road _ _ (road_sound (goal.at.safe_at-requires c).Else-unlawful-past_end) (lawful (goal.at.safe_at-requires c).Else-unlawful-past_end) next in
    record { bound = (rate_brakes a.row c.loop-i.behind c.requires.le_guaranteed next.rate_least, inv.stop_is h); length_bound = (narrow.0, narrow.1.1) }

-- with the gap to the one behind, where there is one
module _ (c : Joined-i-count) (h : c.loop-i.i < c.args.count) where
  gap : (b : Bool) → b ≡ safe_with c.args.row (leader c.carrier_at-c.result) c.loop-i.behind
      → lane_safe c.args.row (slice (c.loop-i.i - 1) c.args.count (records_in c.args.l.now)) ≡ b && c.loop-i.safe
  gap b e =
      let a = c.args in
      let l = records_in a.l.now in
      let inv = c.loop-i.invariant in
      gap_next l a.count (omega arith) c.loop-i.i (omega arith) (omega arith) a.row c.carrier_at-c.result c.loop-i.behind c.carrier_at-c.ensures (inv.behind_is h) h
      ∙ sym (ap (λ (t : Bool). t && c.loop-i.safe) e ∙ ap (λ (t : Bool). safe_with a.row (leader c.carrier_at-c.result) c.loop-i.behind && t) inv.safe_is)

-- past both tests of the carrier it is known whether those from it on are safe
safe_on : (c : Joined-i-count) → let a = c.args in
    c.if-i-count.safe ≡ lane_safe a.row (slice (c.loop-i.i - 1) a.count (records_in a.l.now))
safe_on c =
    let a = c.args in
    let l = records_in a.l.now in
    elim c.if-i-count.branch [
      | then-i-count+then-not-safe_at w ↦
          w.safe-is ∙ sym (gap c (omega (arith, w.if-i-count.true)) w.safe_at.result w.safe_at.ensures ∙ ap (λ (t : Bool). t && c.loop-i.safe) w.if-not-safe_at.true)
      | then-i-count+else-not-safe_at w ↦
          w.safe-is ∙ sym (gap c (omega (arith, w.if-i-count.true)) w.safe_at.result w.safe_at.ensures ∙ ap (λ (t : Bool). t && c.loop-i.safe) w.if-not-safe_at.false)
      | else-i-count w ↦
          w.safe-is ∙ c.loop-i.invariant.safe_is
          ∙ sym (gap_past l a.count (omega arith) c.loop-i.i (omega arith) (omega arith) a.row (omega (arith, w.if-i-count.false)))
    ]

pub rest-stop-requires : goal.rest-stop-requires
rest-stop-requires c =
    let wide = fit_narrow _ _ (road_sound (goal.at.rest-stop-requires c).Else-unlawful-past_end) (lawful (goal.at.rest-stop-requires c).Else-unlawful-past_end) in
    (omega (arith, wide.position), wide.speed)

pub bounds-first-sort : goal.bounds-first-sort
bounds-first-sort c = omega (arith, low (carrier (goal.at.bounds-first-sort c).Else-unlawful-past_end).number)

pub linked-requires : goal.linked-requires
linked-requires c =
    let m = start (goal.at.linked-requires c).Else-unlawful-past_end c.from.result c.from.ensures in
    let link = c.loop-i.invariant.linked in
    record { count_bound = (omega arith, omega arith); none_value = m.alike; by_index = λ p h k q. let to = link p (omega (arith, m.on)) k (carrier (goal.at.linked-requires c).Else-unlawful-past_end).number q in (omega (arith, to.on), (to.skips, to.alike)) }

-- the number among the carriers passed
again : (c : After-linked) → any_of (numbered c.carrier_at-c.result.number) (slice c.loop-i.i c.args.count (records_in c.args.l.now)) ≡ c.linked.result
again c =
    let leads = Leads (records_in c.args.l.now) c.args.count c.carrier_at-c.result.number c.loop-i.i in
    (subst leads (sym c.from.ensures) (c.loop-i.invariant.met c.carrier_at-c.result.number)).skips ∙ sym c.linked.ensures

pub returns-then-linked : goal.returns-then-linked
returns-then-linked c =
    found (goal.at.returns-then-linked c).At-loop-i (turn (goal.at.returns-then-linked c).After-past_end ∙ rw (c.if-unlawful-past_end.false, again (goal.at.returns-then-linked c).After-linked, c.if-linked.true) refl)

pub bounds-next-i : goal.bounds-next-i
bounds-next-i c = omega arith

pub overflow_cast-first : goal.overflow_cast-first
overflow_cast-first c = omega arith

pub bounds-first-sort-in-loop-i : goal.bounds-first-sort-in-loop-i
bounds-first-sort-in-loop-i c = omega (arith, low (carrier (goal.at.bounds-first-sort-in-loop-i c).Else-unlawful-past_end).number)

pub loop-i-preserved : goal.loop-i-preserved
loop-i-preserved c =
    let a = c.args in
    let inv = c.loop-i.invariant in
    let here = c.carrier_at-c.ensures in
    record {
      sorts = length-set c.loop-i.first _ _ ∙ inv.sorts;
      places = length-set c.loop-i.next _ _ ∙ inv.places;
      within = omega arith;
      fitting = turn (goal.at.loop-i-preserved c).After-past_end ∙ rw (c.if-unlawful-past_end.false, again (goal.at.loop-i-preserved c).After-linked, c.if-linked.false) refl;
      safe_is = safe_on (goal.at.loop-i-preserved c).Joined-i-count;
      met = rw (← here) at (met_next (l (goal.at.loop-i-preserved c).Else-unlawful-past_end) a.count (long (goal.at.loop-i-preserved c).Else-unlawful-past_end) c.loop-i.i (omega arith) (omega arith) c.loop-i.first inv.met inv.sorts);
      linked = rw (← here) at (linked_next (l (goal.at.loop-i-preserved c).Else-unlawful-past_end) a.count (long (goal.at.loop-i-preserved c).Else-unlawful-past_end) c.loop-i.i (omega arith) (omega arith) c.loop-i.first inv.met c.loop-i.next (omega (arith, inv.places, inv.within, c.requires.count_bound.0)) inv.linked);
      behind_is = λ h. here;
      stop_is = λ h. rw c.guaranteed_rate.ensures at c.rest-stop.ensures;
    }

-- all are passed
passed : (c : After-loop-i) → let a = c.args in
    carriers_no a.row a.road (take a.count (records_in a.l.now)) ≡ cond c.loop-i.safe 0 37
unfolding carriers_no
passed c =
    let e : c.loop-i.i ≡ 0 = omega arith in
    let fitting = rw e at c.loop-i.invariant.fitting in
    let safe_is = rw e at c.loop-i.invariant.safe_is in
    rw (fitting, safe_is) refl

pub returns-then-safe : goal.returns-then-safe
returns-then-safe c = sym (passed (goal.at.returns-then-safe c).After-loop-i ∙ rw c.if-safe.true refl)

pub returns : goal.returns
returns c = sym (passed (goal.at.returns c).After-loop-i ∙ rw c.if-safe.false refl)
