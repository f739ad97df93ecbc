-- What a cycle gives, whatever its wishes are made of: refused before they are looked at, or by one outside its range, or run.
use mathlib.Core.Path.{◌≡◌, refl, sym, ap, ◌∙◌}
use mathlib.Core.Bool.{Bool, true, false, cond}
use mathlib.Core.List.{List, []}
use Prim.Native.Nat.{ℕ, ◌+◌}
use native.Mathlib.Omega.{arith}
use borrow.Author.Tests.{ne_eqb}
use Rattle.std.specs.Prelude.{Ok}
use lib.IntN.{ℤ}
use lib.ListN.{length, take}
use Rattle.wish.specs.declared.Wish.{Wish}
use Rattle.lane.specs.declared.Cycled.{Cycled}
use Rattle.lane.specs.declared.Drive.{Drive}
use Rattle.lane.specs.declared.refusal.Refusal.{Refusal}
use Rattle.lane.specs.declared.refusal.Refusal.TheVariants.{FloatOutOfRange}
use Rattle.lane.specs.Refusals.{number_of}
use Rattle.lane.specs.State.{State}
use Rattle.lane.specs.Layout.{Words, records_in, state_of}
use Rattle.lane.specs.Wishes.{wished_units, any_outside, replaced_in, word_of, count_of}
use Rattle.lane.specs.Calls.{with_carriers, at_cycle, drives_with, left_after, cycle_drives, ready_no, cycle_word, cycle_replaced, cycle_carriers, cycle_gone, cycled_state}
use Rattle.lane.specs.Call.{Call, cycle_call, Answer, bare, cycled, Gives}
use Rattle.lane.specs.Given.{wishes_no, wishes_given, GivesWith}
use Rattle.lane.proofs.Refused.{number_is}
use Rattle.lane.proofs.driving.Making.{unfit_no, unfit_tells, given_take}
use Rattle.lane.proofs.calls.Answers.{gives_refusal, gives_accepted, ready_tells, cycle_not_ready, cycle_outside, cycle_inside}

-- a cycle that is not refused for its floats
pub none_outside : (b : Bool) → ◌≡◌ {A = ℕ} 0 (cond b 7 0) → b ≡ false
none_outside true e = absurd (omega arith)
none_outside false e = refl

module _ (l : Words) (count : ℕ) (ws : List Wish) where
  abbrev s : State
  s = state_of l

  abbrev x : Call
  x = cycle_call count ws

  pub not_ready : (refusal : Refusal) → number_of refusal ≡ ready_no s count → Gives x l (bare (number_of refusal) []) l
  not_ready refusal e = gives_refusal x l refusal (e ∙ sym (cycle_not_ready s count ws (λ z. number_is refusal (e ∙ z))))

  module _ (ready : ready_no s count ≡ 0) where
    -- the carriers and the wishes that are looked at, as the code counts them
    counted_outside : any_outside (take count (records_in l)) (take count ws) ≡ any_outside s.carriers (take s.count ws)
    counted_outside = rw (ready_tells s count ready).counted refl

    pub outside_range : any_outside (take count (records_in l)) (take count ws) ≡ true → Gives x l (bare 7 []) l
    outside_range o = gives_refusal x l FloatOutOfRange (sym (cycle_outside s count ws ready (sym counted_outside ∙ o)))

    pub outside_refused : (refusal : Refusal) → number_of refusal ≡ cond (any_outside (take count (records_in l)) (take count ws)) 7 0
        → Gives x l (bare (number_of refusal) []) l
    outside_refused refusal e = by_test (any_outside (take count (records_in l)) (take count ws)) refl
      where
        by_test : (b : Bool) → any_outside (take count (records_in l)) (take count ws) ≡ b → Gives x l (bare (number_of refusal) []) l
        by_test true o = rw (rw o at e) (outside_range o)
        by_test false o = absurd (number_is refusal (rw o at e))

    module _ (m : Words) (r : Cycled) (units : List ℤ) where
      abbrev driven : List Drive
      driven = drives_with s (take count units)

      driven_are : take count units ≡ wished_units (take count (records_in l)) (take count ws) → driven ≡ cycle_drives s ws
      unfolding cycle_drives
      driven_are e = rw (e, (ready_tells s count ready).counted) refl

      pub has_run : any_outside (take count (records_in l)) (take count ws) ≡ false
          → take count units ≡ wished_units (take count (records_in l)) (take count ws)
          → r.word ≡ word_of (replaced_in driven) → r.replaced ≡ count_of (replaced_in driven) → r.gone + (state_of m).count ≡ count
          → state_of m ≡ at_cycle (s.cycle + 1) (with_carriers s (left_after s driven))
          → Gives x l (cycled (Ok r)) m
      unfolding cycle_word cycle_replaced cycle_carriers cycle_gone cycled_state
      has_run o u word replaced gone state =
          let d = driven_are u in
          let after : state_of m ≡ cycled_state s ws = state ∙ ap (λ (ds : List Drive). at_cycle (s.cycle + 1) (with_carriers s (left_after s ds))) d in
          let left : (state_of m).count ≡ length (cycle_carriers s ws) = ap (λ (t : State). t.count) after in
          let g : r.gone ≡ cycle_gone s ws = omega (arith, gone, left, (ready_tells s count ready).counted) in
          rw (word ∙ ap (λ (ds : List Drive). word_of (replaced_in ds)) d, replaced ∙ ap (λ (ds : List Drive). count_of (replaced_in ds)) d, g)
          (gives_accepted x l m (cycle_inside s count ws ready (sym counted_outside ∙ o)) after)

-- ---- with wishes of two arrays
module _ (l : Words) (count : ℕ) (sorts values : List ℕ) where
  pub given_not_ready : (refusal : Refusal) → number_of refusal ≡ ready_no (state_of l) count → GivesWith l count sorts values (bare (number_of refusal) []) l
  given_not_ready refusal e =
      record {
        made = λ w. not_ready l count (wishes_given count sorts values) refusal e;
        unmade = λ w. (rw (← e, ne_eqb (number_of refusal) 0 (number_is refusal)) refl, refl);
      }

  -- refused by the wishes: by one that cannot be made, else by one outside its range
  pub given_unfit : (refusal : Refusal) → ready_no (state_of l) count ≡ 0
      → number_of refusal ≡ unfit_no (wishes_no count sorts values) (any_outside (take count (records_in l)) (wishes_given count sorts values))
      → GivesWith l count sorts values (bare (number_of refusal) []) l
  given_unfit refusal ready e =
      let tells = unfit_tells (wishes_no count sorts values) (number_of refusal) (any_outside (take count (records_in l)) (wishes_given count sorts values)) e (number_is refusal) in
      record {
        made = λ z. rw (tells.0 z).0 (outside_range l count (wishes_given count sorts values) ready (ap (any_outside (take count (records_in l))) (given_take count sorts values) ∙ (tells.0 z).1));
        unmade = λ z. (rw (ready, tells.1 z) refl, refl);
      }

  pub given_made : (m : Words) (a : Answer) → wishes_no count sorts values ≡ 0 → Gives (cycle_call count (wishes_given count sorts values)) l a m → GivesWith l count sorts values a m
  given_made m a z g = record { made = λ w. g; unmade = λ w. absurd (w z) }
