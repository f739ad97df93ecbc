-- What a call gives by the two cases that it ends in, refused or accepted, and what is known of the lane where it is accepted.
use mathlib.Core.Path.{◌≡◌, refl, sym, ap, ◌∙◌}
use mathlib.Core.Bool.{Bool, true, false, not, ◌&&◌, cond}
use mathlib.Core.List.{List}
use Prim.Native.Nat.{ℕ, suc, ◌≤◌, ◌<◌}
use native.Mathlib.Omega.{arith}
use borrow.Author.Tests.{ne_eqb, eqb-true, eqb-false, ltb-true, ltb-false, not-false}
use lib.Dec.{eqb, ltb}
use lib.ListN.{length, get_or, take, length-take}
use lib.Seq.{get_or-take}
use Rattle.wish.specs.declared.Wish.{Wish}
use Rattle.lane.specs.declared.Carrier.{Carrier}
use Rattle.lane.specs.declared.Gap.{Gap}
use Rattle.lane.specs.declared.Gap.TheVariants.{Behind, AheadOfAll}
use Rattle.lane.specs.declared.Newcomer.{Newcomer}
use Rattle.lane.specs.declared.refusal.Refusal.{Refusal}
use Rattle.lane.specs.Refusals.{number_of}
use Rattle.lane.specs.Limits.{most_carriers, last_cycle}
use Rattle.lane.specs.Surface.{row_of, row_in}
use Rattle.lane.specs.State.{State}
use Rattle.lane.specs.Layout.{Words, state_of, records_in}
use Rattle.lane.specs.Safety.{lane_safe, any_of, numbered}
use Rattle.lane.specs.Rules.{bad_number, unlawful, past_end, values_no, newcomer_no, broken}
use Rattle.lane.specs.Wishes.{any_outside}
use Rattle.lane.specs.Table.{table_in, bad_table, load_no}
use Rattle.lane.specs.Calls.{none, if_accepted, walk, gap_no, place_no, enter_no, named_no, place_of, ready_no, cycle_no, surface_no}
use Rattle.lane.specs.Opening.{newcomer_at, gap_place, gap_named_no, opening_no}
use Rattle.lane.specs.Call.{Call, Answer, call_no, accepted_state, lent_to, bare, accepted_answer, call_answer, call_state, Gives}
use Rattle.lane.proofs.Refused.{number_is}
use Rattle.lane.proofs.lists.Passed.{passed}
use Rattle.lane.proofs.lists.Search.{place_any, place_le}
use Rattle.lane.proofs.Newcomers.{Newcomer as InRange, newcomer_is}
use Rattle.lane.proofs.checks.Soundness.{Fit, fit_at, newcomer_lawful, newcomer_before_end, Sound, sound}

-- a value of a call that is refused, and of one that is accepted
refused_has : {A : Type 0} (n : ℕ) (x y : A) → ¬ (n ≡ 0) → if_accepted n x y ≡ y
refused_has n x y h = rw (ne_eqb n 0 h) refl

pub accepted_has : {A : Type 0} (n : ℕ) (x y : A) → n ≡ 0 → if_accepted n x y ≡ x
accepted_has n x y e = rw e refl

-- where checks follow others, an accepted call passes both
accepted_both : (n m : ℕ) → if_accepted n m n ≡ 0 → (n ≡ 0) × (m ≡ 0)
accepted_both n m e = by_test (eqb n 0) refl e
  where
    by_test : (t : Bool) → eqb n 0 ≡ t → cond t m n ≡ 0 → (n ≡ 0) × (m ≡ 0)
    by_test true p q = (eqb-true n 0 p, q)
    by_test false p q = absurd (eqb-false n 0 p q)

-- and a last check that gives a number where a test fails
none_else : (t : Bool) (number : ℕ) → ◌≡◌ {A = ℕ} (cond t 0 (suc number)) 0 → t ≡ true
none_else true number e = refl
none_else false number e = absurd (omega arith)

-- ---- any call

module _ (x : Call) (s : State) where
  module _ (h : ¬ (call_no x s ≡ 0)) where
    -- "Lane, cycle number and lent bytes are unchanged."
    pub refused_changes_nothing : call_state x s ≡ s
    unfolding call_state
    refused_changes_nothing = refused_has (call_no x s) (accepted_state x s) s h

    pub refused_answers : call_answer x s ≡ bare (call_no x s) (lent_to x)
    unfolding call_answer
    refused_answers = refused_has (call_no x s) (accepted_answer x s) (bare (call_no x s) (lent_to x)) h

  module _ (e : call_no x s ≡ 0) where
    pub accepted_changes : call_state x s ≡ accepted_state x s
    unfolding call_state
    accepted_changes = accepted_has (call_no x s) (accepted_state x s) s e

    pub accepted_answers : call_answer x s ≡ accepted_answer x s
    unfolding call_answer
    accepted_answers = accepted_has (call_no x s) (accepted_answer x s) (bare (call_no x s) (lent_to x)) e

-- the number that is answered is the call's
pub answer_number : (x : Call) (s : State) → (call_answer x s).number ≡ call_no x s
answer_number x s = by_test (eqb (call_no x s) 0) refl
  where
    by_test : (t : Bool) → eqb (call_no x s) 0 ≡ t → (call_answer x s).number ≡ call_no x s
    by_test true e =
        let z = eqb-true (call_no x s) 0 e in
        ap (λ (a : Answer). a.number) (accepted_answers x s z) ∙ sym z
    by_test false e = ap (λ (a : Answer). a.number) (refused_answers x s (eqb-false (call_no x s) 0 e))

-- ---- what a function gives, for its contract

pub gives_refused : (x : Call) (l : Words) (n : ℕ) → n ≡ call_no x (state_of l) → ¬ (n ≡ 0) → Gives x l (bare n (lent_to x)) l
gives_refused x l n e h =
    let f : ¬ (call_no x (state_of l) ≡ 0) = λ z. h (e ∙ z) in
    record {
      answer = rw e (sym (refused_answers x (state_of l) f));
      state = sym (refused_changes_nothing x (state_of l) f);
      refused = λ p. refl;
    }

pub gives_refusal : (x : Call) (l : Words) (refusal : Refusal) → number_of refusal ≡ call_no x (state_of l) → Gives x l (bare (number_of refusal) (lent_to x)) l
gives_refusal x l refusal e = gives_refused x l (number_of refusal) e (number_is refusal)

pub gives_accepted : (x : Call) (l m : Words) → call_no x (state_of l) ≡ 0 → state_of m ≡ accepted_state x (state_of l)
    → Gives x l (accepted_answer x (state_of l)) m
gives_accepted x l m e f =
    record {
      answer = sym (accepted_answers x (state_of l) e);
      state = f ∙ sym (accepted_changes x (state_of l) e);
      refused = λ p. absurd (omega arith);
    }

-- ---- what an accepted call tells; every call but start and load looks at the whole lane first
pub accepted_sound : (s : State) (later : ℕ) → cond (broken s) 21 later ≡ 0 → Sound s
accepted_sound s later e = sound s (passed (broken s) 20 later e).0

-- a load: the lane is never started, or sound and empty
pub record Loads (s : State) (text : List ℕ) : Type 0 where
  pub lawful : s.started && broken s ≡ false
  pub good : bad_table (table_in text) ≡ false
  pub empty : s.started && ltb 0 s.count ≡ false

pub load_tells : (s : State) (text : List ℕ) → load_no s text ≡ 0 → Loads s text
unfolding load_no
load_tells s text e =
    let first = passed (s.started && broken s) 20 _ e in
    let second = passed (bad_table (table_in text)) 30 _ first.1 in
    record { lawful = first.0; good = second.0; empty = (passed (s.started && ltb 0 s.count) 31 0 second.1).0 }

-- a lane has no more carriers than it counts
pub counted_most : (l : Words) → length (state_of l).carriers ≤ (state_of l).count
counted_most l = omega (arith, length-take (state_of l).count (records_in l))

-- and its carriers are the first of its records
pub record_at : (l : Words) (i : ℕ) → i < length (state_of l).carriers → get_or (records_in l) i none ≡ get_or (state_of l).carriers i none
record_at l i h = sym (get_or-take (state_of l).count (records_in l) i none (omega (arith, counted_most l)))

-- each of which is fit, where it breaks no rule
pub fit_there : (l : Words) → Sound (state_of l) → (i : ℕ) → i < length (state_of l).carriers → Fit (state_of l).road (get_or (records_in l) i none)
fit_there l h i p = rw (record_at l i p) (fit_at (state_of l).road (state_of l).carriers i none h.carriers p)

-- an enter
pub record Enters (s : State) (c : Carrier) : Type 0 where
  pub sound : Sound s
  pub own : InRange s.road c
  pub lawful : unlawful s.road c ≡ false
  pub before_end : past_end s.road c ≡ false
  pub room : s.count < 64
  pub new : any_of (numbered c.number) s.carriers ≡ false
  pub gap : gap_no (row_in s.tables s.road) (walk c.position s.carriers) c s.carriers ≡ 0

pub enter_tells : (s : State) (c : Carrier) → enter_no s c ≡ 0 → Enters s c
unfolding enter_no place_no
enter_tells s c e =
    let h = accepted_sound s _ e in
    let own = accepted_both (newcomer_no s.road c) (place_no s c) (passed (broken s) 20 _ e).1 in
    let itself = newcomer_is s.road c own.0 in
    let full = passed (eqb s.count most_carriers) 21 _ own.1 in
    let present = passed (any_of (numbered c.number) s.carriers) 22 _ full.1 in
    let most : ¬ (s.count ≡ 64) = eqb-false s.count 64 full.0 in
    record {
      sound = h;
      own = itself;
      lawful = newcomer_lawful s.road c itself;
      before_end = newcomer_before_end s.road c itself;
      room = omega (arith, h.count);
      new = present.0;
      gap = present.1;
    }

pub walk_le : (position : ℕ) (cs : List Carrier) → walk position cs ≤ length cs
unfolding walk
walk_le position cs = place_le _ cs

-- a leave or a read: the carrier named is there
pub record Names (s : State) (number : ℕ) : Type 0 where
  pub sound : Sound s
  pub within : place_of number s.carriers < length s.carriers

pub named_tells : (s : State) (number : ℕ) → named_no s number ≡ 0 → Names s number
unfolding named_no
named_tells s number e =
    let there = none_else (any_of (numbered number) s.carriers) 23 (passed (bad_number number) 3 _ (passed (broken s) 20 _ e).1).1 in
    record { sound = accepted_sound s _ e; within = ltb-true _ _ (place_any (numbered number) s.carriers ∙ there) }

-- an opening: there is such a gap, and the newcomer's values are in range
pub record Asks (s : State) (g : Gap) (n : Newcomer) : Type 0 where
  pub sound : Sound s
  pub within : gap_place g s.carriers ≤ length s.carriers
  pub values : values_no s.road (newcomer_at n 0) ≡ 0

gap_tells : (s : State) (g : Gap) → gap_named_no s g ≡ 0 → Sound s × (gap_place g s.carriers ≤ length s.carriers)
unfolding gap_named_no gap_place
gap_tells s (Behind number) e = let named = named_tells s number e in (named.sound, named.within)
gap_tells s AheadOfAll e = (accepted_sound s 0 e, omega arith)

pub opening_tells : (s : State) (g : Gap) (n : Newcomer) → opening_no s g n ≡ 0 → Asks s g n
unfolding opening_no
opening_tells s g n e =
    let b = accepted_both (gap_named_no s g) _ e in
    let gap = gap_tells s g b.0 in
    record { sound = gap.0; within = gap.1; values = b.1 }

-- a change of surface: the row of a code that there is keeps the lane safe
pub record Surfaces (s : State) (code : ℕ) : Type 0 where
  pub sound : Sound s
  pub known : code ≤ 7
  pub safe : lane_safe (row_of s.tables.in_force code) s.carriers ≡ true

pub surface_tells : (s : State) (code : ℕ) → surface_no s code ≡ 0 → Surfaces s code
unfolding surface_no
surface_tells s code e =
    let there = passed (ltb 7 code) 0 _ (passed (broken s) 20 _ e).1 in
    record { sound = accepted_sound s _ e; known = ltb-false 7 code there.0; safe = none_else _ 33 there.1 }

-- a cycle, before its wishes are looked at
pub record Ready (s : State) (count : ℕ) : Type 0 where
  pub sound : Sound s
  pub counted : count ≡ s.count
  pub not_last : ¬ (s.cycle ≡ last_cycle)

pub ready_tells : (s : State) (count : ℕ) → ready_no s count ≡ 0 → Ready s count
unfolding ready_no
ready_tells s count e =
    let counts = passed (not (eqb count s.count)) 26 _ (passed (broken s) 20 _ e).1 in
    record {
      sound = accepted_sound s _ e;
      counted = eqb-true count s.count (not-false _ counts.0);
      not_last = eqb-false s.cycle last_cycle (passed (eqb s.cycle last_cycle) 27 0 counts.1).0;
    }

module _ (s : State) (count : ℕ) (ws : List Wish) where
  pub cycle_not_ready : ¬ (ready_no s count ≡ 0) → cycle_no s count ws ≡ ready_no s count
  unfolding cycle_no
  cycle_not_ready h = refused_has (ready_no s count) _ (ready_no s count) h

  module _ (e : ready_no s count ≡ 0) where
    pub cycle_outside : any_outside s.carriers (take s.count ws) ≡ true → cycle_no s count ws ≡ 7
    unfolding cycle_no
    cycle_outside o = rw (e, o) refl

    pub cycle_inside : any_outside s.carriers (take s.count ws) ≡ false → cycle_no s count ws ≡ 0
    unfolding cycle_no
    cycle_inside o = rw (e, o) refl

  -- and with them
  pub cycle_tells : cycle_no s count ws ≡ 0 → (ready_no s count ≡ 0) × (any_outside s.carriers (take s.count ws) ≡ false)
  unfolding cycle_no
  cycle_tells e =
      let b = accepted_both (ready_no s count) (cond (any_outside s.carriers (take s.count ws)) 7 0) e in
      (b.0, (passed (any_outside s.carriers (take s.count ws)) 6 0 b.1).0)
