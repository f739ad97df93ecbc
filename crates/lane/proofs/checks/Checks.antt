-- The checks of the calls over the figures as the code holds them, and a check's number with the place that it gives: 0 where the call is
-- refused.
use mathlib.Core.Path.{◌≡◌, refl, sym}
use mathlib.Core.Bool.{Bool, true, false, not, ◌&&◌, ◌||◌, cond}
use mathlib.Core.List.{List}
use Prim.Native.Nat.{ℕ}
use borrow.Author.Tests.{ne_eqb}
use lib.Dec.{eqb, ltb}
use lib.ListN.{take}
use Rattle.lane.specs.declared.Carrier.{Carrier}
use Rattle.lane.specs.declared.layout.Figures.{Figures}
use Rattle.std.specs.Prelude.{Result, Ok, Err}
use Rattle.std.specs.Result.{result_or}
use Rattle.lane.specs.declared.refusal.Refusal.{Refusal}
use Rattle.lane.specs.declared.refusal.Refusal.TheVariants.{LaneUnsound}
use Rattle.lane.specs.Refusals.{number_of, outcome_no}
use Rattle.lane.specs.State.{State}
use Rattle.lane.specs.Surface.{row_of, unsound, row_in}
use Rattle.lane.specs.Layout.{Words, figures_in, table_from, tables_in, records_in, state_of}
use Rattle.lane.specs.Safety.{lane_safe, any_of, numbered}
use Rattle.lane.specs.Rules.{road_no, broken, carriers_no, lane_no}
use Rattle.lane.specs.Table.{table_in, bad_table, load_no}
use Rattle.lane.specs.Calls.{if_accepted, walk, gap_no, place_no, ready_no, surface_no}
use Rattle.lane.proofs.Refused.{number_is}
use Rattle.lane.proofs.lists.Passed.{passed}
use Rattle.lane.proofs.checks.Soundness.{broken_no}

module _ (l : Words) (f : Figures) (e : f ≡ figures_in l) where
  pub lane_checks : lane_no (state_of l)
      ≡ cond
      (not f.started || not (eqb (road_no f.road) 0) || unsound (table_from 1 l) || unsound (table_from 9 l) || ltb 64 f.count)
      36
      (carriers_no (row_in (tables_in l) f.road) f.road (take f.count (records_in l)))
  unfolding lane_no
  lane_checks = rw e refl

  -- 23 by the state's carriers, as the lookup has them
  pub place_checks : (c : Carrier) → let cs = take f.count (records_in l) in
      place_no (state_of l) c ≡ cond (eqb f.count 64) 22 (cond (any_of (numbered c.number) (state_of l).carriers) 23 (gap_no (row_in (tables_in l) f.road) (walk c.position cs) c cs))
  unfolding place_no
  place_checks c = rw e refl

  pub load_checks : (text : List ℕ) → load_no (state_of l) text ≡ cond (f.started && broken (state_of l)) 21 (cond (bad_table (table_in text)) 31 (cond (f.started && ltb 0 f.count) 32 0))
  unfolding load_no
  load_checks text = rw e refl

  pub ready_checks : (count : ℕ) → ready_no (state_of l) count ≡ cond (broken (state_of l)) 21 (cond (not (eqb count f.count)) 27 (cond (eqb f.cycle 18446744073709551615) 28 0))
  unfolding ready_no
  ready_checks count = rw e refl

  pub surface_checks : (code : ℕ) → surface_no (state_of l) code ≡ cond (broken (state_of l)) 21 (cond (ltb 7 code) 1 (cond (lane_safe (row_of (table_from 1 l) code) (take f.count (records_in l))) 0 34))
  unfolding surface_no
  surface_checks code = rw e refl

-- check 21 by the number of what it refuses
pub broken_by : {A : Type 0} (s : State) (r : Result A Refusal) → outcome_no r ≡ lane_no s → outcome_no (result_or r (Err LaneUnsound)) ≡ cond (broken s) 21 0
broken_by s (Ok value) e = rw (broken_no s, ← e) refl
broken_by s (Err refusal) e = rw (broken_no s, ← e, ne_eqb (number_of refusal) 0 (number_is refusal)) refl

-- a lane that it passes, and one that it refuses
pub passes_21 : (s : State) → ◌≡◌ {A = ℕ} 0 (cond (broken s) 21 0) → broken s ≡ false
passes_21 s e = (passed (broken s) 20 0 (sym e)).0

pub refuses_21 : (s : State) (refusal : Refusal) → number_of refusal ≡ cond (broken s) 21 0 → (broken s ≡ true) × (number_of refusal ≡ 21)
refuses_21 s refusal e = by_test (broken s) refl e
  where
    by_test : (t : Bool) → broken s ≡ t → number_of refusal ≡ cond t 21 0 → (broken s ≡ true) × (number_of refusal ≡ 21)
    by_test true b n = (b, n)
    by_test false b n = absurd (number_is refusal n)

module _ (number place : ℕ) where
  pub refused_as : (refusal : Refusal) → number ≡ number_of refusal → (number_of refusal ≡ number) × (0 ≡ if_accepted number place 0)
  refused_as refusal e = rw (e, ne_eqb (number_of refusal) 0 (number_is refusal)) (refl, refl)

  pub accepted_as : (p : ℕ) → number ≡ 0 → p ≡ place → (0 ≡ number) × (p ≡ if_accepted number place 0)
  accepted_as p e q = rw (e, q) (refl, refl)
