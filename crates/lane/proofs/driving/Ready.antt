-- What the functions of a cycle ask of a lane that is ready for it.
use mathlib.Core.Path.{◌≡◌}
use mathlib.Core.Bool.{false}
use mathlib.Core.List.{List}
use Prim.Native.Nat.{ℕ, ◌≤◌, ◌<◌}
use native.Mathlib.Omega.{arith}
use lib.ListN.{length, get_or, take}
use Rattle.lane.specs.declared.Carrier.{Carrier}
use Rattle.lane.specs.declared.Road.{Road}
use Rattle.lane.specs.declared.Row.{Row}
use Rattle.lane.specs.declared.layout.Figures.{Figures}
use Rattle.lane.specs.Surface.{unsound, row_in}
use Rattle.lane.specs.Layout.{Words, figures_in, table_from, tables_in, records_in, state_of}
use Rattle.lane.specs.Rules.{road_no, faulty}
use Rattle.lane.specs.Calls.{none, ready_no}
use Rattle.lane.proofs.checks.Surfaces.{row_brakes}
use Rattle.lane.proofs.checks.Soundness.{sound_road_holds, Narrow, fit_narrow, faultless_holds, fit_of, row_sound}
use Rattle.lane.proofs.calls.Answers.{ready_tells}

module _ (l : Words) (count : ℕ) (e : ready_no (state_of l) count ≡ 0) where
  pub ready_few : count ≤ 64
  ready_few = let r = ready_tells (state_of l) count e in omega (arith, r.counted, r.sound.count)

  pub ready_narrow : (i : ℕ) → i < count → length (records_in l) ≡ 64 → Narrow (get_or (records_in l) i none)
  ready_narrow i h k =
      let r = ready_tells (state_of l) count e in
      let s = r.sound in
      fit_narrow (state_of l).road (get_or (records_in l) i none) s.road
      (fit_of (state_of l).road (records_in l) (state_of l).count i none s.carriers (omega (arith, r.counted)) (omega (arith, s.count)))

  -- said of the figures that the code holds
  module _ (f : Figures) (p : f ≡ figures_in l) where
    pub ready_road : (road_no f.road ≡ 0) × (unsound (table_from 1 l) ≡ false)
    ready_road = let s = (ready_tells (state_of l) count e).sound in (rw p (sound_road_holds (state_of l).road s.road), s.in_force_is)

    -- and of the row in force
    module _ (r : Row) (q : r ≡ row_in (tables_in l) f.road) where
      pub ready_faultless : faulty r f.road (take count (records_in l)) ≡ false
      ready_faultless =
          let t = ready_tells (state_of l) count e in
          rw (q, p, t.counted) (faultless_holds (row_in (tables_in l) (state_of l).road) (state_of l).road (state_of l).carriers t.sound.carriers)

      pub ready_brakes : (1 ≤ r.guaranteed) × (1 ≤ r.hardest)
      ready_brakes = rw (q, p) (row_brakes _ (row_sound (ready_tells (state_of l) count e).sound))

      -- what was found for them holds of the state
      pub ready_state : (P : Row → Road → List Carrier → Type 0) → P r f.road (take count (records_in l))
          → P (row_in (state_of l).tables (state_of l).road) (state_of l).road (state_of l).carriers
      ready_state P x = rw (q, p, (ready_tells (state_of l) count e).counted) at x
