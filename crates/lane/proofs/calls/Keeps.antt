-- Each accepted call leaves a state that breaks no rule and counts its carriers.
use mathlib.Core.Path.{◌≡◌, refl}
use mathlib.Core.Bool.{Bool, true, false, ◌&&◌, true≢false}
use mathlib.Core.List.{List, []}
use Prim.Native.Nat.{ℕ, ◌+◌, ◌≤◌}
use native.Mathlib.Omega.{arith}
use lib.IntN.{ℤ}
use lib.ListN.{length, take}
use Rattle.text.specs.Groups.{Got, got, missing}
use Rattle.wish.specs.declared.Wish.{Wish}
use Rattle.lane.specs.declared.Carrier.{Carrier}
use Rattle.lane.specs.declared.Road.{Road}
use Rattle.lane.specs.declared.Row.{Row}
use Rattle.lane.specs.Surface.{unsound, row_in}
use Rattle.lane.specs.State.{State}
use Rattle.lane.specs.Safety.{nobody, safe_from, lane_safe, any_of, repeats}
use Rattle.lane.specs.Rules.{road_no, unlawful, past_end, broken}
use Rattle.lane.specs.Wishes.{wished_units, drives, all_moved, remaining}
use Rattle.lane.specs.Table.{table_in, bad_table, rows_loaded, load_no, loaded_state}
use Rattle.lane.specs.Calls.{with_carriers, at_cycle, start_no, begun_state, walk, insert_at, enter_no, entered_state, place_of, remove_at, named_no, left_state, cycle_drives, cycle_no, cycle_carriers, cycled_state, surface_no, surfaced_state}
use Rattle.lane.specs.Call.{Kept}
use Rattle.lane.proofs.lists.Passed.{passed}
use Rattle.lane.proofs.calls.Answers.{load_tells, enter_tells, walk_le, named_tells, surface_tells, ready_tells, cycle_tells}
use Rattle.lane.proofs.calls.Entering.{insert_length, insert_any, insert_repeats}
use Rattle.lane.proofs.calls.Leaving.{Thinned, removed_thins, remaining_thins, thinned_length, thinned_any, thinned_repeats, remaining_before}
use Rattle.lane.proofs.driving.Moving.{moved_length, moved_repeats, moved_lawful}
use Rattle.lane.proofs.calls.Order.{thinned_safe, insert_safe}
use Rattle.lane.proofs.checks.Soundness.{sound_road, surfaced_road, Faultless, surfaced_faultless, Sound, rated_at, row_sound, sound, sound_holds}
use Rattle.lane.proofs.checks.Surfaces.{SoundRow}
use Rattle.lane.proofs.driving.Turns.{moved_safe}

-- carriers that a lane of this road may hold under a row, wherever it ends
record Allowed (r : Row) (road : Road) (cs : List Carrier) : Type 0 where
  few : length cs ≤ 64
  lawful : any_of (unlawful road) cs ≡ false
  distinct : repeats cs ≡ false
  safe : lane_safe r cs ≡ true

module _ {r : Row} {road : Road} (sound : SoundRow r) where
  thinned_allowed : {ds cs : List Carrier} → Thinned ds cs → Allowed r road cs → Allowed r road ds
  thinned_allowed l h =
      record {
        few = omega (arith, thinned_length l, h.few);
        lawful = thinned_any (unlawful road) l h.lawful;
        distinct = thinned_repeats l h.distinct;
        safe = thinned_safe r sound l h.safe;
      }

  moved_allowed : {cs : List Carrier} (zs : List ℤ) → Allowed r road cs → Allowed r road (all_moved cs (drives r road.limit nobody cs zs))
  moved_allowed {cs} zs h =
      let ds = drives r road.limit nobody cs zs in
      record {
        few = omega (arith, moved_length cs ds, h.few);
        lawful = moved_lawful r road nobody cs zs h.lawful;
        distinct = moved_repeats cs ds h.distinct;
        safe = moved_safe r sound road.limit cs zs (rated_at road cs h.lawful) h.safe;
      }

-- a sound state with other carriers, at any cycle
module _ (s : State) (h : Sound s) where
  abbrev r : Row
  r = row_in s.tables s.road

  allowed : s.count ≡ length s.carriers → Allowed r s.road s.carriers
  allowed e =
      record {
        few = omega (arith, h.count);
        lawful = h.carriers.lawful;
        distinct = h.carriers.distinct;
        safe = h.carriers.safe;
      }

  kept : (cycle : ℕ) (cs : List Carrier) → Allowed r s.road cs → any_of (past_end s.road) cs ≡ false → Kept (at_cycle cycle (with_carriers s cs))
  kept cycle cs a e =
      record {
        unbroken = sound_holds _
            (record {
              started = h.started;
              road = h.road;
              in_force_is = h.in_force_is;
              next = h.next;
              count = a.few;
              carriers = record { lawful = a.lawful; before_end = e; distinct = a.distinct; safe = a.safe };
            });
        counted = refl;
      }

-- no carriers break no rule
nobody_faultless : (r : Row) (road : Road) → Faultless r road []
unfolding any_of repeats lane_safe safe_from
nobody_faultless r road = record { lawful = refl; before_end = refl; distinct = refl; safe = refl }

-- ---- the calls
pub start_keeps : (s : State) (road : Road) (first : ℕ) → start_no s road ≡ 0 → Kept (begun_state s road first)
unfolding start_no
start_keeps s road first e =
    let t = passed (unsound s.tables.next) 20 (road_no road) e in
    record {
      unbroken = sound_holds _
          (record {
            started = refl;
            road = sound_road road t.1;
            in_force_is = t.0;
            next = t.0;
            count = omega arith;
            carriers = nobody_faultless _ road;
          });
      counted = refl;
    }

-- a load of a lane that was started
pub load_keeps : (s : State) → s.count ≡ length s.carriers → s.started ≡ true → (text : List ℕ) → load_no s text ≡ 0 → Kept (loaded_state s text)
unfolding loaded_state bad_table rows_loaded
load_keeps s counted started text e =
    let t = load_tells s text e in
    let h = sound s (of_started s.started (broken s) started t.lawful) in
    record {
      unbroken = sound_holds _
          (record {
            started = h.started;
            road = h.road;
            in_force_is = h.in_force_is;
            next = loaded_sound (table_in text) t.good;
            count = h.count;
            carriers = h.carriers;
          });
      counted = counted;
    }
  where
    of_started : (t b : Bool) → t ≡ true → t && b ≡ false → b ≡ false
    of_started t b e f = rw e at f

    loaded_sound : (x : Got (List Row)) → bad_table x ≡ false → unsound (rows_loaded x) ≡ false
    loaded_sound (got rs rest) good = good
    loaded_sound missing good = absurd (true≢false good)

module _ (s : State) (counted : s.count ≡ length s.carriers) where
  pub enter_keeps : (c : Carrier) → enter_no s c ≡ 0 → Kept (entered_state s c)
  unfolding entered_state
  enter_keeps c e =
      let t = enter_tells s c e in
      let place = walk c.position s.carriers in
      let a = allowed s t.sound counted in
      kept s t.sound s.cycle (insert_at place c s.carriers)
      (record {
        few = omega (arith, t.room, insert_length c place s.carriers);
        lawful = insert_any c (unlawful s.road) t.lawful place s.carriers a.lawful;
        distinct = insert_repeats c place s.carriers t.new a.distinct;
        safe = insert_safe (row_in s.tables s.road) c place s.carriers a.safe (walk_le c.position s.carriers) t.gap;
      })
      (insert_any c (past_end s.road) t.before_end place s.carriers t.sound.carriers.before_end)

  pub leave_keeps : (number : ℕ) → named_no s number ≡ 0 → Kept (left_state s number)
  unfolding left_state
  leave_keeps number e =
      let h = (named_tells s number e).sound in
      let place = place_of number s.carriers in
      let l = removed_thins place s.carriers in
      kept s h s.cycle (remove_at place s.carriers) (thinned_allowed (row_sound h) l (allowed s h counted))
      (thinned_any (past_end s.road) l h.carriers.before_end)

  pub surface_keeps : (code : ℕ) → surface_no s code ≡ 0 → Kept (surfaced_state s code)
  unfolding surfaced_state
  surface_keeps code e =
      let t = surface_tells s code e in
      let h = t.sound in
      record {
        unbroken = sound_holds _
            (record {
              started = h.started;
              road = surfaced_road code s.road t.known h.road;
              in_force_is = h.in_force_is;
              next = h.next;
              count = h.count;
              carriers = surfaced_faultless code s.road s.carriers h.carriers _ t.safe;
            });
        counted = counted;
      }

  pub cycle_keeps : (count : ℕ) (ws : List Wish) → cycle_no s count ws ≡ 0 → Kept (cycled_state s ws)
  unfolding cycled_state cycle_carriers cycle_drives
  cycle_keeps count ws e =
      let h = (ready_tells s count (cycle_tells s count ws e).0).sound in
      let cs = all_moved s.carriers (cycle_drives s ws) in
      kept s h (s.cycle + 1) (remaining s.road cs)
      (thinned_allowed (row_sound h) (remaining_thins s.road cs)
      (moved_allowed (row_sound h) (wished_units s.carriers (take s.count ws)) (allowed s h counted)))
      (remaining_before s.road cs)
