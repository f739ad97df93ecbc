-- What is known of a road, of carriers and of a state that break no rule, and what is enough for it.
use mathlib.Core.Path.{◌≡◌, refl, sym, ◌∙◌}
use mathlib.Core.Bool.{Bool, true, false, not, ◌||◌, cond}
use mathlib.Core.List.{List, ◌∷◌}
use Prim.Native.Nat.{ℕ, ◌+◌, ◌≤◌, ◌<◌}
use native.Mathlib.Omega.{arith}
use borrow.Author.Tests.{le-ltb, lt-leb, ltb-false, leb-false, eqb-true, not-false}
use lib.Dec.{eqb, ltb}
use lib.ListN.{length, get_or, take}
use lib.Seq.{slice}
use Rattle.lane.specs.declared.Carrier.{Carrier}
use Rattle.lane.specs.declared.Road.{Road}
use Rattle.lane.specs.declared.Row.{Row}
use Rattle.lane.specs.declared.layout.Figures.{Figures}
use Rattle.lane.specs.Surface.{unsound, row_in}
use Rattle.lane.specs.Layout.{Words, figures_in, tables_in, records_in, state_with, state_of}
use Rattle.lane.specs.State.{State}
use Rattle.lane.specs.Safety.{lane_safe, any_of, repeats}
use Rattle.lane.specs.Rules.{outside_of, bad_number, road_no, too_fast, too_long, bad_rate, unlawful, past_end, misfit, faulty, unfounded, broken, carriers_no, lane_no, newcomer_no}
use Rattle.lane.specs.Calls.{none, on_surface}
use Rattle.lane.proofs.Newcomers.{within, Newcomer, newcomer_is}
use Rattle.lane.proofs.lists.Lists.{slice_next}
use Rattle.lane.proofs.lists.Tests.{neither, none_at, none_of, any_or}
use Rattle.lane.proofs.lists.Passed.{passed}
use Rattle.lane.proofs.checks.Surfaces.{SoundRow, sound_at}

-- ---- the road
pub record SoundRoad (road : Road) : Type 0 where
  pub surface : road.surface ≤ 7
  pub end_least : 1 ≤ road.end
  pub end_most : road.end ≤ 2147483648
  pub limit_least : 1 ≤ road.limit
  pub limit_most : road.limit ≤ 8192

pub sound_road : (road : Road) → road_no road ≡ 0 → SoundRoad road
unfolding road_no
sound_road road e =
    let code = passed (ltb 7 road.surface) 0 _ e in
    let end = passed (outside_of 1 2147483648 road.end) 1 _ code.1 in
    let limit = passed (outside_of 1 8192 road.limit) 2 0 end.1 in
    let ends = within 1 2147483648 road.end end.0 in
    let limits = within 1 8192 road.limit limit.0 in
    record {
      surface = ltb-false 7 road.surface code.0;
      end_least = ends.0;
      end_most = ends.1;
      limit_least = limits.0;
      limit_most = limits.1;
    }

pub sound_road_holds : (road : Road) → SoundRoad road → road_no road ≡ 0
unfolding road_no
sound_road_holds road h =
    rw (
      le-ltb 7 road.surface h.surface,
      le-ltb road.end 1 h.end_least,
      le-ltb 2147483648 road.end h.end_most,
      le-ltb road.limit 1 h.limit_least,
      le-ltb 8192 road.limit h.limit_most,
    )
    refl

-- another surface code leaves its bounds
pub surfaced_road : (code : ℕ) (road : Road) → code ≤ 7 → SoundRoad road → SoundRoad (on_surface code road)
surfaced_road code road known h =
    record { surface = known; end_least = h.end_least; end_most = h.end_most; limit_least = h.limit_least; limit_most = h.limit_most }

-- ---- a carrier by itself
pub record Fit (road : Road) (c : Carrier) : Type 0 where
  pub number_least : 1 ≤ c.number
  pub number_most_is : c.number ≤ 65535
  pub slow : c.speed ≤ road.limit
  pub short : c.length ≤ 65535
  pub rate_least : 1 ≤ c.rate
  pub rate_most : c.rate ≤ 255
  pub before_end : c.position < road.end + c.length

-- what a lawful one passes
pub lawful_in : (road : Road) (c : Carrier) → unlawful road c ≡ false
    → (bad_number c.number ≡ false) × (too_fast road c ≡ false) × (too_long c ≡ false) × (bad_rate c.rate ≡ false)
unfolding unlawful
lawful_in road c e =
    let s = neither (bad_number c.number || too_fast road c || too_long c) (bad_rate c.rate) e in
    let t = neither (bad_number c.number || too_fast road c) (too_long c) s.0 in
    let u = neither (bad_number c.number) (too_fast road c) t.0 in
    (u.0, u.1, t.1, s.1)

pub fit : (road : Road) (c : Carrier) → unlawful road c ≡ false → past_end road c ≡ false → Fit road c
unfolding past_end
fit road c e p =
    let own = lawful_in road c e in
    let number = within 1 65535 c.number own.0 in
    let rate = within 1 255 c.rate own.3 in
    record {
      number_least = number.0;
      number_most_is = number.1;
      slow = ltb-false road.limit c.speed own.1;
      short = ltb-false 65535 c.length own.2;
      rate_least = rate.0;
      rate_most = rate.1;
      before_end = leb-false (road.end + c.length) c.position p;
    }

-- so that lawful carriers have rates
pub rated_at : (road : Road) (cs : List Carrier) → any_of (unlawful road) cs ≡ false → (i : ℕ) → i < length cs → 1 ≤ (get_or cs i none).rate
rated_at road cs e i h = (within 1 255 _ (lawful_in road (get_or cs i none) (none_at (unlawful road) cs i none e h)).3).0

-- and such a one is lawful, with its tail before the end
pub fit_lawful : (road : Road) (c : Carrier) → Fit road c → (unlawful road c ≡ false) × (past_end road c ≡ false)
unfolding unlawful past_end
fit_lawful road c h =
    rw (
      le-ltb c.number 1 h.number_least,
      le-ltb 65535 c.number h.number_most_is,
      le-ltb road.limit c.speed h.slow,
      le-ltb 65535 c.length h.short,
      le-ltb c.rate 1 h.rate_least,
      le-ltb 255 c.rate h.rate_most,
      lt-leb (road.end + c.length) c.position h.before_end,
    )
    (refl, refl)

-- a newcomer that passes its own checks: where its front is before the end, its tail is
newcomer_is_fit : (road : Road) (c : Carrier) → Newcomer road c → Fit road c
newcomer_is_fit road c h =
    record {
      number_least = h.number_least;
      number_most_is = h.number_most_is;
      slow = h.slow;
      short = h.short;
      rate_least = h.rate_least;
      rate_most = h.rate_most;
      before_end = omega (arith, h.front_before_end);
    }

pub newcomer_fit : (road : Road) (c : Carrier) → newcomer_no road c ≡ 0 → Fit road c
newcomer_fit road c e = newcomer_is_fit road c (newcomer_is road c e)

pub newcomer_lawful : (road : Road) (c : Carrier) → Newcomer road c → unlawful road c ≡ false
newcomer_lawful road c h = (fit_lawful road c (newcomer_is_fit road c h)).0

pub newcomer_before_end : (road : Road) (c : Carrier) → Newcomer road c → past_end road c ≡ false
newcomer_before_end road c h = (fit_lawful road c (newcomer_is_fit road c h)).1

-- its numbers are 32 bits wide, its position even with a length added, and its speed within every limit
pub record Narrow (c : Carrier) : Type 0 where
  pub position : c.position < 4294901760
  pub speed : c.speed < 4294967296
  pub slow : c.speed ≤ 8192
  pub short : c.length ≤ 65535

pub fit_narrow : (road : Road) (c : Carrier) → SoundRoad road → Fit road c → Narrow c
fit_narrow road c r h = record { position = omega arith; speed = omega arith; slow = omega arith; short = omega arith }

-- ---- carriers, by the row in force
pub record Faultless (r : Row) (road : Road) (cs : List Carrier) : Type 0 where
  pub lawful : any_of (unlawful road) cs ≡ false
  pub before_end : any_of (past_end road) cs ≡ false
  pub distinct : repeats cs ≡ false
  pub safe : lane_safe r cs ≡ true

pub faultless : (r : Row) (road : Road) (cs : List Carrier) → faulty r road cs ≡ false → Faultless r road cs
unfolding faulty
faultless r road cs e =
    let alone = any_of (λ c. unlawful road c || past_end road c) cs in
    let t = neither (alone || repeats cs) (not (lane_safe r cs)) e in
    let u = neither alone (repeats cs) t.0 in
    let v = neither (any_of (unlawful road) cs) (any_of (past_end road) cs) (rw (any_or (unlawful road) (past_end road) cs) at u.0) in
    record {
      lawful = v.0;
      before_end = v.1;
      distinct = u.1;
      safe = not-false (lane_safe r cs) t.1;
    }

pub faultless_holds : (r : Row) (road : Road) (cs : List Carrier) → Faultless r road cs → faulty r road cs ≡ false
unfolding faulty
faultless_holds r road cs h =
    rw (any_or (unlawful road) (past_end road) cs, h.lawful, h.before_end, h.distinct, h.safe) refl

-- on another surface they break no rule but that of safety by its row
pub surfaced_faultless : {r : Row} (code : ℕ) (road : Road) (cs : List Carrier) → Faultless r road cs → (q : Row) → lane_safe q cs ≡ true → Faultless q (on_surface code road) cs
unfolding unlawful past_end
surfaced_faultless code road cs h q safe = record { lawful = h.lawful; before_end = h.before_end; distinct = h.distinct; safe = safe }

module _ {r : Row} (road : Road) where
  pub fit_at : (cs : List Carrier) (i : ℕ) (d : Carrier) → Faultless r road cs → i < length cs → Fit road (get_or cs i d)
  fit_at cs i d h p =
      fit road (get_or cs i d) (none_at (unlawful road) cs i d h.lawful p) (none_at (past_end road) cs i d h.before_end p)

  -- the same of the first `count` records
  pub fit_of : (l : List Carrier) (count i : ℕ) (d : Carrier) → Faultless r road (take count l) → i < count → count ≤ length l → Fit road (get_or l i d)
  fit_of l count i d h p k =
      fit road (get_or l i d) (none_of (unlawful road) l count i d h.lawful p k) (none_of (past_end road) l count i d h.before_end p k)

-- whether they are safe or not
pub fit_in : (road : Road) (cs : List Carrier) (i : ℕ) (d : Carrier) → misfit road cs ≡ false → i < length cs → Fit road (get_or cs i d)
fit_in road cs i d e p =
    let alone : Carrier → Bool = λ c. unlawful road c || past_end road c in
    let t = neither (unlawful road (get_or cs i d)) (past_end road (get_or cs i d)) (none_at alone cs i d (neither (any_of alone cs) (repeats cs) e).0 p) in
    fit road (get_or cs i d) t.0 t.1

-- and of those from a place on
pub fit_from : (road : Road) (l : List Carrier) (count i : ℕ) (d : Carrier) → misfit road (slice i count l) ≡ false → i < count → count ≤ length l → Fit road (get_or l i d)
fit_from road l count i d e p k = fit_in road (get_or l i d ∷ slice (i + 1) count l) 0 d (rw (slice_next d l i count p k) at e) (omega arith)

-- ---- a state
pub record Sound (s : State) : Type 0 where
  pub started : s.started ≡ true
  pub road : SoundRoad s.road
  pub in_force_is : unsound s.tables.in_force ≡ false
  pub next : unsound s.tables.next ≡ false
  pub count : s.count ≤ 64
  pub carriers : Faultless (row_in s.tables s.road) s.road s.carriers

-- the row in force
pub row_sound : {s : State} → Sound s → SoundRow (row_in s.tables s.road)
row_sound {s} h = sound_at s.tables.in_force s.road.surface h.road.surface h.in_force_is

-- what is known beside the carriers
pub founded : (s : State) → unfounded s ≡ false
    → (s.started ≡ true) × SoundRoad s.road × (unsound s.tables.in_force ≡ false) × (unsound s.tables.next ≡ false) × (s.count ≤ 64)
founded s e =
    let never = not s.started in
    let off = not (eqb (road_no s.road) 0) in
    let u = neither (never || off || unsound s.tables.in_force || unsound s.tables.next) (ltb 64 s.count) e in
    let v = neither (never || off || unsound s.tables.in_force) (unsound s.tables.next) u.0 in
    let w = neither (never || off) (unsound s.tables.in_force) v.0 in
    let x = neither never off w.0 in
    let road = sound_road s.road (eqb-true (road_no s.road) 0 (not-false _ x.1)) in
    (not-false s.started x.0, road, w.1, v.1, ltb-false 64 s.count u.1)

pub sound : (s : State) → broken s ≡ false → Sound s
unfolding broken
sound s e =
    let t = neither (unfounded s) (faulty (row_in s.tables s.road) s.road s.carriers) e in
    let f = founded s t.0 in
    record {
      started = f.0;
      road = f.1;
      in_force_is = f.2;
      next = f.3;
      count = f.4;
      carriers = faultless (row_in s.tables s.road) s.road s.carriers t.1;
    }

pub sound_holds : (s : State) → Sound s → broken s ≡ false
unfolding broken
sound_holds s h =
    rw (
      h.started,
      sound_road_holds s.road h.road,
      h.in_force_is,
      h.next,
      le-ltb 64 s.count h.count,
      faultless_holds (row_in s.tables s.road) s.road s.carriers h.carriers,
    )
    refl

-- of a lane whose figures the code holds
pub sound_with : (l : Words) (f : Figures) → f ≡ figures_in l → broken (state_of l) ≡ false → Sound (state_with f (tables_in l) (records_in l))
sound_with l f e unbroken = rw e (sound (state_of l) unbroken)

-- 21 by the number of what it refuses
pub broken_no : (s : State) → broken s ≡ not (eqb (lane_no s) 0)
unfolding broken faulty lane_no carriers_no
broken_no s = by_tests (unfounded s) (misfit s.road s.carriers) (lane_safe (row_in s.tables s.road) s.carriers)
  where
    by_tests : (u m t : Bool) → u || (m || not t) ≡ not (eqb (cond u 36 (cond m 36 (cond t 0 37))) 0)
    by_tests true m t = refl
    by_tests false true t = refl
    by_tests false false true = refl
    by_tests false false false = refl

pub lane_no_zero : (s : State) → (lane_no s ≡ 0 → broken s ≡ false) × (broken s ≡ false → lane_no s ≡ 0)
lane_no_zero s = (λ e. broken_no s ∙ rw e refl, λ e. eqb-true (lane_no s) 0 (not-false _ (sym (broken_no s) ∙ e)))
