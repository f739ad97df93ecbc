-- Which number a lane of a handover text gets, in numbers: "36 .. a lane that 21 refuses for anything but safety; 37 the lane isn't safe, after 36"; so
-- that each rule other than safety gives 36, whatever the order of the carriers is and whether they are safe, and 37 means that some carrier isn't.
use mathlib.Core.Path.{◌≡◌, refl, sym, ◌∙◌}
use mathlib.Core.Bool.{Bool, true, false, ◌||◌, cond, true≢false}
use mathlib.Core.List.{List, [], ◌∷◌}
use mathlib.Core.Logic.{◌⊎◌, inl, inr}
use Prim.Native.Nat.{ℕ, zero, suc, ◌+◌, ◌≤◌, ◌<◌, min}
use native.Mathlib.Omega.{arith}
use borrow.Author.Tests.{eqb-false, ne_eqb, le-ltb, le-leb}
use lib.ListN.{length, get_or}
use Rattle.headway.specs.Stopping.{stopping_distance}
use Rattle.lane.specs.declared.Carrier.{Carrier}
use Rattle.lane.specs.declared.Row.{Row}
use Rattle.lane.specs.Surface.{row_of, sound_row, unsound_below, unsound, row_in}
use Rattle.lane.specs.State.{State}
use Rattle.lane.specs.Safety.{leader, safe_with, safe_from, lane_safe, any_of, numbered, repeats}
use Rattle.lane.specs.Rules.{unlawful, past_end, misfit, unfounded, broken, carriers_no, lane_no}
use Rattle.lane.specs.Calls.{none}
use Rattle.lane.proofs.EntryLaws.{numbers_safe, safe_numbers}
use Rattle.lane.proofs.lists.Tests.{neither, none_at, none_pass}
use Rattle.lane.proofs.checks.Surfaces.{SoundRow, sound_at}
use Rattle.lane.proofs.checks.Soundness.{SoundRoad, sound_road_holds, Fit, fit_lawful, fit_in, founded, lane_no_zero}
use Rattle.lane.proofs.calls.Order.{safe_behind_leader}

-- ---- carriers of which none is unlike the rules

-- numbers of which none stands twice
apart : (cs : List Carrier) → repeats cs ≡ false → (i j : ℕ) → i < j → j < length cs → ¬ ((get_or cs i none).number ≡ (get_or cs j none).number)
unfolding repeats
apart [] r i j p q same = omega arith
apart (c ∷ cs) r i zero p q same = omega arith
apart (c ∷ cs) r zero (suc j) p q same =
    eqb-false _ _ (none_at (numbered c.number) cs j none (neither (any_of (numbered c.number) cs) (repeats cs) r).0 (omega arith)) (sym same)
apart (c ∷ cs) r (suc i) (suc j) p q same =
    apart cs (neither (any_of (numbered c.number) cs) (repeats cs) r).1 i j (omega arith) (omega arith) same

-- a lane that is not safe has two neighbours that are not
unsafe_pair : (r : Row) (cs : List Carrier) → lane_safe r cs ≡ false
    → (i : ℕ) × (suc i < length cs) × (safe_with r (leader (get_or cs i none)) (get_or cs (suc i) none) ≡ false)
unfolding lane_safe safe_from safe_with
unsafe_pair r [] e = absurd (true≢false e)
unsafe_pair r (c ∷ cs) e = behind c cs e
  where
    behind : (a : Carrier) (cs : List Carrier) → safe_from r (leader a) cs ≡ false
        → (i : ℕ) × (suc i < length (a ∷ cs)) × (safe_with r (leader (get_or (a ∷ cs) i none)) (get_or (a ∷ cs) (suc i) none) ≡ false)
    behind a [] e = absurd (true≢false e)
    behind a (c ∷ cs) e = by_test (safe_with r (leader a) c) refl (behind c cs)
      where
        by_test : (t : Bool) → safe_with r (leader a) c ≡ t
            → (safe_from r (leader c) cs ≡ false
            → (i : ℕ) × (suc i < length (c ∷ cs)) × (safe_with r (leader (get_or (c ∷ cs) i none)) (get_or (c ∷ cs) (suc i) none) ≡ false))
            → (i : ℕ) × (suc i < length (a ∷ c ∷ cs)) × (safe_with r (leader (get_or (a ∷ c ∷ cs) i none)) (get_or (a ∷ c ∷ cs) (suc i) none) ≡ false)
        by_test true q more = let m = more (rw q at e) in (suc m.0, omega (arith, m.1), m.2)
        by_test false q more = (0, omega arith, q)

none_twice : (cs : List Carrier) → ((i j : ℕ) → i < j → j < length cs → ¬ ((get_or cs i none).number ≡ (get_or cs j none).number)) → repeats cs ≡ false
unfolding repeats
none_twice [] h = refl
none_twice (c ∷ cs) h =
    rw (
      none_pass (numbered c.number) cs none (λ i p. ne_eqb _ _ (λ e. h 0 (suc i) (omega arith) (omega arith) (sym e))),
      none_twice cs (λ i j p q. h (suc i) (suc j) (omega arith) (omega arith)),
    )
    refl

sound_below : (n : ℕ) (rows : List Row) → ((code : ℕ) → code < n → SoundRow (row_of rows code)) → unsound_below n rows ≡ false
unfolding unsound_below sound_row
sound_below zero rows h = refl
sound_below (suc n) rows h =
    let r = h n (omega arith) in
    rw (
      sound_below n rows (λ code p. h code (omega arith)),
      le-leb 1 _ r.brakes,
      le-leb _ _ r.brakes_harder,
      le-leb _ 255 r.hardest_most,
      le-leb 1 _ r.gains,
      le-leb _ 255 r.gains_most,
    )
    refl

-- ---- two tests, each of which gives 36

first_36 : (u : Bool) (later : ℕ) → ¬ (u ≡ false) → cond u 36 later ≡ 36
first_36 true later h = refl
first_36 false later h = absurd (h refl)

either_36 : (u m : Bool) (later : ℕ) → ¬ (m ≡ false) → cond u 36 (cond m 36 later) ≡ 36
either_36 true m later h = refl
either_36 false m later h = first_36 m later h

neither_36 : (u m : Bool) (later : ℕ) → ¬ (cond u 36 (cond m 36 later) ≡ 36) → cond u 36 (cond m 36 later) ≡ later
neither_36 true m later h = absurd (h refl)
neither_36 false true later h = absurd (h refl)
neither_36 false false later h = refl

module _ (s : State) where
  abbrev unfit : Bool
  unfit = misfit s.road s.carriers

  abbrev safe : Bool
  safe = lane_safe (row_in s.tables s.road) s.carriers

  -- ---- 36

  -- "a number 0 .., a speed above the limit, a position at or past the end"; T-03: by the tail, "and at a length out of range"; T-06: "21 covers a rate
  -- out of range too."
  pub carrier_36 : (i : ℕ) → i < length s.carriers →
      let c = get_or s.carriers i none in
      (c.number ≡ 0 → lane_no s ≡ 36)
      × (65535 < c.number → lane_no s ≡ 36)
      × (s.road.limit < c.speed → lane_no s ≡ 36)
      × (65535 < c.length → lane_no s ≡ 36)
      × (c.rate ≡ 0 → lane_no s ≡ 36)
      × (255 < c.rate → lane_no s ≡ 36)
      × (s.road.end + c.length ≤ c.position → lane_no s ≡ 36)
  unfolding lane_no carriers_no
  carrier_36 i p =
      let known : unfit ≡ false → Fit s.road (get_or s.carriers i none) = λ f. fit_in s.road s.carriers i none f p in (
        λ h. either_36 (unfounded s) unfit _ λ f. omega (arith, (known f).number_least),
        λ h. either_36 (unfounded s) unfit _ λ f. omega (arith, (known f).number_most_is),
        λ h. either_36 (unfounded s) unfit _ λ f. omega (arith, (known f).slow),
        λ h. either_36 (unfounded s) unfit _ λ f. omega (arith, (known f).short),
        λ h. either_36 (unfounded s) unfit _ λ f. omega (arith, (known f).rate_least),
        λ h. either_36 (unfounded s) unfit _ λ f. omega (arith, (known f).rate_most),
        λ h. either_36 (unfounded s) unfit _ λ f. omega (arith, (known f).before_end),
      )

  -- "a number .. twice"
  pub twice_36 : (i j : ℕ) → i < j → j < length s.carriers → (get_or s.carriers i none).number ≡ (get_or s.carriers j none).number → lane_no s ≡ 36
  unfolding lane_no carriers_no
  twice_36 i j p q same =
      let alone : Carrier → Bool = λ c. unlawful s.road c || past_end s.road c in
      either_36 (unfounded s) unfit _ λ f. apart s.carriers (neither (any_of alone s.carriers) (repeats s.carriers) f).1 i j p q same

  -- "never started, .. a surface or bound outside its range, more than 64 carriers"; T-01: "A lane handed in with an unsound row gets 21", of those in
  -- force or of those for the next start
  pub road_36 :
      let Sound : Row → Type 0 = λ r. (1 ≤ r.guaranteed) × (r.guaranteed ≤ r.hardest) × (r.hardest ≤ 255) × (1 ≤ r.most) × (r.most ≤ 255) in
      (s.started ≡ false → lane_no s ≡ 36)
      × (7 < s.road.surface → lane_no s ≡ 36)
      × (s.road.end ≡ 0 → lane_no s ≡ 36)
      × (2147483648 < s.road.end → lane_no s ≡ 36)
      × (s.road.limit ≡ 0 → lane_no s ≡ 36)
      × (8192 < s.road.limit → lane_no s ≡ 36)
      × ((code : ℕ) → code < 8 → ¬ (Sound (row_of s.tables.in_force code)) → lane_no s ≡ 36)
      × ((code : ℕ) → code < 8 → ¬ (Sound (row_of s.tables.next code)) → lane_no s ≡ 36)
      × (64 < s.count → lane_no s ≡ 36)
  unfolding lane_no
  road_36 = (
    λ h. first_36 (unfounded s) _ λ e. true≢false (sym (founded s e).0 ∙ h),
    λ h. first_36 (unfounded s) _ λ e. omega (arith, (founded s e).1.surface),
    λ h. first_36 (unfounded s) _ λ e. omega (arith, (founded s e).1.end_least),
    λ h. first_36 (unfounded s) _ λ e. omega (arith, (founded s e).1.end_most),
    λ h. first_36 (unfounded s) _ λ e. omega (arith, (founded s e).1.limit_least),
    λ h. first_36 (unfounded s) _ λ e. omega (arith, (founded s e).1.limit_most),
    λ code p h. first_36 (unfounded s) _ λ e. h (in_numbers (sound_at s.tables.in_force code (omega arith) (founded s e).2)),
    λ code p h. first_36 (unfounded s) _ λ e. h (in_numbers (sound_at s.tables.next code (omega arith) (founded s e).3)),
    λ h. first_36 (unfounded s) _ λ e. omega (arith, (founded s e).4),
  )
    where
      in_numbers : {r : Row} → SoundRow r → (1 ≤ r.guaranteed) × (r.guaranteed ≤ r.hardest) × (r.hardest ≤ 255) × (1 ≤ r.most) × (r.most ≤ 255)
      in_numbers h = (h.brakes, h.brakes_harder, h.hardest_most, h.gains, h.gains_most)

  -- ---- 37

  -- "37 the lane isn't safe, after 36": with guaranteed braking of the one behind and B of the one ahead, by the tail of that one
  pub unsafe_37 :
      let r = row_of s.tables.in_force s.road.surface in
      let Safe : ℕ → Type 0 = λ i.
      let a = get_or s.carriers i none in
      let d = get_or s.carriers (suc i) none in
      (d.position + a.length < a.position)
      × (d.position + a.length + stopping_distance (min d.rate r.guaranteed) d.speed < a.position + stopping_distance r.hardest a.speed)
      in
      (¬ (lane_no s ≡ 36) → (i : ℕ) → suc i < length s.carriers → ¬ (Safe i) → lane_no s ≡ 37)
      × (lane_no s ≡ 37 → (i : ℕ) × (suc i < length s.carriers) × ¬ (Safe i))
  unfolding lane_no carriers_no
  unsafe_37 = (
    λ h i p u. neither_36 (unfounded s) unfit _ h ∙ by_safety (λ q. u (safe_numbers r _ _ (safe_behind_leader r s.carriers q i p))) safe refl,
    λ e.
        let u = unsafe_pair r s.carriers (by_number (unfounded s) unfit safe e) in
        (u.0, u.1, λ h. true≢false (sym (numbers_safe r _ _ h) ∙ u.2)),
  )
    where
      r : Row
      r = row_in s.tables s.road

      by_safety : ¬ (safe ≡ true) → (t : Bool) → safe ≡ t → ◌≡◌ {A = ℕ} (cond t 0 37) 37
      by_safety h true q = absurd (h q)
      by_safety h false q = refl

      by_number : (u m t : Bool) → ◌≡◌ {A = ℕ} (cond u 36 (cond m 36 (cond t 0 37))) 37 → t ≡ false
      by_number true m t e = absurd (omega arith)
      by_number false true t e = absurd (omega arith)
      by_number false false true e = absurd (omega arith)
      by_number false false false e = refl

  -- and 36 for nothing else: where every number is in its range and none stands twice the lane gets 0 or 37, safe or not
  pub nothing_else_36 :
      let Sound : Row → Type 0 = λ r. (1 ≤ r.guaranteed) × (r.guaranteed ≤ r.hardest) × (r.hardest ≤ 255) × (1 ≤ r.most) × (r.most ≤ 255) in
      let Lawful : Carrier → Type 0 = λ c.
      (1 ≤ c.number) × (c.number ≤ 65535) × (c.speed ≤ s.road.limit) × (c.length ≤ 65535) × (1 ≤ c.rate) × (c.rate ≤ 255) × (c.position < s.road.end + c.length)
      in
      s.started ≡ true → s.road.surface ≤ 7 → 1 ≤ s.road.end → s.road.end ≤ 2147483648 → 1 ≤ s.road.limit → s.road.limit ≤ 8192
      → ((code : ℕ) → code < 8 → Sound (row_of s.tables.in_force code)) → ((code : ℕ) → code < 8 → Sound (row_of s.tables.next code))
      → s.count ≤ 64 → ((i : ℕ) → i < length s.carriers → Lawful (get_or s.carriers i none))
      → ((i j : ℕ) → i < j → j < length s.carriers → ¬ ((get_or s.carriers i none).number ≡ (get_or s.carriers j none).number))
      → ¬ (lane_no s ≡ 36)
  unfolding lane_no carriers_no unsound
  nothing_else_36 started surface end_least end_most limit_least limit_most in_force next count lawful alone e =
      let road : SoundRoad s.road = record { surface = surface; end_least = end_least; end_most = end_most; limit_least = limit_least; limit_most = limit_most } in
      let carriers = none_pass (λ c. unlawful s.road c || past_end s.road c) s.carriers none (λ i p. fits (get_or s.carriers i none) (lawful i p)) in
      by_safe safe
      (sym (rw (
        started,
        sound_road_holds s.road road,
        sound_below 8 s.tables.in_force (λ code p. known (in_force code p)),
        sound_below 8 s.tables.next (λ code p. known (next code p)),
        le-ltb 64 s.count count,
        carriers,
        none_twice s.carriers alone,
      ) refl) ∙ e)
    where
      fits : (c : Carrier)
          → (1 ≤ c.number) × (c.number ≤ 65535) × (c.speed ≤ s.road.limit) × (c.length ≤ 65535) × (1 ≤ c.rate) × (c.rate ≤ 255) × (c.position < s.road.end + c.length)
          → unlawful s.road c || past_end s.road c ≡ false
      fits c h =
          let f = fit_lawful s.road c (record { number_least = h.0; number_most_is = h.1; slow = h.2; short = h.3; rate_least = h.4; rate_most = h.5; before_end = h.6 }) in
          rw (f.0, f.1) refl

      known : {r : Row} → ((1 ≤ r.guaranteed) × (r.guaranteed ≤ r.hardest) × (r.hardest ≤ 255) × (1 ≤ r.most) × (r.most ≤ 255)) → SoundRow r
      known h = record { brakes = h.0; brakes_harder = h.1; hardest_most = h.2; gains = h.3; gains_most = h.4 }

      by_safe : (t : Bool) → ◌≡◌ {A = ℕ} (cond t 0 37) 36 → ⊥
      by_safe true q = omega arith
      by_safe false q = omega arith

  -- ---- a lane is accepted where 21 passes it, and turned away by 36 or 37 where it doesn't
  pub lane_numbers : ((lane_no s ≡ 0) ⊎ (lane_no s ≡ 36) ⊎ (lane_no s ≡ 37)) × (lane_no s ≡ 0 → broken s ≡ false) × (broken s ≡ false → lane_no s ≡ 0)
  unfolding lane_no carriers_no
  lane_numbers = (by_tests (unfounded s) unfit safe refl, (lane_no_zero s).0, (lane_no_zero s).1)
    where
      by_tests : (u m t : Bool) → lane_no s ≡ cond u 36 (cond m 36 (cond t 0 37)) → (lane_no s ≡ 0) ⊎ (lane_no s ≡ 36) ⊎ (lane_no s ≡ 37)
      by_tests true m t e = inr (inl e)
      by_tests false true t e = inr (inl e)
      by_tests false false true e = inl e
      by_tests false false false e = inr (inr e)
