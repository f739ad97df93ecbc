-- What an accepted cycle does, for the crates above: `CycleRun`, place by place, in words of headway and wish.
use mathlib.Core.Path.{◌≡◌, refl, sym, ap, ◌∙◌}
use mathlib.Core.Bool.{Bool, true, false, not, ◌&&◌, cond, true≢false}
use mathlib.Core.List.{List, [], ◌∷◌, map}
use Prim.Native.Nat.{ℕ, zero, suc, ◌+◌, ◌-◌, ◌*◌, ◌/◌, ◌%◌, ◌^◌, ◌≤◌, ◌<◌, min}
use native.Mathlib.Omega.{arith}
use borrow.Author.Tests.{leb-true, leb-false}
use lib.Dec.{eqb, leb, ltb}
use lib.IntN.{ℤ, pos, ◌+ℤ◌}
use lib.ListN.{length, get_or, take, length-take}
use lib.Seq.{get_or-take}
use lib.Signed.{◌<ℤ◌}
use Rattle.headway.specs.Motion.{speed_after, position_after, position_at}
use Rattle.headway.specs.Stopping.{braking}
use Rattle.headway.specs.Wishes.{rests_behind}
use Rattle.wish.specs.Units.{units_of}
use Rattle.wish.specs.Trimming.{trimmed_to}
use Rattle.std.specs.Prelude.{Option, Some, None}
use Rattle.wish.specs.declared.Wish.{Wish}
use Rattle.wish.specs.declared.Wish.TheVariants.{Hold}
use Rattle.lane.specs.declared.Carrier.{Carrier}
use Rattle.lane.specs.declared.Drive.{Drive}
use Rattle.lane.specs.declared.Road.{Road}
use Rattle.lane.specs.declared.Row.{Row}
use Rattle.lane.specs.Surface.{row_in}
use Rattle.lane.specs.State.{State}
use Rattle.lane.specs.Safety.{Ahead, nobody, leader, guaranteed_rate}
use Rattle.lane.specs.Rules.{past_end}
use Rattle.lane.specs.Wishes.{is_outside, units_in, wished_units, any_outside, trimmed, stands, drive, drives, moved, all_moved, replaced_in, bit, word_of, remaining}
use Rattle.lane.specs.Calls.{none, with_carriers, at_cycle, cycle_drives, cycle_no, cycle_word, cycle_carriers, cycled_state}
use Rattle.lane.specs.Call.{cycle_call, Answer, call_answer, call_state}
use Rattle.lane.proofs.lists.Tests.{neither}
use Rattle.lane.proofs.lists.Words.{word_bit}
use Rattle.lane.proofs.calls.Answers.{accepted_changes, accepted_answers, Ready, ready_tells, cycle_tells}
use Rattle.lane.proofs.calls.Order.{ahead_in}
use Rattle.lane.proofs.driving.Turns.{accelerations_in, drives_at, never_touching, replaced_is}
use Rattle.lane.proofs.checks.Soundness.{rated_at, row_sound}

-- ---- the words of the law

-- who drives, front to back, and who is left of them: whose tail is then at or past the end is gone
pub data Drove (end : ℕ) : List Carrier → List ℤ → List Carrier → Type 0 where
  nobody_drives : Drove end [] [] []
  stays_on : {c : Carrier} {a : ℤ} {cs ds : List Carrier} {accs : List ℤ} → position_after c.position c.speed a < end + c.length → Drove end cs accs ds
      → Drove end (c ∷ cs) (a ∷ accs) (record { number = c.number; position = position_after c.position c.speed a; speed = speed_after c.speed a; length = c.length; rate = c.rate } ∷ ds)
  is_gone : {c : Carrier} {a : ℤ} {cs ds : List Carrier} {accs : List ℤ} → end + c.length ≤ position_after c.position c.speed a → Drove end cs accs ds
      → Drove end (c ∷ cs) (a ∷ accs) ds

-- the carrier at a place, and its wish
abbrev pub carrier_of : State → ℕ → Carrier
carrier_of s i = get_or s.carriers i none

abbrev pub wish_of : List Wish → ℕ → Wish
wish_of ws i = get_or ws i Hold

-- a wish within its range, in units and trimmed with the state's figures
pub record Trimmed (s : State) (c : Carrier) (w : Wish) (t : ℤ) : Type 0 where
  pub units : ℤ
  pub within : units_of w c.speed ≡ Some units
  pub trimmed : t ≡ trimmed_to units c.speed (row_in s.tables s.road).hardest (row_in s.tables s.road).most s.road.limit

-- "bit i is set if the wish of place i was replaced"
abbrev pub bit_set : (word i : ℕ) → Bool
bit_set word i = eqb (word / 2 ^ i % 2) 1

-- a cycle of the state with these wishes, which gives the word and leaves the carriers `after`
pub record CycleRun (s : State) (ws : List Wish) (word : ℕ) (after : List Carrier) : Type 0 where
  -- the trimmed wish of each place, and what is driven
  pub trimmed : ℕ → ℤ
  pub accelerations : List ℤ
  pub enough : length s.carriers ≤ length ws
  pub wished : (i : ℕ) → i < length s.carriers → Trimmed s (carrier_of s i) (wish_of ws i) (trimmed i)
  pub as_many : length accelerations ≡ length s.carriers
  pub drives_as_told : (i : ℕ) → i < length s.carriers
      → get_or accelerations i (pos 0)
      ≡ cond (bit_set word i) (braking (min (carrier_of s i).rate (row_in s.tables s.road).guaranteed) (carrier_of s i).speed) (trimmed i)
  -- a wish is replaced exactly where the carrier would not rest behind the tail of the one next ahead
  pub replaces : (i : ℕ) → bit_set word i
      ≡ ltb 0 i
      && (ltb i (length s.carriers)
      && not (rests_behind (min (carrier_of s i).rate (row_in s.tables s.road).guaranteed) (row_in s.tables s.road).hardest ((carrier_of s i).position + (carrier_of s (i - 1)).length) (carrier_of s i).speed (trimmed i) (carrier_of s (i - 1)).position (carrier_of s (i - 1)).speed))
  pub leaves : Drove s.road.end s.carriers accelerations after
  -- at each fraction of the cycle each front is below the tail of every carrier ahead
  pub apart : (n k i j : ℕ) → 1 ≤ n → k ≤ n → i < j → j < length s.carriers
      → (position_at n k (carrier_of s j).position (carrier_of s j).speed (get_or accelerations j (pos 0)) +ℤ pos (n * n * (carrier_of s i).length))
      <ℤ position_at n k (carrier_of s i).position (carrier_of s i).speed (get_or accelerations i (pos 0))

-- ---- its proof

units_within_is : (u : Option ℤ) → is_outside u ≡ false → u ≡ Some (units_in u)
units_within_is (Some z) e = refl
units_within_is None e = absurd (true≢false e)

units_length : (cs : List Carrier) (ws : List Wish) → length cs ≤ length ws → length (wished_units cs ws) ≡ length cs
unfolding wished_units
units_length [] ws h = refl
units_length (c ∷ cs) [] h = absurd (omega arith)
units_length (c ∷ cs) (w ∷ ws) h = ap suc (units_length cs ws (omega arith))

-- where no wish is outside its range, each has units
units_at : (cs : List Carrier) (ws : List Wish) (i : ℕ) → any_outside cs ws ≡ false → i < length cs → length cs ≤ length ws
    → units_of (get_or ws i Hold) (get_or cs i none).speed ≡ Some (get_or (wished_units cs ws) i (pos 0))
unfolding wished_units any_outside
units_at [] ws i e h k = absurd (omega arith)
units_at (c ∷ cs) [] i e h k = absurd (omega arith)
units_at (c ∷ cs) (w ∷ ws) zero e h k = units_within_is (units_of w c.speed) (neither (is_outside (units_of w c.speed)) (any_outside cs ws) e).0
units_at (c ∷ cs) (w ∷ ws) (suc i) e h k =
    units_at cs ws i (neither (is_outside (units_of w c.speed)) (any_outside cs ws) e).1 (omega arith) (omega arith)

drives_length : {B : Type 0} (f : Drive → B) (r : Row) (limit : ℕ) (ahead : Ahead) (cs : List Carrier) (zs : List ℤ) → length cs ≤ length zs
    → length (map f (drives r limit ahead cs zs)) ≡ length cs
unfolding drives
drives_length f r limit ahead [] zs h = refl
drives_length f r limit ahead (c ∷ cs) [] h = absurd (omega arith)
drives_length f r limit ahead (c ∷ cs) (z ∷ zs) h = ap suc (drives_length f r limit (leader c) cs zs (omega arith))

flag_set : (t : Bool) → eqb (bit t) 1 ≡ t
flag_set true = refl
flag_set false = refl

drive_as_told : (r : Row) (limit : ℕ) (ahead : Ahead) (c : Carrier) (z : ℤ)
    → (drive r limit ahead c z).acceleration ≡ cond (drive r limit ahead c z).replaced (braking (guaranteed_rate r c) c.speed) (trimmed r limit c z)
unfolding drive
drive_as_told r limit ahead c z = swapped (stands r ahead c (trimmed r limit c z)) _ _
  where
    swapped : (t : Bool) (x y : ℤ) → cond t x y ≡ cond (not t) y x
    swapped true x y = refl
    swapped false x y = refl

left_of : (road : Road) (cs : List Carrier) (ds : List Drive) → length (accelerations_in ds) ≡ length cs
    → Drove road.end cs (accelerations_in ds) (remaining road (all_moved cs ds))
unfolding remaining all_moved moved past_end
left_of road [] [] e = nobody_drives
left_of road [] (d ∷ ds) e = absurd (omega arith)
left_of road (c ∷ cs) [] e = absurd (omega arith)
left_of road (c ∷ cs) (d ∷ ds) e = by_test (leb (road.end + c.length) to.position) refl (left_of road cs ds (omega arith))
  where
    to : Carrier
    to = moved c d.acceleration

    by_test : (t : Bool) → leb (road.end + c.length) to.position ≡ t → Drove road.end cs (accelerations_in ds) (remaining road (all_moved cs ds))
        → Drove road.end (c ∷ cs) (accelerations_in (d ∷ ds)) (cond t (remaining road (all_moved cs ds)) (to ∷ remaining road (all_moved cs ds)))
    by_test true p h = is_gone (leb-true (road.end + c.length) to.position p) h
    by_test false p h = stays_on (leb-false (road.end + c.length) to.position p) h

-- the cycle number is one higher, and the carriers are others
pub cycle_accepted : (s : State) (count : ℕ) (ws : List Wish) → cycle_no s count ws ≡ 0
    → call_state (cycle_call count ws) s ≡ at_cycle (s.cycle + 1) (with_carriers s (call_state (cycle_call count ws) s).carriers)
unfolding cycled_state
cycle_accepted s count ws e = rw (accepted_changes (cycle_call count ws) s e) refl

-- the wishes are those of a lane that counts its carriers, of which there are at most 64
module _ (s : State) (counted : s.count ≡ length s.carriers) (count : ℕ) (ws : List Wish) (enough : count ≤ 64 → count ≤ length ws)
    (e : cycle_no s count ws ≡ 0) where
  ready : Ready s count
  ready = ready_tells s count (cycle_tells s count ws e).0

  wished_all : length s.carriers ≤ length ws
  wished_all = omega (arith, counted, ready.counted, enough (omega (arith, ready.counted, ready.sound.count)))

  abbrev looked_at : List Wish
  looked_at = take s.count ws

  looked_at_all : length s.carriers ≤ length looked_at
  looked_at_all = omega (arith, counted, wished_all, length-take s.count ws)

  abbrev units : List ℤ
  units = wished_units s.carriers looked_at

  units_all : length s.carriers ≤ length units
  units_all = omega (arith, units_length s.carriers looked_at looked_at_all)

  abbrev all : List Drive
  all = drives (row_in s.tables s.road) s.road.limit nobody s.carriers units

  flag_at : (i : ℕ) → bit_set (call_answer (cycle_call count ws) s).word i ≡ get_or (replaced_in all) i false
  unfolding cycle_word cycle_drives
  flag_at i =
      let is : (call_answer (cycle_call count ws) s).word ≡ word_of (replaced_in all) = ap (λ (a : Answer). a.word) (accepted_answers (cycle_call count ws) s e) in
      rw (is, word_bit (replaced_in all) i) (flag_set (get_or (replaced_in all) i false))

  pub cycle_runs : CycleRun s ws (call_answer (cycle_call count ws) s).word (call_state (cycle_call count ws) s).carriers
  unfolding trimmed cycled_state cycle_carriers cycle_drives
  cycle_runs =
      let r = row_in s.tables s.road in
      let limit = s.road.limit in
      let sound = ready.sound in
      let rated = rated_at s.road s.carriers sound.carriers.lawful in
      record {
        trimmed = λ i. trimmed r limit (carrier_of s i) (get_or units i (pos 0));
        accelerations = accelerations_in all;
        enough = wished_all;
        wished = λ i h.
            record {
              units = get_or units i (pos 0);
              within =
                  ap (λ (w : Wish). units_of w (carrier_of s i).speed) (sym (get_or-take s.count ws i Hold (omega (arith, counted))))
                  ∙ units_at s.carriers looked_at i (cycle_tells s count ws e).1 h looked_at_all;
              trimmed = refl;
            };
        as_many = drives_length (λ d. d.acceleration) r limit nobody s.carriers units units_all;
        drives_as_told = λ i h.
            rw (flag_at i, drives_at (λ d. d.replaced) false r limit nobody s.carriers units i h units_all)
            (drives_at (λ d. d.acceleration) (pos 0) r limit nobody s.carriers units i h units_all
            ∙ drive_as_told r limit (ahead_in nobody i s.carriers) (carrier_of s i) (get_or units i (pos 0)));
        replaces = λ i. flag_at i ∙ replaced_is r (row_sound sound) limit s.carriers units rated sound.carriers.safe units_all i;
        leaves =
            rw (accepted_changes (cycle_call count ws) s e)
            (left_of s.road s.carriers all (drives_length (λ d. d.acceleration) r limit nobody s.carriers units units_all));
        apart = λ n k i j hn hk p q.
            never_touching r (row_sound sound) limit s.carriers units rated sound.carriers.safe units_all n k hn hk i j p q;
      }
