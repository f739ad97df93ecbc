-- What a reader may take from `history`: at each call of the list, and in plain words; that a lane once started, or taken over, never breaks a rule, and
-- that who takes a handover's text over goes on with its book.
use mathlib.Core.Path.{◌≡◌, refl, sym, ap, ◌∙◌, subst}
use mathlib.Core.Bool.{Bool, true, false, not, ◌&&◌, ◌||◌, cond, true≢false}
use mathlib.Core.List.{List, [], ◌∷◌, ◌++◌}
use Prim.Native.Nat.{ℕ, suc, ◌+◌, ◌-◌, ◌*◌, ◌/◌, ◌%◌, ◌^◌, ◌≤◌, ◌<◌, min}
use native.Mathlib.Nat.{div-one}
use native.Mathlib.Omega.{arith}
use borrow.Author.Tests.{lt-ltb, le-ltb, ltb-true, ltb-false}
use lib.Dec.{eqb, ltb, ltb→lt}
use lib.ListN.{length, get_or}
use lib.IntN.{ℤ, pos, neg_ℤ, ◌+ℤ◌, ◌*ℤ◌}
use lib.Signed.{◌<ℤ◌, <ℤ_irrefl}
use Rattle.headway.specs.Motion.{position_after}
use Rattle.headway.specs.Wishes.{rests_behind}
use Rattle.headway.proofs.Laws.{fraction_form, fraction_at_start, fraction_at_end, braking_is}
use Rattle.wish.specs.Units.{units_of}
use Rattle.wish.specs.Trimming.{trimmed_to}
use Rattle.std.specs.Prelude.{Some}
use Rattle.wish.specs.declared.Wish.{Wish}
use Rattle.wish.specs.declared.Wish.TheVariants.{Hold}
use Rattle.lane.specs.declared.Carrier.{Carrier}
use Rattle.lane.specs.declared.Road.{Road}
use Rattle.lane.specs.Limits.{last_cycle}
use Rattle.lane.specs.Surface.{row_in}
use Rattle.lane.specs.Layout.{Words, state_of}
use Rattle.lane.specs.Calls.{none}
use Rattle.lane.specs.Handover.{TakesOver}
use Rattle.lane.specs.Call.{Call, start_call, cycle_call, read_call, handover_call, Answer, call_no, Kept}
use Rattle.lane.proofs.CallLaws.{answer_number, kept_not_21}
use Rattle.lane.proofs.HandoverLaws.{taken_lane}
use Rattle.history.specs.Book.{Seen, Book, begun_from, trimmed_in, guaranteed_in, driven_in, booked}
use Rattle.history.specs.Begins.{Begins, from_text}
use Rattle.history.specs.Claims.{Kind, begins, loads, surfaces, runs, other, kind_of, carrier_at, place_at, rests_level_or_crossed, Claims}
use Rattle.history.specs.History.{Event, calls_in, seen, book_on, Ran, Typed, AllTyped, starts_lane, lane_after, Chain, chain_end, chain_next, Throughout, SurfaceChanges, NeverBroken}
use Rattle.history.specs.Openings.{Openings}
use Rattle.history.specs.Handovers.{text_handed, Handovers}
use Rattle.history.proofs.Bits.{below_power}
use Rattle.history.proofs.Books.{driven_at, driven_at_least}
use Rattle.history.proofs.Fronts.{front_below}
use Rattle.history.proofs.Lasting.{goes_on}
use Rattle.history.proofs.History.{ran_gives, chain_history, history}
use Rattle.history.proofs.Answered.{every_list}
use Rattle.history.proofs.Changes.{surface_changes}
use Rattle.history.proofs.Openings.{openings}
use Rattle.history.proofs.Handovers.{chain_handovers, handovers}

-- what is claimed throughout is claimed of every call of the list, at the lane and the book that the calls before it have left
pub at_each_call : (b : Book) (before : List Event) (e : Event) (later : List Event) → Throughout b (before ++ (e ∷ later))
    → Claims e.left (seen e) (book_on b before)
at_each_call b [] e later t = t.0
at_each_call b (x ∷ before) e later t = at_each_call (booked (seen x) b) before e later t.1

-- ---- after a call: the lane and the book

-- a carrier with all that it has
pub record SameCarrier (c d : Carrier) : Type 0 where
  pub number : c.number ≡ d.number
  pub position : c.position ≡ d.position
  pub speed : c.speed ≡ d.speed
  pub length : c.length ≡ d.length
  pub rate : c.rate ≡ d.rate

pub as_many : (after : Words) (s : Seen) (b : Book) → Claims after s b → length (state_of after).carriers ≡ length (booked s b).carriers
as_many after s b c = ap length c.carriers

-- the lane has the book's surface, end and limit, and its rows in force and for the next start
pub same_road_and_rows : (after : Words) (s : Seen) (b : Book) → Claims after s b
    → ((state_of after).road ≡ (booked s b).road) × ((state_of after).tables ≡ (booked s b).tables)
same_road_and_rows after s b c = (c.road, c.tables)

pub at_each_place : (after : Words) (s : Seen) (b : Book) → Claims after s b → (i : ℕ)
    → SameCarrier (get_or (state_of after).carriers i none) (carrier_at (booked s b) i)
at_each_place after s b c i =
    record {
      number = ap (λ (cs : List Carrier). (get_or cs i none).number) c.carriers;
      position = ap (λ (cs : List Carrier). (get_or cs i none).position) c.carriers;
      speed = ap (λ (cs : List Carrier). (get_or cs i none).speed) c.carriers;
      length = ap (λ (cs : List Carrier). (get_or cs i none).length) c.carriers;
      rate = ap (λ (cs : List Carrier). (get_or cs i none).rate) c.carriers;
    }

-- no two carriers of the book are level
pub apart_after : (after : Words) (s : Seen) (b : Book) → Claims after s b → (i j : ℕ) → ¬ (i ≡ j)
    → i < length (booked s b).carriers → j < length (booked s b).carriers → ¬ ((carrier_at (booked s b) i).position ≡ (carrier_at (booked s b) j).position)
apart_after after s b c i j d p q e = by_order (ltb i j) refl
  where
    by_order : (t : Bool) → ltb i j ≡ t → ⊥
    by_order true h = omega (arith, e, c.order i j (ltb-true i j h) q)
    by_order false h = omega (arith, e, c.order j i (omega (arith, d, ltb-false i j h)) p)

-- on the lane itself each carrier is below every one ahead,
pub below_after : (after : Words) (s : Seen) (b : Book) → Claims after s b → (i j : ℕ) → i < j → j < length (state_of after).carriers
    → (get_or (state_of after).carriers j none).position < (get_or (state_of after).carriers i none).position
below_after after s b c i j p q = rw c.carriers (omega (arith, c.order i j p (rw c.carriers at q)))

-- and below its tail
pub behind_tail_after : (after : Words) (s : Seen) (b : Book) → Claims after s b → (i j : ℕ) → i < j → j < length (state_of after).carriers
    → (get_or (state_of after).carriers j none).position + (get_or (state_of after).carriers i none).length < (get_or (state_of after).carriers i none).position
behind_tail_after after s b c i j p q = rw c.carriers (c.order i j p (rw c.carriers at q))

-- ---- in a cycle run

-- where the carrier at a place is after the whole cycle
abbrev pub end_of : Book → (word : ℕ) → List Wish → (i : ℕ) → ℕ
end_of b word ws i = position_after (carrier_at b i).position (carrier_at b i).speed (get_or (driven_in b word b.carriers ws) i (pos 0))

pos_below : (x m y : ℕ) → (pos (1 * 1 * x) +ℤ pos (1 * 1 * m)) <ℤ pos (1 * 1 * y) → x + m < y
pos_below x m y h = let k = ltb→lt (1 * 1 * x + 1 * 1 * m) (1 * 1 * y) h.lt in omega arith

-- no two are level at any fraction
pub apart_within : (after : Words) (count word : ℕ) (ws : List Wish) (b : Book)
    → Claims after (record { call = cycle_call count ws; refused = false; word = word }) b
    → (n k i j : ℕ) → 1 ≤ n → k ≤ n → ¬ (i ≡ j) → i < length b.carriers → j < length b.carriers → ¬ (place_at b word ws n k i ≡ place_at b word ws n k j)
apart_within after count word ws b c n k i j hn hk d p q e = by_order (ltb i j) refl
  where
    by_order : (t : Bool) → ltb i j ≡ t → ⊥
    by_order true h = <ℤ_irrefl (rw e at (front_below (place_at b word ws n k j) (place_at b word ws n k i) (n * n * (carrier_at b i).length) (c.cycle_run.0 n k i j hn hk (ltb-true i j h) q)))
    by_order false h = <ℤ_irrefl (rw (sym e) at (front_below (place_at b word ws n k i) (place_at b word ws n k j) (n * n * (carrier_at b j).length) (c.cycle_run.0 n k j i hn hk (omega (arith, d, ltb-false i j h)) p)))

module _ (after : Words) (count word : ℕ) (ws : List Wish) (b : Book)
    (c : Claims after (record { call = cycle_call count ws; refused = false; word = word }) b) where
  -- what the carrier at a place drives
  abbrev pub driven : ℕ → ℤ
  driven i = get_or (driven_in b word b.carriers ws) i (pos 0)

  -- its trimmed wish, or where that is replaced −(smaller of g and v), g being "the smaller of its own rate and the row's b"
  pub drives_as_told : (i : ℕ) → i < length b.carriers → length b.carriers ≤ length ws
      → driven i
      ≡ cond (eqb (word / 2 ^ i % 2) 1) (neg_ℤ (pos (min (min (carrier_at b i).rate (row_in b.tables b.road).guaranteed) (carrier_at b i).speed)))
      (trimmed_in b (carrier_at b i) (get_or ws i Hold))
  drives_as_told i p enough = driven_at b word b.carriers ws i p enough ∙ rw (braking_is (guaranteed_in b (carrier_at b i)) (carrier_at b i).speed) refl

  module _ (i j : ℕ) (p : i < j) (q : j < length b.carriers) where
    -- at every fraction each is below every one ahead, in the document's own form: "n² times the position is n²p + 2vkn + ak²"
    pub below_within : (n k : ℕ) → 1 ≤ n → k ≤ n
        → (pos (n * n * (carrier_at b j).position) +ℤ pos (2 * (carrier_at b j).speed * k * n) +ℤ driven j *ℤ pos (k * k))
        <ℤ (pos (n * n * (carrier_at b i).position) +ℤ pos (2 * (carrier_at b i).speed * k * n) +ℤ driven i *ℤ pos (k * k))
    below_within n k hn hk =
        rw (
          fraction_form n k (carrier_at b j).position (carrier_at b j).speed (driven j),
          fraction_form n k (carrier_at b i).position (carrier_at b i).speed (driven i),
        ) at (front_below (place_at b word ws n k j) (place_at b word ws n k i) (n * n * (carrier_at b i).length) (c.cycle_run.0 n k i j hn hk p q))

    -- and below its tail, which is n² times the length further back
    pub behind_tail_within : (n k : ℕ) → 1 ≤ n → k ≤ n
        → (pos (n * n * (carrier_at b j).position) +ℤ pos (2 * (carrier_at b j).speed * k * n) +ℤ driven j *ℤ pos (k * k) +ℤ pos (n * n * (carrier_at b i).length))
        <ℤ (pos (n * n * (carrier_at b i).position) +ℤ pos (2 * (carrier_at b i).speed * k * n) +ℤ driven i *ℤ pos (k * k))
    behind_tail_within n k hn hk =
        rw (
          fraction_form n k (carrier_at b j).position (carrier_at b j).speed (driven j),
          fraction_form n k (carrier_at b i).position (carrier_at b i).speed (driven i),
        ) at (c.cycle_run.0 n k i j hn hk p q)

    -- so below its tail at the cycle's start and at its end, where those are who are gone after it too, in the very positions
    pub apart_at_start : (carrier_at b j).position + (carrier_at b i).length < (carrier_at b i).position
    apart_at_start =
        pos_below (carrier_at b j).position (carrier_at b i).length (carrier_at b i).position
        (rw (fraction_at_start 1 (carrier_at b j).position, fraction_at_start 1 (carrier_at b i).position) at (c.cycle_run.0 1 0 i j (omega arith) (omega arith) p q))

    pub apart_at_end : end_of b word ws j + (carrier_at b i).length < end_of b word ws i
    apart_at_end =
        pos_below (end_of b word ws j) (carrier_at b i).length (end_of b word ws i)
        (rw (
          fraction_at_end 1 _ _ _ (driven_at_least b word b.carriers ws j),
          fraction_at_end 1 _ _ _ (driven_at_least b word b.carriers ws i),
        ) at (c.cycle_run.0 1 1 i j (omega arith) (omega arith) p q))

  -- a wish is replaced where the carrier would not rest behind the one next ahead, and nowhere else: never that of the foremost carrier,
  pub foremost_stands : eqb (word % 2) 1 ≡ false
  unfolding rests_level_or_crossed
  foremost_stands = ap (λ (w : ℕ). eqb (w % 2) 1) (sym (div-one word)) ∙ c.cycle_run.1 0

  pub replaced_exactly : (i : ℕ) → 0 < i → i < length b.carriers
      → eqb (word / 2 ^ i % 2) 1
      ≡ not (rests_behind (min (carrier_at b i).rate (row_in b.tables b.road).guaranteed) (row_in b.tables b.road).hardest ((carrier_at b i).position + (carrier_at b (i - 1)).length) (carrier_at b i).speed (trimmed_in b (carrier_at b i) (get_or ws i Hold)) (carrier_at b (i - 1)).position (carrier_at b (i - 1)).speed)
  unfolding rests_level_or_crossed
  replaced_exactly i p q = c.cycle_run.1 i ∙ rw (lt-ltb 0 i p, lt-ltb i (length b.carriers) q) refl

  -- nor at a place that holds none
  pub word_within : word < 2 ^ length b.carriers
  unfolding rests_level_or_crossed
  word_within = below_power (length b.carriers) word λ i h. c.cycle_run.1 i ∙ rw (le-ltb i (length b.carriers) h) (neither (ltb 0 i))
    where
      neither : (t : Bool) → t && false ≡ false
      neither true = refl
      neither false = refl

-- a wish is trimmed by the row's B and A and by the limit, whatever the carrier's own rate
pub trimmed_by_the_row : (b : Book) (c : Carrier) (w : Wish) (z : ℤ) → units_of w c.speed ≡ Some z
    → trimmed_in b c w ≡ trimmed_to z c.speed (row_in b.tables b.road).hardest (row_in b.tables b.road).most b.road.limit
unfolding trimmed_in
trimmed_by_the_row b c w z e = rw e refl

-- ---- of lists

-- for every list of calls, however it begins, cycles with any sixty-four wishes among them, there is a history, and what is claimed holds
-- throughout it, and what is said of its changes of surface, its openings and its handovers
pub every_list_claimed : (l : Words) (b : Book) → Begins l b → (xs : List Call)
    → ((i count : ℕ) (ws : List Wish) → get_or xs i (read_call 0) ≡ cycle_call count ws → length ws ≡ 64)
    → (es : List Event) × (d : Words) × Ran l es d × (calls_in es ≡ xs) × Throughout b es × SurfaceChanges l b es × Openings l b es × Handovers l b es
every_list_claimed l b how xs sixty_four_is =
    let h = every_list l xs (all_typed xs sixty_four_is) in
    (h.events, h.last, h.ran, h.calls, history l b how h.events h.last h.ran, surface_changes l b how h.events h.last h.ran, openings l b how h.events h.last h.ran, handovers l b how h.events h.last h.ran)
  where
    typed : {x : Call} (k : Kind x) → ((count : ℕ) (ws : List Wish) → x ≡ cycle_call count ws → length ws ≡ 64) → Typed k
    typed (begins road first) h = tt
    typed (loads text) h = tt
    typed (surfaces code) h = tt
    typed (runs count ws) h = h count ws refl
    typed (other x) h = tt

    all_typed : (ys : List Call) → ((i count : ℕ) (ws : List Wish) → get_or ys i (read_call 0) ≡ cycle_call count ws → length ws ≡ 64) → AllTyped ys
    all_typed [] h = tt
    all_typed (x ∷ ys) h = (typed (kind_of x) (h 0), all_typed ys (λ i. h (suc i)))

lasting : {l d : Words} {es : List Event} (started : Bool) → (started ≡ true → Kept (state_of l)) → Chain l es d → NeverBroken started es
lasting started h chain_end = tt
lasting {l} started h (chain_next {e = e} g w r) =
    let number : e.answer.number ≡ call_no e.call (state_of l) = ap (λ (a : Answer). a.number) g.answer ∙ answer_number e.call (state_of l) in (
      λ q z. kept_not_21 e.call (state_of l) (h q) (sym number ∙ z),
      lasting (started || starts_lane e)
          (λ q. subst Kept (sym g.state) (goes_on e.call (state_of l) started h (rw number at q))) r,
    )

-- from any lane at all: once a start was accepted no call gives 21
pub chain_never_broken : {l d : Words} {es : List Event} → Chain l es d → NeverBroken false es
chain_never_broken c = lasting false (λ q. absurd (true≢false (sym q))) c

-- from a lane that breaks no rule: no call gives 21
pub chain_kept_never_broken : {l d : Words} {es : List Event} → Kept (state_of l) → Chain l es d → NeverBroken true es
chain_kept_never_broken k c = lasting true (λ q. k) c

pub never_broken : (l : Words) (es : List Event) (d : Words) → Ran l es d → NeverBroken false es
never_broken l es d r = chain_never_broken (ran_gives r)

-- a start accepted, then any list, then a call: it does not give 21
pub started_for_good : (l d : Words) (before : List Event) (e : Event) (between : List Event) (f : Event) (after : List Event)
    → Ran l (before ++ (e ∷ (between ++ (f ∷ after)))) d → (road : Road) (first : ℕ) → e.call ≡ start_call road first → e.answer.number ≡ 0
    → ¬ (f.answer.number ≡ 21)
started_for_good l d before e between f after r road first is-start accepted =
    let starts : starts_lane e ≡ true = rw (is-start, accepted) refl in
    let x = later false before _ (never_broken l _ d r) in
    let y = later (x.0 || starts_lane e) between _ x.2.1 in
    y.2.0 (y.1 (rw starts (either x.0)))
  where
    either : (t : Bool) → t || true ≡ true
    either true = refl
    either false = refl

    -- what is known of a list is known of a part of it that others come before
    later : (started : Bool) (first rest : List Event) → NeverBroken started (first ++ rest)
        → (still : Bool) × (started ≡ true → still ≡ true) × NeverBroken still rest
    later started [] rest n = (started, λ q. q, n)
    later started (x ∷ first) rest n =
        let k = later (started || starts_lane x) first rest n.1 in
        (k.0, λ q. k.1 (rw q refl), k.2)

-- ---- of a lane that is handed on

-- once a text is taken over no call gives 21
pub chain_taken_for_good : {l d : Words} {es : List Event} (text : List ℕ) → TakesOver text 0 l → Chain l es d → NeverBroken true es
chain_taken_for_good {l} text g c = chain_kept_never_broken ((taken_lane text 0 l g).0 refl) c

pub taken_for_good : (text : List ℕ) (l : Words) → TakesOver text 0 l → (es : List Event) (d : Words) → Ran l es d → NeverBroken true es
taken_for_good text l g es d r = chain_taken_for_good text g (ran_gives r)

-- a list in which the lane is handed over, and one that another host runs on the lane that it took over from that text: it was accepted, demand 3 holds
-- there with the book as it stood at the handover, and no call gives 21
module _ {l d : Words} {b : Book} {es : List Event} (how : Begins l b) (c : Chain l es d) (before : List Event) (hand : Event) (later : List Event) (buffer : List ℕ)
    (is : es ≡ before ++ (hand ∷ later)) (is-hand : hand.call ≡ handover_call buffer) (accepted : hand.answer.number ≡ 0)
    (h : (state_of (lane_after l before)).cycle ≤ last_cycle) where
  pub chain_handed_on : (number : ℕ) (m : Words) → TakesOver (text_handed hand) number m → {fs : List Event} {f : Words} → Chain m fs f
      → (number ≡ 0) × (state_of m ≡ state_of (lane_after l before)) × Throughout (book_on b before) fs × NeverBroken true fs
  chain_handed_on number m g {fs} {f} q =
      let text = text_handed hand in
      let told = (chain_handovers how c).3 before hand later buffer is is-hand accepted h in
      let zero = g.number_is ∙ told.0 in (
        zero,
        g.state ∙ told.1,
        subst (λ (k : Book). Throughout k fs) told.2 (chain_history m (begun_from text) (from_text text number m g) fs f q),
        chain_taken_for_good text (subst (λ (n : ℕ). TakesOver text n m) zero g) q,
      )

pub handed_on : (l : Words) (b : Book) → Begins l b → (es : List Event) (d : Words) → Ran l es d
    → (before : List Event) (hand : Event) (later : List Event) (buffer : List ℕ) → es ≡ before ++ (hand ∷ later)
    → hand.call ≡ handover_call buffer → hand.answer.number ≡ 0 → (state_of (lane_after l before)).cycle ≤ last_cycle
    → (number : ℕ) (m : Words) → TakesOver (text_handed hand) number m → (fs : List Event) (f : Words) → Ran m fs f
    → (number ≡ 0) × (state_of m ≡ state_of (lane_after l before)) × Throughout (book_on b before) fs × NeverBroken true fs
handed_on l b how es d r before hand later buffer is is-hand accepted h number m g fs f q =
    chain_handed_on how (ran_gives r) before hand later buffer is is-hand accepted h number m g (ran_gives q)
