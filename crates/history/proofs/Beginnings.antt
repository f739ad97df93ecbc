-- How a lane begins along a history: the first start, what tables are loaded for a start, and who enters where nobody is.
use mathlib.Core.Path.{◌≡◌, refl, sym, ap, ◌∙◌, subst}
use mathlib.Core.Bool.{Bool, true, false, ◌||◌, cond, true≢false}
use mathlib.Core.List.{List, [], ◌∷◌}
use Prim.Native.Nat.{ℕ}
use native.Mathlib.Omega.{arith}
use borrow.Author.Tests.{eqb-true, eqb-false}
use lib.Dec.{eqb}
use lib.ListN.{length}
use Rattle.lane.specs.declared.Carrier.{Carrier}
use Rattle.lane.specs.declared.Row.{Row}
use Rattle.lane.specs.Surface.{unsound}
use Rattle.lane.specs.State.{State}
use Rattle.lane.specs.Layout.{Words, state_of}
use Rattle.lane.specs.Rules.{broken}
use Rattle.lane.specs.Table.{table_text, table_in, bad_table, rows_loaded}
use Rattle.lane.specs.Call.{Call, start_call, load_call, enter_call, call_no, call_state}
use Rattle.lane.proofs.Newcomers.{Newcomer}
use Rattle.lane.proofs.EntryLaws.{entry_refused, alone_enters}
use Rattle.lane.proofs.CallLaws.{refused_changes_nothing, Outcome, kept, never_started_is, accepted_leaves, kept_started, empty_starts, idle_loads, load_finds_nobody, unsound_next_stuck}
use Rattle.lane.proofs.TableLaws.{text_brings, brought_text}
use Rattle.history.specs.Book.{Book}
use Rattle.history.specs.Begins.{Begins}
use Rattle.history.specs.Claims.{Kind, begins, loads, surfaces, runs, other, kind_of}
use Rattle.history.specs.History.{Event, book_on, Ran, Chain, chain_end, chain_next, is_start, is_load, NoneOf, lane_after}
use Rattle.history.specs.Beginnings.{is_accepted, FirstStart, LoadsAnswered, LoadedTextServes, StuckForGood, EntersAlone, Beginnings}
use Rattle.history.proofs.Agreement.{Agree, counted, begins_agree}
use Rattle.history.proofs.History.{ran_gives, agrees_after}
use Rattle.history.proofs.Rows.{Ground, ground_of, ground_after, accepted_ground, chain_loaded_rows_serve}
use Rattle.history.proofs.Events.{split, agree_at, number_at}

-- ---- of one state

-- a carrier in range enters where nobody is, unless 21 stands before it
enters_alone : (s : State) (c : Carrier) → s.count ≡ length s.carriers → s.carriers ≡ [] → Newcomer s.road c → ¬ (call_no (enter_call c) s ≡ 21)
    → call_no (enter_call c) s ≡ 0
enters_alone s c count-is nobody own passes = by_rules (broken s) refl
  where
    by_rules : (t : Bool) → broken s ≡ t → call_no (enter_call c) s ≡ 0
    by_rules true e = absurd (passes ((entry_refused s c).0 e))
    by_rules false e = alone_enters s c e (count-is ∙ ap length nobody) nobody own

-- a started lane whose rows for the next start are unsound
record Stuck (s : State) : Type 0 where
  started : s.started ≡ true
  rows : unsound s.tables.next ≡ true

stuck_number : {x : Call} (k : Kind x) (s : State) → Stuck s → is_start k || is_load k ≡ true → call_no x s ≡ 21
stuck_number (begins road first) s h q = (unsound_next_stuck s h.started h.rows [] road first).1
stuck_number (loads text) s h q = (unsound_next_stuck s h.started h.rows text s.road 0).0
stuck_number (surfaces code) s h q = absurd (true≢false (sym q))
stuck_number (runs count wishes) s h q = absurd (true≢false (sym q))
stuck_number (other x) s h q = absurd (true≢false (sym q))

-- no call brings other rows
next_stays : {x : Call} (k : Kind x) (s : State) → Stuck s → call_no x s ≡ 0 → (ground_after k (ground_of s)).tables.next ≡ s.tables.next
next_stays (begins road first) s h z = refl
next_stays (loads text) s h z = absurd (omega (arith, z, stuck_number (loads text) s h refl))
next_stays (surfaces code) s h z = refl
next_stays (runs count wishes) s h z = refl
next_stays (other x) s h z = refl

still_started : {s t : State} → s.started ≡ true → Outcome s t → t.started ≡ true
still_started {t = t} h (kept k) = kept_started t k
still_started h (never_started_is u p q) = absurd (true≢false (sym h ∙ u))

still_stuck : (x : Call) (s : State) → s.count ≡ length s.carriers → Stuck s → Stuck (call_state x s)
still_stuck x s count-is h = by_test (eqb (call_no x s) 0) refl
  where
    by_test : (t : Bool) → eqb (call_no x s) 0 ≡ t → Stuck (call_state x s)
    by_test true e =
        let z = eqb-true (call_no x s) 0 e in
        let stays = ap (λ (g : Ground). g.tables.next) (accepted_ground x s z) ∙ next_stays (kind_of x) s h z in
        record { started = still_started h.started (accepted_leaves x s count-is z); rows = ap unsound stays ∙ h.rows }
    by_test false e = subst Stuck (sym (refused_changes_nothing x s (eqb-false (call_no x s) 0 e))) h

-- ---- along a list

-- refused calls leave the very lane
unmoved : {l d : Words} {es : List Event} → Chain l es d → NoneOf is_accepted es → d ≡ l
unmoved chain_end n = refl
unmoved (chain_next {e = e} g w r) n =
    let refused = eqb-false e.answer.number 0 n.0 in
    unmoved r n.1 ∙ g.refused (omega (arith, refused))

stuck_after : {l d : Words} {es : List Event} (b : Book) → Agree (state_of l) b → Chain l es d → Stuck (state_of l) → Stuck (state_of d)
stuck_after b a chain_end h = h
stuck_after {l} b a (chain_next {e = e} g w r) h =
    stuck_after _ (agrees_after b a (chain_next g w chain_end)) r
    (subst Stuck (sym g.state) (still_stuck e.call (state_of l) (counted a.good) h))

module _ {l d : Words} {b : Book} {es : List Event} (how : Begins l b) (c : Chain l es d) where
  chain_first_start : FirstStart l es
  chain_first_start before start later road first is from refused is-start =
      number_at c before start later is (start_call road first) is-start
      ∙ ap (λ (m : Words). call_no (start_call road first) (state_of m)) (unmoved (split c before start later is).0 refused ∙ from)
      ∙ empty_starts road first

  chain_loads : LoadsAnswered l b es
  chain_loads before load later text is is-load = (idle, of_rows, of_started)
    where
      s : State
      s = state_of (lane_after l before)

      number : load.answer.number ≡ call_no (load_call text) s
      number = number_at c before load later is (load_call text) is-load

      idle : s.started ≡ false → load.answer.number ≡ cond (bad_table (table_in text)) 31 0
      idle e = number ∙ idle_loads s text e

      of_rows : s.started ≡ false → (rs : List Row) → length rs ≡ 8 → unsound rs ≡ false → text ≡ table_text rs → load.answer.number ≡ 0
      of_rows e rs eight sound made = idle e ∙ rw (made, (text_brings rs eight sound).0) refl

      no_carriers : (cs : List Carrier) → length cs ≡ 0 → cs ≡ []
      no_carriers [] e = refl
      no_carriers (k ∷ cs) e = absurd (omega arith)

      of_started : s.started ≡ true → load.answer.number ≡ 0 → (book_on b before).carriers ≡ []
      of_started e z =
          let a = agree_at c before load later is how in
          let nobody = load_finds_nobody s text e (sym number ∙ z) in
          sym (ap (λ (b : Book). b.carriers) a.same) ∙ no_carriers s.carriers (sym (counted a.good) ∙ nobody)

  chain_loaded_text_serves : LoadedTextServes es
  chain_loaded_text_serves before load between start serving later text road first is is-load loaded no-load is-start started no_start =
      let serves = chain_loaded_rows_serve c before load between start serving later text road first is is-load loaded no-load is-start started no_start in
      let number = number_at c before load _ is (load_call text) is-load in (
        brought_text (state_of (lane_after l before)) text (sym number ∙ loaded) ∙ ap table_text (sym serves),
        λ rs eight sound made. serves ∙ ap (λ (t : List ℕ). rows_loaded (table_in t)) made ∙ (text_brings rs eight sound).1,
      )

  chain_stuck : StuckForGood l es
  chain_stuck started rows before e later is asked =
      let stuck = stuck_after b (begins_agree how) (split c before e later is).0 (record { started = started; rows = rows }) in
      number_at c before e later is e.call refl ∙ stuck_number (kind_of e.call) _ stuck asked

  chain_alone : EntersAlone b es
  chain_alone before enter later k is is-enter passes nobody least most front slow short rate_least rate_most =
      let a = agree_at c before enter later is how in
      let number = number_at c before enter later is (enter_call k) is-enter in
      let own : Newcomer (book_on b before).road k =
      record { number_least = least; number_most_is = most; front_before_end = front; slow = slow; short = short; rate_least = rate_least; rate_most = rate_most } in
      number
      ∙ enters_alone (state_of (lane_after l before)) k (counted a.good) (ap (λ (b : Book). b.carriers) a.same ∙ nobody)
      (subst (λ (b : Book). Newcomer b.road k) (sym a.same) own) (λ z. passes (number ∙ z))

  pub chain_beginnings : Beginnings l b es
  chain_beginnings =
      record { first_start = chain_first_start; loads = chain_loads; served = chain_loaded_text_serves; stuck = chain_stuck; alone = chain_alone }

-- in every list of calls, however it begins
pub beginnings : (l : Words) (b : Book) → Begins l b → (es : List Event) (d : Words) → Ran l es d → Beginnings l b es
beginnings l b how es d r = chain_beginnings how (ran_gives r)
