-- NO LIST IS LEFT OUT: every list of exported calls, with any arguments and on every lane, has a history, in which each is answered as the contract
-- of its function says.
use mathlib.Core.Path.{◌≡◌, refl, subst}
use mathlib.Core.Bool.{Bool, true, false}
use mathlib.Core.List.{List, [], ◌∷◌, ◌++◌}
use Prim.Native.Nat.{ℕ}
use borrow.Author.Tests.{eqb-true, eqb-false}
use contract.Lifetimes.{Lfts}
use denote.Bor.{Bor}
use denote.Ref.{MutBor, at_last}
use lib.Dec.{eqb}
use lib.ListN.{drop}
use Rattle.lane.specs.declared.Carrier.{Carrier}
use Rattle.lane.specs.declared.Newcomer.{Newcomer}
use Rattle.lane.specs.declared.Road.{Road}
use Rattle.lane.specs.Refusals.{outcome_no}
use Rattle.lane.specs.Layout.{Words, state_of, empty_words}
use Rattle.lane.specs.Calls.{if_accepted, ready_no}
use Rattle.lane.specs.Call.{Call, start_call, load_call, enter_call, leave_call, surface_call, cycle_call, read_call, opening_call, text_call, handover_call, Answer, bare, call_answer}
use Rattle.lane.specs.Given.{wishes_no, wishes_given, GivesWith}
use Rattle.lane.specs.Handover.{take_over_no}
use Rattle.lane.proofs.Answerable.{gives_some, returned, read_exact}
use Rattle.lane.proofs.HandoverLaws.{takes_some}
use Rattle.history.specs.Book.{Book, begun, begun_from}
use Rattle.history.specs.Begins.{Begins}
use Rattle.history.specs.History.{shared, exclusive, Event, calls_in, Throughout, SurfaceChanges, NeverBroken}
use Rattle.history.specs.Openings.{Openings}
use Rattle.history.specs.Handovers.{Handovers}
use Rattle.history.specs.Readings.{Reading}
use Rattle.history.proofs.Answered.{of_lane, of_both, lent, shown, left, gives_as, reads_as, lends, shows, lends_reading, shows_writing, Exact, surface_puts}
use Rattle.console.specs.declared.Stepped.{Stepped}
use Rattle.console.specs.History.{block_run}
use Rattle.console.proofs.Answered.{every_step}
use Rattle.host.specs.declared.answers.Cycled.{Cycled}
use Rattle.host.specs.declared.answers.Entered.{Entered}
use Rattle.host.specs.declared.answers.Listed.{Listed}
use Rattle.host.specs.declared.answers.Opening.{Opening}
use Rattle.host.specs.declared.answers.ReadOut.{ReadOut}
use Rattle.host.specs.Answers.{entered, cycled, read_out, opening, listed, entered_of, cycled_of, read_out_of, opening_of, listed_of}
use Rattle.host.specs.Gaps.{gap_given}
use Rattle.host.proofs.Calls.{HostCall, starts, loads, enters, leaves, surfaces, cycles, reads, finds, lists, hands, steps, events_made, step_answer, Cycles, HostDid, HostRan, nothing_yet, call, all_made, Emptied, TookOver}
use Rattle.host.proofs.History.{host_history, host_history_from_empty, host_surface_changes, host_openings, host_handovers, host_history_from_text, host_readings, host_taken_for_good, host_calls, host_never_broken}
use Rattle.host.proofs.rondavitse_empty.Reads as empty-reads
use Rattle.host.proofs.rondavitse_start.Reads as start-reads
use Rattle.host.proofs.rondavitse_load.Reads as load-reads
use Rattle.host.proofs.rondavitse_enter.Reads as enter-reads
use Rattle.host.proofs.rondavitse_leave.Reads as leave-reads
use Rattle.host.proofs.rondavitse_surface.Reads as surface-reads
use Rattle.host.proofs.rondavitse_cycle.Reads as cycle-reads
use Rattle.host.proofs.rondavitse_read.Reads as read-reads
use Rattle.host.proofs.rondavitse_find_opening.Reads as opening-reads
use Rattle.host.proofs.rondavitse_lane_text.Reads as text-reads
use Rattle.host.proofs.rondavitse_handover.Reads as handover-reads
use Rattle.host.proofs.rondavitse_take_over.Reads as take-over-reads
use Rattle.host.proofs.rondavitse_step.Reads as step-reads

-- ---- every list has a history

-- an answer of an exported call, and the lane that it leaves
record Does (x : HostCall) (l : Words) : Type 0 where
  answer : Answer
  after : Words
  did : HostDid x l answer after

module _ (l : Words) (count : ℕ) (sorts values : List ℕ) where
  abbrev x : Call
  x = cycle_call count (wishes_given count sorts values)

  -- the number of one whose wishes cannot be made
  abbrev unmade_no : ℕ
  unmade_no = if_accepted (ready_no (state_of l) count) (wishes_no count sorts values) (ready_no (state_of l) count)

  cycle_of : (r : Cycled) (m : Words) → GivesWith l count sorts values (cycled r) m → Cycles l count sorts values r m
  cycle_of r m g =
      record {
        κs = ([], ([], ([], tt)));
        lane = lent l;
        of_sorts = shown sorts;
        of_values = shown values;
        before = refl;
        sorts_are = refl;
        values_are = refl;
        says = g;
      }

  cycles_some : (t : Bool) → eqb (wishes_no count sorts values) 0 ≡ t → (r : Cycled) × (m : Words) × Cycles l count sorts values r m
  cycles_some true e =
      let z = eqb-true (wishes_no count sorts values) 0 e in
      let r = returned x (state_of l) in
      (cycled_of r.0, left x l, cycle_of (cycled_of r.0) (left x l) (record { made = λ p. gives_as x l r.1; unmade = λ n. absurd (n z) }))
  cycles_some false e =
      let r : Cycled = record { no = unmade_no; word = 0; replaced = 0; gone = 0 } in
      (r, l, cycle_of r l (record { made = λ p. absurd (eqb-false _ 0 e p); unmade = λ n. (refl, refl) }))

host_does : (x : HostCall) (l : Words) → Does x l
host_does (starts road first) l =
    let x = start_call road first in
    let r = returned x (state_of l) in
    record { answer = bare (outcome_no r.0) []; after = left x l; did = lends (outcome_no r.0, refl, gives_as x l r.1) }
host_does (loads text) l =
    let x = load_call text in
    let r = returned x (state_of l) in
    record { answer = bare (outcome_no r.0) []; after = left x l; did = lends_reading (outcome_no r.0, refl, gives_as x l r.1) }
host_does (enters c) l =
    let x = enter_call c in
    let r = returned x (state_of l) in
    record { answer = entered (entered_of r.0); after = left x l; did = lends (entered_of r.0, refl, gives_as x l r.1) }
host_does (leaves number) l =
    let x = leave_call number in
    let r = returned x (state_of l) in
    record { answer = bare (outcome_no r.0) []; after = left x l; did = lends (outcome_no r.0, refl, gives_as x l r.1) }
host_does (surfaces code) l =
    let x = surface_call code in
    let r = returned x (state_of l) in
    record { answer = bare (outcome_no r.0) []; after = left x l; did = lends (outcome_no r.0, refl, (gives_as x l r.1, surface_puts l code r.1)) }
host_does (cycles count sorts values) l =
    let c = cycles_some l count sorts values (eqb (wishes_no count sorts values) 0) refl in
    record { answer = cycled c.0; after = c.1; did = (c.0, refl, c.2) }
host_does (reads number) l =
    let x = read_call number in
    let r = returned x (state_of l) in
    record {
      answer = read_out (read_out_of r.0);
      after = left x l;
      did = ((gives_some x l).2 refl, shows (read_out_of r.0, refl, (reads_as x l refl r.1, subst (Exact (state_of l) number) r.1 (read_exact (state_of l) number))));
    }
host_does (finds head number n) l =
    let x = opening_call (gap_given head number) n in
    let r = returned x (state_of l) in
    record { answer = opening (opening_of r.0); after = left x l; did = ((gives_some x l).2 refl, shows (opening_of r.0, refl, reads_as x l refl r.1)) }
host_does (lists buffer) l =
    let x = text_call buffer in
    let r = returned x (state_of l) in
    record {
      answer = listed (listed_of r.0) (call_answer x (state_of l)).bytes;
      after = left x l;
      did = ((gives_some x l).2 refl, shows_writing (listed_of r.0, refl, reads_as x l refl r.1));
    }
host_does (hands buffer) l =
    let x = handover_call buffer in
    let r = returned x (state_of l) in
    record {
      answer = listed (listed_of r.0) (call_answer x (state_of l)).bytes;
      after = left x l;
      did = ((gives_some x l).2 refl, shows_writing (listed_of r.0, refl, reads_as x l refl r.1));
    }
host_does (steps input at buffer) l =
    let a = every_step l (drop at input) at buffer in
    record {
      answer = step_answer (block_run buffer (drop at input)) (state_of l);
      after = a.after;
      did = (
        refl,
        record {
          κs = ([], ([], ([], tt)));
          lane = lent l;
          text = shown input;
          out = lent buffer;
          before = refl;
          text_is = refl;
          lent = refl;
          r = a.r;
          left = a.left;
          says = a.gives;
        },
      );
    }

-- a history of these calls
pub record HostHistoryOf (l : Words) (xs : List HostCall) : Type 0 where
  pub events : List Event
  pub last : Words
  pub ran : HostRan l xs events last

pub every_host_list : (l : Words) (xs : List HostCall) → HostHistoryOf l xs
every_host_list l [] = record { events = []; last = l; ran = nothing_yet }
every_host_list l (x ∷ xs) =
    let d = host_does x l in
    let h = every_host_list d.after xs in
    record { events = events_made x d.answer d.after ++ h.events; last = h.last; ran = call d.answer d.did h.ran }

-- for every list of exported calls, however it begins, there is a history: its calls are those that the exported ones are, what is claimed holds
-- throughout, of changes of surface, openings and handovers, and no call gives 21 after a start
pub every_host_list_claimed : (l : Words) (b : Book) → Begins l b → (xs : List HostCall)
    → (h : HostHistoryOf l xs) × (calls_in h.events ≡ all_made xs) × Throughout b h.events × SurfaceChanges l b h.events × Openings l b h.events × Handovers l b h.events × NeverBroken false h.events
every_host_list_claimed l b how xs =
    let h = every_host_list l xs in
    (h, host_calls h.ran, host_history l b how xs h.events h.last h.ran, host_surface_changes l b how xs h.events h.last h.ran, host_openings l b how xs h.events h.last h.ran, host_handovers l b how xs h.events h.last h.ran, host_never_broken h.ran)

-- and from the lane that `rondavitse_empty` gives
pub every_host_list_from_empty : (xs : List HostCall) → Emptied empty_words × ((h : HostHistoryOf empty_words xs) × Throughout (begun empty_words) h.events)
every_host_list_from_empty xs =
    let e : Emptied empty_words = record { κs = ([], tt); lane = lent []; says = refl } in
    let h = every_host_list empty_words xs in
    (e, (h, host_history_from_empty empty_words e xs h.events h.last h.ran))

-- and from a lane that `rondavitse_take_over` gives of a text, which it does of every one: what is said of its number and its lane holds, and where it
-- is accepted no call gives 21
pub every_host_list_from_text : (text : List ℕ) (xs : List HostCall)
    → (l : Words) × TookOver text (take_over_no text) l × Reading text (take_over_no text) l × ((h : HostHistoryOf l xs) × Throughout (begun_from text) h.events × (take_over_no text ≡ 0 → NeverBroken true h.events))
every_host_list_from_text text xs =
    let some = takes_some text in
    let l = some.0 in
    let t : TookOver text (take_over_no text) l = record { κs = ([], ([], tt)); lane = lent []; read = shown text; text_is = refl; says = some.1 } in
    let h = every_host_list l xs in
    (l, t, host_readings text (take_over_no text) l t, (h, host_history_from_text text (take_over_no text) l t xs h.events h.last h.ran, λ z. host_taken_for_good text l (subst (λ (n : ℕ). TookOver text n l) z t) xs h.events h.last h.ran))

-- each exported call may stand in a list, with any arguments
pub each_host_call : (l : Words) (road : Road) (first : ℕ) (table : List ℕ) (c : Carrier) (number code count head : ℕ) (newcomer : Newcomer) (sorts values buffer input : List ℕ) (at : ℕ)
    → HostHistoryOf l (starts road first ∷ loads table ∷ enters c ∷ leaves number ∷ surfaces code ∷ cycles count sorts values ∷ reads number ∷ finds head number newcomer ∷ lists buffer ∷ hands buffer ∷ steps input at buffer ∷ [])
each_host_call l road first table c number code count head newcomer sorts values buffer input at = every_host_list l _

-- ---- whatever a contract says is a step of a list

-- for every reference and every argument a contract asks nothing of its caller, and what it then says of an answer and of the lane left is a
-- step, or for `rondavitse_empty` and `rondavitse_take_over` the beginning of a list; and every step may go before every list
pub each_contract : (κ : Lfts 1) (κs : Lfts 2) (ks : Lfts 3) (l : MutBor Words) (seen : Bor Words) (m : Words) (road : Road) (c : Carrier) (n head : ℕ) (newcomer : Newcomer) (sorts values text : Bor (List ℕ)) (out : MutBor (List ℕ)) (at : ℕ)
    → (empty-reads.Asked κ (l, tt) × (empty-reads.Learnt κ (l, tt) tt (at_last l m, tt) → Emptied m))
    × (start-reads.Asked κ (l, (road, (n, tt))) × ((no : ℕ) → start-reads.Learnt κ (l, (road, (n, tt))) no (at_last l m, (road, (n, tt))) → HostDid (starts road n) l.now (bare no []) m))
    × (load-reads.Asked κs (l, (text, tt)) × ((no : ℕ) → load-reads.Learnt κs (l, (text, tt)) no (at_last l m, (text, tt)) → HostDid (loads text.now) l.now (bare no []) m))
    × (enter-reads.Asked κ (l, (c, tt)) × ((r : Entered) → enter-reads.Learnt κ (l, (c, tt)) r (at_last l m, (c, tt)) → HostDid (enters c) l.now (entered r) m))
    × (leave-reads.Asked κ (l, (n, tt)) × ((no : ℕ) → leave-reads.Learnt κ (l, (n, tt)) no (at_last l m, (n, tt)) → HostDid (leaves n) l.now (bare no []) m))
    × (surface-reads.Asked κ (l, (n, tt)) × ((no : ℕ) → surface-reads.Learnt κ (l, (n, tt)) no (at_last l m, (n, tt)) → HostDid (surfaces n) l.now (bare no []) m))
    × (cycle-reads.Asked ks (l, (n, (sorts, (values, tt)))) × ((r : Cycled) → cycle-reads.Learnt ks (l, (n, (sorts, (values, tt)))) r (at_last l m, (n, (sorts, (values, tt)))) → HostDid (cycles n sorts.now values.now) l.now (cycled r) m))
    × (read-reads.Asked κ (seen, (n, tt)) × ((r : ReadOut) → read-reads.Learnt κ (seen, (n, tt)) r (seen, (n, tt)) → HostDid (reads n) seen.now (read_out r) seen.now))
    × (opening-reads.Asked κ (seen, (head, (n, (newcomer, tt)))) × ((r : Opening) → opening-reads.Learnt κ (seen, (head, (n, (newcomer, tt)))) r (seen, (head, (n, (newcomer, tt)))) → HostDid (finds head n newcomer) seen.now (opening r) seen.now))
    × (text-reads.Asked κs (seen, (out, tt)) × ((r : Listed) (bytes : List ℕ) → text-reads.Learnt κs (seen, (out, tt)) r (seen, (at_last out bytes, tt)) → HostDid (lists out.now) seen.now (listed r bytes) seen.now))
    × (handover-reads.Asked κs (seen, (out, tt)) × ((r : Listed) (bytes : List ℕ) → handover-reads.Learnt κs (seen, (out, tt)) r (seen, (at_last out bytes, tt)) → HostDid (hands out.now) seen.now (listed r bytes) seen.now))
    × (take-over-reads.Asked κs (l, (text, tt)) × ((no : ℕ) → take-over-reads.Learnt κs (l, (text, tt)) no (at_last l m, (text, tt)) → TookOver text.now no m))
    × (step-reads.Asked ks (l, (text, (at, (out, tt)))) × ((r : Stepped) (left : List ℕ) → step-reads.Learnt ks (l, (text, (at, (out, tt)))) r (at_last l m, (text, (at, (at_last out left, tt)))) → HostDid (steps text.now at out.now) l.now (step_answer (block_run out.now (drop at text.now)) (state_of l.now)) m))
    × ((x : HostCall) (a : Answer) (xs : List HostCall) (fs : List Event) (d : Words) → HostDid x l.now a m → HostRan m xs fs d → HostRan l.now (x ∷ xs) (events_made x a m ++ fs) d)
each_contract κ κs ks l seen m road c n head newcomer sorts values text out at = (
  (tt, λ s. record { κs = κ; lane = l; says = s }),
  (tt, λ no s. of_lane exclusive κ l (no, refl, s)),
  (tt, λ no s. of_both exclusive shared κs l text (no, refl, s)),
  (tt, λ r s. of_lane exclusive κ l (r, refl, s)),
  (tt, λ no s. of_lane exclusive κ l (no, refl, s)),
  (tt, λ no s. of_lane exclusive κ l (no, refl, s)),
  (tt, λ r s. (r, refl, record { κs = ks; lane = l; of_sorts = sorts; of_values = values; before = refl; sorts_are = refl; values_are = refl; says = s })),
  (tt, λ r s. (refl, of_lane shared κ seen (r, refl, s))),
  (tt, λ r s. (refl, of_lane shared κ seen (r, refl, s))),
  (tt, λ r bytes s. (refl, of_both shared exclusive κs seen out (r, refl, s))),
  (tt, λ r bytes s. (refl, of_both shared exclusive κs seen out (r, refl, s))),
  (tt, λ no s. record { κs = κs; lane = l; read = text; text_is = refl; says = s }),
  (tt, λ r left s. (refl, record { κs = ks; lane = l; text = text; out = out; before = refl; text_is = refl; lent = refl; r = r; left = left; says = s })),
  λ x a xs fs d h r. call a h r,
)
