-- NO LIST IS LEFT OUT: every list of calls, with any arguments and on every lane, has a history, in which each call is answered as the contract
-- of its function says.
use mathlib.Core.Path.{◌≡◌, refl, sym, ap, ◌∙◌, subst}
use mathlib.Core.Bool.{true, false}
use mathlib.Core.List.{List, [], ◌∷◌}
use Prim.Native.Nat.{ℕ}
use contract.Lifetimes.{Lfts}
use denote.Bor.{Bor}
use denote.Ref.{MutBor, at_last}
use lib.Ieee.Exact.{HasValue}
use lib.ListN.{length}
use Rattle.wish.specs.declared.Wish.{Wish}
use Rattle.lane.specs.declared.Carrier.{Carrier}
use Rattle.std.specs.Prelude.{Option, Result, Ok, Err, IfOk}
use Rattle.wish.specs.declared.Reading.{Reading}
use Rattle.lane.specs.declared.Cycled.{Cycled}
use Rattle.lane.specs.declared.Gap.{Gap}
use Rattle.lane.specs.declared.Newcomer.{Newcomer}
use Rattle.lane.specs.declared.Opening.{Opening}
use Rattle.lane.specs.declared.refusal.Refusal.{Refusal}
use Rattle.lane.specs.Refusals.{outcome_no}
use Rattle.lane.specs.declared.Road.{Road}
use Rattle.lane.specs.State.{State}
use Rattle.lane.specs.Layout.{Words, state_of, with_code}
use Rattle.lane.specs.Calls.{named_carrier}
use Rattle.lane.specs.Call.{Call, start_call, load_call, enter_call, leave_call, surface_call, cycle_call, read_call, opening_call, text_call, handover_call, Answer, meaning, call_answer, Gives, bare, entered, cycled, read_out, opening, listed}
use Rattle.lane.proofs.start.Reads as start-reads
use Rattle.lane.proofs.load.Reads as load-reads
use Rattle.lane.proofs.enter.Reads as enter-reads
use Rattle.lane.proofs.leave.Reads as leave-reads
use Rattle.lane.proofs.surface.Reads as surface-reads
use Rattle.lane.proofs.cycle.Reads as cycle-reads
use Rattle.lane.proofs.read.Reads as read-reads
use Rattle.lane.proofs.find_opening.Reads as opening-reads
use Rattle.lane.proofs.lane_text.Reads as text-reads
use Rattle.lane.proofs.handover.Reads as handover-reads
use Rattle.lane.proofs.take_over.Reads as take-over-reads
use Rattle.lane.proofs.CallLaws.{answer_number}
use Rattle.lane.proofs.Answerable.{gives_some, surface_words_is, returned, read_exact}
use Rattle.history.specs.Book.{begun_from}
use Rattle.history.specs.Begins.{Begins, from_text}
use Rattle.history.specs.Claims.{kind_of}
use Rattle.history.specs.History.{Event, shared, exclusive, OfLane, OfBoth, Did, Ran, none_yet, then, Typed, AllTyped, HistoryOf}

-- ---- every list has a history

-- references to what is lent
abbrev pub lent : {X : Type 0} → X → MutBor X
lent x = record { ref_ptr = (0, 0); ghost_name = 0; now = x }

abbrev pub shown : {X : Type 0} → X → Bor X
shown x = record { ref_ptr = (0, 0); now = x }

-- the lane that it leaves, and its answer in the form of its function
module _ (x : Call) (l : Words) where
  abbrev pub left : Words
  left = (gives_some x l).0

  pub gives_as : {a : Answer} → call_answer x (state_of l) ≡ a → Gives x l a left
  gives_as e = subst (λ (a : Answer). Gives x l a left) e (gives_some x l).1

  -- of one that only reads
  pub reads_as : {a : Answer} → (meaning x).reads ≡ true → call_answer x (state_of l) ≡ a → Gives x l a l
  reads_as {a} r e = subst (λ (m : Words). Gives x l a m) ((gives_some x l).2 r) (gives_as e)

-- said of the lane behind a reference
pub of_lane : {R : Type 0} (behind : R → Words) (κ : Lfts 1) (l : R) {Says : Lfts 1 → R → Type 0} → Says κ l → OfLane behind (behind l) Says
of_lane behind κ l s = record { κs = κ; lane = l; before = refl; says = s }

-- a lane lent to a call, as the contract of its function has it, or shown to one
pub lends : {l : Words} {Says : Lfts 1 → MutBor Words → Type 0} → Says ([], tt) (lent l) → OfLane exclusive l Says
lends {l} s = of_lane exclusive ([], tt) (lent l) s

pub shows : {l : Words} {Says : Lfts 1 → Bor Words → Type 0} → Says ([], tt) (shown l) → OfLane shared l Says
shows {l} s = of_lane shared ([], tt) (shown l) s

-- the same of a lane and bytes
pub of_both : {R S : Type 0} (behind : R → Words) (held : S → List ℕ) (κs : Lfts 2) (l : R) (bytes : S) {Says : Lfts 2 → R → S → Type 0}
    → Says κs l bytes → OfBoth behind held (behind l) (held bytes) Says
of_both behind held κs l bytes s = record { κs = κs; lane = l; beside = bytes; before = refl; lent = refl; says = s }

-- a lane lent with a text shown, and a lane shown with a buffer lent
pub lends_reading : {l : Words} {bytes : List ℕ} {Says : Lfts 2 → MutBor Words → Bor (List ℕ) → Type 0} → Says ([], ([], tt)) (lent l) (shown bytes) → OfBoth exclusive shared l bytes Says
lends_reading {l} {bytes} s = of_both exclusive shared ([], ([], tt)) (lent l) (shown bytes) s

pub shows_writing : {l : Words} {bytes : List ℕ} {Says : Lfts 2 → Bor Words → MutBor (List ℕ) → Type 0} → Says ([], ([], tt)) (shown l) (lent bytes) → OfBoth shared exclusive l bytes Says
shows_writing {l} {bytes} s = of_both shared exclusive ([], ([], tt)) (shown l) (lent bytes) s

-- the two doubles of a read
abbrev pub Exact : (s : State) (number : ℕ) → Answer → Type 0
Exact s number a =
    a.number ≡ 0
    → HasValue a.reading.position false (named_carrier s number).position 2048 × HasValue a.reading.speed false (named_carrier s number).speed 128

exact_reading : (s : State) (number : ℕ) (r : Result Reading Refusal) → Exact s number (read_out r)
    → IfOk r (λ reading. HasValue reading.position false (named_carrier s number).position 2048 × HasValue reading.speed false (named_carrier s number).speed 128)
exact_reading s number (Ok reading) e = e refl
exact_reading s number (Err refusal) e = tt

-- the one word that an accepted change of surface puts
pub surface_puts : (l : Words) (code : ℕ) {no : ℕ} → call_answer (surface_call code) (state_of l) ≡ bare no [] → no ≡ 0 → left (surface_call code) l ≡ with_code code l
surface_puts l code e z =
    surface_words_is l code (sym (answer_number (surface_call code) (state_of l)) ∙ ap (λ (a : Answer). a.number) e ∙ z)

did : (x : Call) (l : Words) → Typed (kind_of x) → Did x l (call_answer x (state_of l)) (left x l)
did (start_call road first) l t = let x = start_call road first in let r = returned x (state_of l) in lends (r.0, r.1, gives_as x l r.1)
did (load_call text) l t =
    let x = load_call text in
    let r = returned x (state_of l) in
    lends_reading (r.0, r.1, gives_as x l r.1)
did (enter_call c) l t = let x = enter_call c in let r = returned x (state_of l) in lends (r.0, r.1, gives_as x l r.1)
did (leave_call number) l t = let x = leave_call number in let r = returned x (state_of l) in lends (r.0, r.1, gives_as x l r.1)
did (surface_call code) l t =
    let x = surface_call code in
    let r = returned x (state_of l) in
    lends (r.0, r.1, (gives_as x l r.1, surface_puts l code r.1))
did (cycle_call count wishes) l t =
    let x = cycle_call count wishes in let r = returned x (state_of l) in (t, lends (r.0, r.1, gives_as x l r.1))
did (read_call number) l t =
    let x = read_call number in
    let r = returned x (state_of l) in
    ((gives_some x l).2 refl, shows (r.0, r.1, (reads_as x l refl r.1, exact_reading (state_of l) number r.0 (subst (Exact (state_of l) number) r.1 (read_exact (state_of l) number)))))
did (opening_call g n) l t =
    let x = opening_call g n in
    let r = returned x (state_of l) in
    ((gives_some x l).2 refl, shows (r.0, r.1, reads_as x l refl r.1))
did (text_call buffer) l t =
    let x = text_call buffer in
    let r = returned x (state_of l) in
    ((gives_some x l).2 refl, shows_writing (r.0, r.1, reads_as x l refl r.1))
did (handover_call buffer) l t =
    let x = handover_call buffer in
    let r = returned x (state_of l) in
    ((gives_some x l).2 refl, shows_writing (r.0, r.1, reads_as x l refl r.1))

pub every_list : (l : Words) (xs : List Call) → AllTyped xs → HistoryOf l xs
every_list l [] t = record { events = []; last = l; calls = refl; ran = none_yet }
every_list l (x ∷ xs) t =
    let h = every_list (left x l) xs t.1 in
    record {
      events = record { call = x; answer = call_answer x (state_of l); left = left x l } ∷ h.events;
      last = h.last;
      calls = ap (λ (ys : List Call). x ∷ ys) h.calls;
      ran = then (did x l t.0) h.ran;
    }

-- ---- whatever a contract says is a step of a history

-- for every reference and every argument a contract asks nothing of its caller, and what it then says of an answer and of the lane left is a
-- step, or for `take_over` the beginning of a list; and every step may go before every list
pub each_contract : (κ : Lfts 1) (κs : Lfts 2) (l : MutBor Words) (seen : Bor Words) (m : Words) (road : Road) (c : Carrier) (n : ℕ) (ws : List Wish) (g : Gap) (newcomer : Newcomer) (text : Bor (List ℕ)) (out : MutBor (List ℕ))
    → (start-reads.Asked κ (l, (road, (n, tt))) × ((r : Result (Unit {0}) Refusal) → start-reads.Learnt κ (l, (road, (n, tt))) r (at_last l m, (road, (n, tt))) → Did (start_call road n) l.now (bare (outcome_no r) []) m))
    × (load-reads.Asked κs (l, (text, tt)) × ((r : Result (Unit {0}) Refusal) → load-reads.Learnt κs (l, (text, tt)) r (at_last l m, (text, tt)) → Did (load_call text.now) l.now (bare (outcome_no r) []) m))
    × (enter-reads.Asked κ (l, (c, tt)) × ((r : Result ℕ Refusal) → enter-reads.Learnt κ (l, (c, tt)) r (at_last l m, (c, tt)) → Did (enter_call c) l.now (entered r) m))
    × (leave-reads.Asked κ (l, (n, tt)) × ((r : Result (Unit {0}) Refusal) → leave-reads.Learnt κ (l, (n, tt)) r (at_last l m, (n, tt)) → Did (leave_call n) l.now (bare (outcome_no r) []) m))
    × (surface-reads.Asked κ (l, (n, tt)) × ((r : Result (Unit {0}) Refusal) → surface-reads.Learnt κ (l, (n, tt)) r (at_last l m, (n, tt)) → Did (surface_call n) l.now (bare (outcome_no r) []) m))
    × (cycle-reads.Asked κ (l, (n, (ws, tt))) × (length ws ≡ 64 → (r : Result Cycled Refusal) → cycle-reads.Learnt κ (l, (n, (ws, tt))) r (at_last l m, (n, (ws, tt))) → Did (cycle_call n ws) l.now (cycled r) m))
    × (read-reads.Asked κ (seen, (n, tt)) × ((r : Result Reading Refusal) → read-reads.Learnt κ (seen, (n, tt)) r (seen, (n, tt)) → Did (read_call n) seen.now (read_out r) seen.now))
    × (opening-reads.Asked κ (seen, (g, (newcomer, tt))) × ((r : Result (Option Opening) Refusal) → opening-reads.Learnt κ (seen, (g, (newcomer, tt))) r (seen, (g, (newcomer, tt))) → Did (opening_call g newcomer) seen.now (opening r) seen.now))
    × (text-reads.Asked κs (seen, (out, tt)) × ((r : Result ℕ Refusal) (bytes : List ℕ) → text-reads.Learnt κs (seen, (out, tt)) r (seen, (at_last out bytes, tt)) → Did (text_call out.now) seen.now (listed r bytes) seen.now))
    × (handover-reads.Asked κs (seen, (out, tt)) × ((r : Result ℕ Refusal) (bytes : List ℕ) → handover-reads.Learnt κs (seen, (out, tt)) r (seen, (at_last out bytes, tt)) → Did (handover_call out.now) seen.now (listed r bytes) seen.now))
    × (take-over-reads.Asked κs (l, (text, tt)) × ((r : Result (Unit {0}) Refusal) → take-over-reads.Learnt κs (l, (text, tt)) r (at_last l m, (text, tt)) → Begins m (begun_from text.now)))
    × ((e : Event) (es : List Event) (d : Words) → Did e.call l.now e.answer e.left → Ran e.left es d → Ran l.now (e ∷ es) d)
each_contract κ κs l seen m road c n ws g newcomer text out = (
  (tt, λ r s. of_lane exclusive κ l (r, refl, s)),
  (tt, λ r s. of_both exclusive shared κs l text (r, refl, s)),
  (tt, λ r s. of_lane exclusive κ l (r, refl, s)),
  (tt, λ r s. of_lane exclusive κ l (r, refl, s)),
  (tt, λ r s. of_lane exclusive κ l (r, refl, s)),
  (tt, λ e r s. (e, of_lane exclusive κ l (r, refl, s))),
  (tt, λ r s. (refl, of_lane shared κ seen (r, refl, s))),
  (tt, λ r s. (refl, of_lane shared κ seen (r, refl, s))),
  (tt, λ r bytes s. (refl, of_both shared exclusive κs seen out (r, refl, s))),
  (tt, λ r bytes s. (refl, of_both shared exclusive κs seen out (r, refl, s))),
  (tt, λ r s. from_text text.now (outcome_no r) m s),
  λ e es d h r. then h r,
)
