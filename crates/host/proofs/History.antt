-- The theorem over histories, of the functions that a host calls, text steps among them.
use mathlib.Core.Path.{◌≡◌, refl, ap, ◌∙◌, subst}
use mathlib.Core.Bool.{Bool, true, false, cond}
use mathlib.Core.List.{List, [], ◌∷◌, ◌++◌, map}
use Prim.Native.Nat.{ℕ, ◌≤◌}
use borrow.Author.Tests.{eqb-true, eqb-false}
use lib.Dec.{eqb}
use lib.ListN.{drop}
use Rattle.lane.specs.Limits.{last_cycle}
use Rattle.lane.specs.Layout.{Words, state_of, empty_words}
use Rattle.lane.specs.Call.{Call, load_call, cycle_call, text_call, handover_call, Answer, Gives}
use Rattle.lane.specs.Given.{wishes_no, wishes_given, GivesWith}
use Rattle.lane.specs.Handover.{TakesOver}
use Rattle.lane.proofs.Laws.{wishes_enough}
use Rattle.history.specs.Book.{Book, begun, begun_from}
use Rattle.history.specs.Begins.{Begins, from_empty, from_text}
use Rattle.history.specs.History.{Event, calls_in, book_on, lane_after, Chain, chain_end, chain_next, Throughout, LoadedRowsServe, SurfaceChanges, NeverBroken}
use Rattle.history.specs.Openings.{Openings}
use Rattle.history.specs.Handovers.{text_handed, Handovers}
use Rattle.history.specs.Readings.{Reading}
use Rattle.history.proofs.History.{given_of, read_of, chain_history}
use Rattle.history.proofs.Consequences.{chain_never_broken, chain_taken_for_good, chain_handed_on}
use Rattle.history.proofs.Rows.{chain_loaded_rows_serve}
use Rattle.history.proofs.Changes.{chain_surface_changes}
use Rattle.history.proofs.Openings.{chain_openings}
use Rattle.history.proofs.Handovers.{chain_handovers}
use Rattle.history.proofs.Readings.{readings}
use Rattle.console.specs.Blocks.{Parsed, parsed, malformed}
use Rattle.console.specs.History.{block_run, events_of, calls_with}
use Rattle.console.proofs.Calls.{step_chain}
use Rattle.host.specs.Answers.{cycled}
use Rattle.host.proofs.Calls.{HostCall, starts, loads, enters, leaves, surfaces, cycles, reads, finds, lists, hands, steps, calls_made, events_made, step_answer, HostDid, HostRan, nothing_yet, call, all_made, Emptied, TookOver}

-- a cycle by its wishes: one whose wishes cannot be made is no call
one_cycle : (count : ℕ) (sorts values : List ℕ) {l m d : Words} {a : Answer} {fs : List Event} → HostDid (cycles count sorts values) l a m → Chain m fs d
    → Chain l (events_made (cycles count sorts values) a m ++ fs) d
one_cycle count sorts values {l} {m} {d} {a} {fs} (r, e, c) k = by_test (eqb (wishes_no count sorts values) 0) refl
  where
    told : GivesWith c.lane.now count sorts values (cycled r) m
    told = rw (c.sorts_are, c.values_are) at c.says

    by_test : (t : Bool) → eqb (wishes_no count sorts values) 0 ≡ t
        → Chain l (map (λ (y : Call). record { call = y; answer = a; left = m }) (cond t (cycle_call count (wishes_given count sorts values) ∷ []) []) ++ fs) d
    by_test true p =
        chain_next (given_of c.before e (told.made (eqb-true _ 0 p))) (λ h. wishes_enough count sorts values (eqb-true _ 0 p)) k
    by_test false p = subst (λ (n : Words). Chain n fs d) ((told.unmade (eqb-false _ 0 p)).1 ∙ c.before) k

-- a step's event, as console has it
step_event : (p : Parsed) (l m : Words)
    → events_of p l m ≡ map (λ (y : Call). record { call = y; answer = step_answer p (state_of l); left = m }) (calls_with p (λ used. []))
step_event (parsed x used) l m = refl
step_event malformed l m = refl

one_call : (x : HostCall) {l m d : Words} (a : Answer) {fs : List Event} → HostDid x l a m → Chain m fs d → Chain l (events_made x a m ++ fs) d
one_call (starts road first) a h c = chain_next (given_of h.before h.says.1 h.says.2) tt c
one_call (loads text) {l} {m} a h c =
    let g = given_of h.before h.says.1 h.says.2 in
    chain_next (subst (λ (t : List ℕ). Gives (load_call t) l a m) h.lent g) tt c
one_call (enters c) a h k = chain_next (given_of h.before h.says.1 h.says.2) tt k
one_call (leaves number) a h c = chain_next (given_of h.before h.says.1 h.says.2) tt c
one_call (surfaces code) a h c = chain_next (given_of h.before h.says.1 h.says.2.0) tt c
one_call (cycles count sorts values) a h c = one_cycle count sorts values h c
one_call (reads number) a h c = chain_next (read_of h.0 h.1.before h.1.says.1 h.1.says.2.0) tt c
one_call (finds head number n) a h c = chain_next (read_of h.0 h.1.before h.1.says.1 h.1.says.2) tt c
one_call (lists buffer) {l} {m} a h c =
    let g = read_of h.0 h.1.before h.1.says.1 h.1.says.2 in
    chain_next (subst (λ (b : List ℕ). Gives (text_call b) l a m) h.1.lent g) tt c
one_call (hands buffer) {l} {m} a h c =
    let g = read_of h.0 h.1.before h.1.says.1 h.1.says.2 in
    chain_next (subst (λ (b : List ℕ). Gives (handover_call b) l a m) h.1.lent g) tt c
one_call (steps input at buffer) {l} {m} {d} a {fs} (e, s) c =
    let g = rw (s.before, s.text_is, s.lent) at s.says in
    rw (e, ← step_event (block_run buffer (drop at input)) l m) (step_chain l m d (drop at input) fs g c)

is_chain : {l d : Words} {xs : List HostCall} {es : List Event} → HostRan l xs es d → Chain l es d
is_chain nothing_yet = chain_end
is_chain (call {x = x} a h r) = one_call x a h (is_chain r)

-- demand 3 for every list of exported calls, however it begins
pub host_history : (l : Words) (b : Book) → Begins l b → (xs : List HostCall) (es : List Event) (d : Words) → HostRan l xs es d → Throughout b es
host_history l b how xs es d r = chain_history l b how es d (is_chain r)

-- and from the lane that `rondavitse_empty` gives
pub host_history_from_empty : (l : Words) → Emptied l → (xs : List HostCall) (es : List Event) (d : Words) → HostRan l xs es d → Throughout (begun empty_words) es
host_history_from_empty l e xs es d r = subst (λ (k : Words). Throughout (begun k) es) e.says (host_history l (begun l) (from_empty l (rw e.says refl)) xs es d r)

-- and from one that `rondavitse_take_over` gives, with the book that its text holds
took_over : {text : List ℕ} {number : ℕ} {l : Words} → TookOver text number l → TakesOver text number l
took_over {number = number} {l} t = subst (λ (u : List ℕ). TakesOver u number l) t.text_is t.says

pub host_history_from_text : (text : List ℕ) (number : ℕ) (l : Words) → TookOver text number l → (xs : List HostCall) (es : List Event) (d : Words) → HostRan l xs es d
    → Throughout (begun_from text) es
host_history_from_text text number l t xs es d r = host_history l (begun_from text) (from_text text number l (took_over t)) xs es d r

-- every text has one number there, and an accepted one is that of the lane and of no other
pub host_readings : (text : List ℕ) (number : ℕ) (l : Words) → TookOver text number l → Reading text number l
host_readings text number l t = readings text number l (took_over t)

-- and once one is accepted no call gives 21
pub host_taken_for_good : (text : List ℕ) (l : Words) → TookOver text 0 l → (xs : List HostCall) (es : List Event) (d : Words) → HostRan l xs es d → NeverBroken true es
host_taken_for_good text l t xs es d r = chain_taken_for_good text (took_over t) (is_chain r)

-- rows that `rondavitse_load` brought are in force from the next accepted start to the one after it
pub host_loaded_rows_serve : (l : Words) (xs : List HostCall) (es : List Event) (d : Words) → HostRan l xs es d → LoadedRowsServe es
host_loaded_rows_serve l xs es d r = chain_loaded_rows_serve (is_chain r)

-- `rondavitse_surface`, or a block, changes the surface exactly where the book's carriers are safe on it, and it serves until another one or a start
pub host_surface_changes : (l : Words) (b : Book) → Begins l b → (xs : List HostCall) (es : List Event) (d : Words) → HostRan l xs es d → SurfaceChanges l b es
host_surface_changes l b how xs es d r = chain_surface_changes how (is_chain r)

-- `rondavitse_find_opening` answers exactly the positions at which by the book a newcomer fits, and `rondavitse_enter`, or a block, lets it in there
pub host_openings : (l : Words) (b : Book) → Begins l b → (xs : List HostCall) (es : List Event) (d : Words) → HostRan l xs es d → Openings l b es
host_openings l b how xs es d r = chain_openings how (is_chain r)

-- `rondavitse_handover` writes the lane as it stands, and who takes the text over goes on with the same book
pub host_handovers : (l : Words) (b : Book) → Begins l b → (xs : List HostCall) (es : List Event) (d : Words) → HostRan l xs es d → Handovers l b es
host_handovers l b how xs es d r = chain_handovers how (is_chain r)

-- a list in which a host hands its lane over, and one that another host runs on the lane that `rondavitse_take_over` made of that text: it was accepted,
-- demand 3 holds with the book as it stood at the handover, and no call gives 21
pub host_handed_on : (l : Words) (b : Book) → Begins l b → (xs : List HostCall) (es : List Event) (d : Words) → HostRan l xs es d
    → (before : List Event) (hand : Event) (later : List Event) (buffer : List ℕ) → es ≡ before ++ (hand ∷ later)
    → hand.call ≡ handover_call buffer → hand.answer.number ≡ 0 → (state_of (lane_after l before)).cycle ≤ last_cycle
    → (number : ℕ) (m : Words) → TookOver (text_handed hand) number m → (ys : List HostCall) (fs : List Event) (f : Words) → HostRan m ys fs f
    → (number ≡ 0) × (state_of m ≡ state_of (lane_after l before)) × Throughout (book_on b before) fs × NeverBroken true fs
host_handed_on l b how xs es d r before hand later buffer is is-hand accepted h number m t ys fs f q =
    chain_handed_on how (is_chain r) before hand later buffer is is-hand accepted h number m (took_over t) (is_chain q)

-- the calls of the lane are those that the exported calls are, refused or not
pub host_calls : {l d : Words} {xs : List HostCall} {es : List Event} → HostRan l xs es d → calls_in es ≡ all_made xs
host_calls nothing_yet = refl
host_calls (call {m = m} {x = x} {fs = fs} a h r) = same_calls (calls_made x) a m fs ∙ ap (λ (ys : List Call). calls_made x ++ ys) (host_calls r)
  where
    same_calls : (ys : List Call) (a : Answer) (m : Words) (fs : List Event)
        → calls_in (map (λ (y : Call). record { call = y; answer = a; left = m }) ys ++ fs) ≡ ys ++ calls_in fs
    same_calls [] a m fs = refl
    same_calls (y ∷ ys) a m fs = ap (λ (zs : List Call). y ∷ zs) (same_calls ys a m fs)

-- and once a start was accepted no call gives 21
pub host_never_broken : {l d : Words} {xs : List HostCall} {es : List Event} → HostRan l xs es d → NeverBroken false es
host_never_broken r = chain_never_broken (is_chain r)
