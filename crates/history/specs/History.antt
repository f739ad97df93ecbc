-- A history: calls with what they answered and the lane that each left, each on the lane that the one before left, and demand 3 along it.
use Rattle.std.specs.Prelude.{ℕ, suc, ◌≤◌, ◌<◌, ◌≡◌, Bool, true, false, not, ◌&&◌, ◌||◌, List, [], ◌∷◌, ◌++◌, map, eqb, length, Option, Result}
use contract.Lifetimes.{Lfts}
use denote.Bor.{Bor}
use denote.Ref.{MutBor, at_last}
use Rattle.wish.specs.declared.Reading.{Reading}
use Rattle.lane.specs.declared.Cycled.{Cycled}
use Rattle.lane.specs.declared.Opening.{Opening}
use Rattle.lane.specs.declared.Road.{Road}
use Rattle.lane.specs.declared.refusal.Refusal.{Refusal}
use Rattle.lane.specs.Refusals.{outcome_no}
use Rattle.lane.specs.Limits.{last_surface}
use Rattle.lane.specs.Surface.{row_of, row_in}
use Rattle.lane.specs.Layout.{Words, state_of}
use Rattle.lane.specs.Table.{table_in, rows_loaded}
use Rattle.lane.specs.Call.{Call, start_call, load_call, enter_call, leave_call, surface_call, cycle_call, read_call, opening_call, text_call, handover_call, Answer, bare, entered, cycled, read_out, opening, listed, Gives}
use Rattle.lane.proofs.start.Reads as start-reads
use Rattle.lane.proofs.load.Reads as load-reads
use Rattle.lane.proofs.enter.Reads as enter-reads
use Rattle.lane.proofs.leave.Reads as leave-reads
use Rattle.lane.proofs.surface.Reads as surface-reads
use Rattle.lane.proofs.cycle.Reads as cycle-reads
use Rattle.lane.proofs.read.Reads as read-reads
use Rattle.lane.proofs.find_opening.Reads as opening-reads
use Rattle.lane.proofs.lane_text.Reads as text-reads
use Rattle.lane.proofs.handover.Reads as handover-reads
use Rattle.history.specs.Book.{Seen, Book, booked}
use Rattle.history.specs.Claims.{Kind, begins, loads, surfaces, runs, other, kind_of, carrier_at, SafeOn, Claims}

-- a call, what it answered and the lane that it left
pub record Event : Type 0 where
  pub call : Call
  pub answer : Answer
  pub left : Words

-- the calls of a list
abbrev pub calls_in : List Event → List Call
calls_in es = map (λ (e : Event). e.call) es

-- what the book sees of it
abbrev pub seen : Event → Seen
seen e = record { call = e.call; refused = not (eqb e.answer.number 0); word = e.answer.word }

-- the book after these calls
abbrev pub book_on : Book → List Event → Book
book_on b [] = b
book_on b (e ∷ es) = book_on (booked (seen e) b) es

-- ---- what a contract says of a call

-- what stands behind a reference: a shared one, and one by which it may change
abbrev pub shared : {X : Type 0} → Bor X → X
shared r = r.now

abbrev pub exclusive : {X : Type 0} → MutBor X → X
exclusive r = r.now

-- a reference to a lane with these words behind it before the call, and what is said of it
pub record OfLane {R : Type 0} (behind : R → Words) (l : Words) (Says : Lfts 1 → R → Type 0) : Type 0 where
  pub κs : Lfts 1
  pub lane : R
  pub before : behind lane ≡ l
  pub says : Says κs lane

-- one to a lane and one to the bytes of a buffer or a text
pub record OfBoth {R S : Type 0} (behind : R → Words) (held : S → List ℕ) (l : Words) (bytes : List ℕ) (Says : Lfts 2 → R → S → Type 0) : Type 0 where
  pub κs : Lfts 2
  pub lane : R
  pub beside : S
  pub before : behind lane ≡ l
  pub lent : held beside ≡ bytes
  pub says : Says κs lane beside

-- what the contract of the function called says of its arguments, its answer and the lane that it left; the wishes are an array of 64
abbrev pub Did : Call → Words → Answer → Words → Type 0
Did (start_call road first) l a m =
    OfLane exclusive l λ κs lane. (r : Result (Unit {0}) Refusal) × (a ≡ bare (outcome_no r) []) × start-reads.Learnt κs (lane, (road, (first, tt))) r (at_last lane m, (road, (first, tt)))
Did (load_call text) l a m =
    OfBoth exclusive shared l text λ κs lane t. (r : Result (Unit {0}) Refusal) × (a ≡ bare (outcome_no r) []) × load-reads.Learnt κs (lane, (t, tt)) r (at_last lane m, (t, tt))
Did (enter_call c) l a m =
    OfLane exclusive l λ κs lane. (r : Result ℕ Refusal) × (a ≡ entered r) × enter-reads.Learnt κs (lane, (c, tt)) r (at_last lane m, (c, tt))
Did (leave_call number) l a m =
    OfLane exclusive l λ κs lane. (r : Result (Unit {0}) Refusal) × (a ≡ bare (outcome_no r) []) × leave-reads.Learnt κs (lane, (number, tt)) r (at_last lane m, (number, tt))
Did (surface_call code) l a m =
    OfLane exclusive l λ κs lane. (r : Result (Unit {0}) Refusal) × (a ≡ bare (outcome_no r) []) × surface-reads.Learnt κs (lane, (code, tt)) r (at_last lane m, (code, tt))
Did (cycle_call count wishes) l a m =
    (length wishes ≡ 64)
    × OfLane exclusive l (λ κs lane. (r : Result Cycled Refusal) × (a ≡ cycled r) × cycle-reads.Learnt κs (lane, (count, (wishes, tt))) r (at_last lane m, (count, (wishes, tt))))
Did (read_call number) l a m =
    (m ≡ l) × OfLane shared l (λ κs lane. (r : Result Reading Refusal) × (a ≡ read_out r) × read-reads.Learnt κs (lane, (number, tt)) r (lane, (number, tt)))
Did (opening_call g n) l a m =
    (m ≡ l) × OfLane shared l (λ κs lane. (r : Result (Option Opening) Refusal) × (a ≡ opening r) × opening-reads.Learnt κs (lane, (g, (n, tt))) r (lane, (g, (n, tt))))
Did (text_call buffer) l a m =
    (m ≡ l)
    × OfBoth shared exclusive l buffer (λ κs lane out. (r : Result ℕ Refusal) × (a ≡ listed r a.bytes) × text-reads.Learnt κs (lane, (out, tt)) r (lane, (at_last out a.bytes, tt)))
Did (handover_call buffer) l a m =
    (m ≡ l)
    × OfBoth shared exclusive l buffer (λ κs lane out. (r : Result ℕ Refusal) × (a ≡ listed r a.bytes) × handover-reads.Learnt κs (lane, (out, tt)) r (lane, (at_last out a.bytes, tt)))

-- a list of calls, each on the lane that the one before left, each answered as its contract says
pub data Ran : Words → List Event → Words → Type 0 where
  none_yet : {l : Words} → Ran l [] l
  then : {l d : Words} {e : Event} {es : List Event} → Did e.call l e.answer e.left → Ran e.left es d → Ran l (e ∷ es) d

-- the arguments that the functions' types hold: sixty-four wishes, and any numbers
abbrev pub Typed : {x : Call} → Kind x → Type 0
Typed (begins road first) = Unit {0}
Typed (loads text) = Unit {0}
Typed (surfaces code) = Unit {0}
Typed (runs count wishes) = length wishes ≡ 64
Typed (other x) = Unit {0}

abbrev pub AllTyped : List Call → Type 0
AllTyped [] = Unit {0}
AllTyped (x ∷ xs) = Typed (kind_of x) × AllTyped xs

-- a history of these calls
pub record HistoryOf (l : Words) (xs : List Call) : Type 0 where
  pub events : List Event
  pub last : Words
  pub calls : calls_in events ≡ xs
  pub ran : Ran l events last

-- ---- the same by what a call gives, whichever function makes it

-- a cycle has as many wishes as it counts
abbrev pub Wished : {x : Call} → Kind x → Type 0
Wished (begins road first) = Unit {0}
Wished (loads text) = Unit {0}
Wished (surfaces code) = Unit {0}
Wished (runs count wishes) = count ≤ 64 → count ≤ length wishes
Wished (other x) = Unit {0}

pub data Chain : Words → List Event → Words → Type 0 where
  chain_end : {l : Words} → Chain l [] l
  chain_next : {l d : Words} {e : Event} {es : List Event} → Gives e.call l e.answer e.left → Wished (kind_of e.call) → Chain e.left es d
      → Chain l (e ∷ es) d

-- ---- what holds along it

-- demand 3 after each call, from the book b on
abbrev pub Throughout : Book → List Event → Type 0
Throughout b [] = Unit {0}
Throughout b (e ∷ es) = Claims e.left (seen e) b × Throughout (booked (seen e) b) es

-- the call is a start
abbrev pub is_start : {x : Call} → Kind x → Bool
is_start (begins road first) = true
is_start (loads text) = false
is_start (surfaces code) = false
is_start (runs count wishes) = false
is_start (other x) = false

-- the call is a load
abbrev pub is_load : {x : Call} → Kind x → Bool
is_load (begins road first) = false
is_load (loads text) = true
is_load (surfaces code) = false
is_load (runs count wishes) = false
is_load (other x) = false

-- the call is a change of surface
abbrev pub is_surface : {x : Call} → Kind x → Bool
is_surface (begins road first) = false
is_surface (loads text) = false
is_surface (surfaces code) = true
is_surface (runs count wishes) = false
is_surface (other x) = false

-- an accepted start
abbrev pub starts_lane : Event → Bool
starts_lane e = is_start (kind_of e.call) && eqb e.answer.number 0

-- an accepted load
abbrev pub loads_rows : Event → Bool
loads_rows e = is_load (kind_of e.call) && eqb e.answer.number 0

-- an accepted start or change of surface: one that puts a surface code
abbrev pub puts_surface : Event → Bool
puts_surface e = (is_start (kind_of e.call) || is_surface (kind_of e.call)) && eqb e.answer.number 0

-- none of these
abbrev pub NoneOf : (Event → Bool) → List Event → Type 0
NoneOf f [] = Unit {0}
NoneOf f (e ∷ es) = (f e ≡ false) × NoneOf f es

-- the lane after a list
abbrev pub lane_after : Words → List Event → Words
lane_after l [] = l
lane_after l (e ∷ es) = lane_after e.left es

-- document 02, T-01: "From the next start on, the codes mean the loaded rows": after an accepted load, a list with no other, an accepted start
-- and a list with no other, the rows in force are those of the load's text
abbrev pub LoadedRowsServe : List Event → Type 0
LoadedRowsServe es =
    (before : List Event) (load : Event) (between : List Event) (start : Event) (serving later : List Event) (text : List ℕ) (road : Road) (first : ℕ)
    → es ≡ before ++ (load ∷ (between ++ (start ∷ (serving ++ later))))
    → load.call ≡ load_call text → load.answer.number ≡ 0 → NoneOf loads_rows between
    → start.call ≡ start_call road first → start.answer.number ≡ 0 → NoneOf starts_lane serving
    → (state_of (lane_after start.left serving)).tables.in_force ≡ rows_loaded (table_in text)

-- T-05: "The change is accepted if the whole lane is safe under the new row and refused otherwise.", and "34 .., after 21 and 1": on a lane that 21
-- passes a change to a code above 7 gives 1, to another 0 where the book's carriers are all safe, 34 where one is not; and so 0 for the code that the
-- book has already, and 0 where nobody behind the foremost moves
abbrev pub SurfaceExactly : Book → List Event → Type 0
SurfaceExactly at_first es =
    (before : List Event) (change : Event) (later : List Event) (code : ℕ)
    → es ≡ before ++ (change ∷ later)
    → change.call ≡ surface_call code → ¬ (change.answer.number ≡ 21)
    → let b = book_on at_first before in
    (last_surface < code → change.answer.number ≡ 1)
    × (code ≤ last_surface → ((i : ℕ) → suc i < length b.carriers → SafeOn b code i) → change.answer.number ≡ 0)
    × (code ≤ last_surface → (i : ℕ) → suc i < length b.carriers → ¬ (SafeOn b code i) → change.answer.number ≡ 34)
    × (code ≡ b.road.surface → change.answer.number ≡ 0)
    × (code ≤ last_surface → ((i : ℕ) → suc i < length b.carriers → (carrier_at b (suc i)).speed ≡ 0) → change.answer.number ≡ 0)

-- T-05, "to change the surface code between cycles": after an accepted change and a list in which no call puts another, the lane has its code, and
-- the row in force is that of the code among the rows that were in force before it
abbrev pub SurfaceServes : Words → List Event → Type 0
SurfaceServes l es =
    (before : List Event) (change : Event) (serving later : List Event) (code : ℕ)
    → es ≡ before ++ (change ∷ (serving ++ later))
    → change.call ≡ surface_call code → change.answer.number ≡ 0 → NoneOf puts_surface serving
    → let s = state_of (lane_after change.left serving) in
    (s.road.surface ≡ code) × (row_in s.tables s.road ≡ row_of (state_of (lane_after l before)).tables.in_force code)

-- both of a list
abbrev pub SurfaceChanges : Words → Book → List Event → Type 0
SurfaceChanges l b es = SurfaceExactly b es × SurfaceServes l es

-- "21 never started, or the lane handed in breaks a rule of this paper": once a start was accepted, no call gives it
abbrev pub NeverBroken : (started : Bool) → List Event → Type 0
NeverBroken started [] = Unit {0}
NeverBroken started (e ∷ es) = (started ≡ true → ¬ (e.answer.number ≡ 21)) × NeverBroken (started || starts_lane e) es
