-- The calls that a host makes, and what the contract of each exported function says: each is a call of the lane, but for a cycle whose wishes
-- cannot be made and a step that runs no block, which leave the lane as it was and are none.
use mathlib.Core.Path.{◌≡◌}
use mathlib.Core.Bool.{cond}
use mathlib.Core.List.{List, [], ◌∷◌, ◌++◌, map}
use Prim.Native.Nat.{ℕ}
use contract.Lifetimes.{Lfts}
use denote.Bor.{Bor}
use denote.Ref.{MutBor, at_last}
use lib.Dec.{eqb}
use lib.ListN.{drop}
use Rattle.lane.specs.declared.Carrier.{Carrier}
use Rattle.lane.specs.declared.Newcomer.{Newcomer}
use Rattle.lane.specs.declared.Road.{Road}
use Rattle.lane.specs.State.{State}
use Rattle.lane.specs.Layout.{Words, state_of}
use Rattle.lane.specs.Call.{Call, start_call, load_call, enter_call, leave_call, surface_call, cycle_call, read_call, opening_call, text_call, handover_call, Answer, bare, call_answer}
use Rattle.lane.specs.Given.{wishes_no, wishes_given}
use Rattle.console.specs.declared.Stepped.{Stepped}
use Rattle.console.specs.Blocks.{Parsed, parsed, malformed}
use Rattle.console.specs.History.{block_run, calls_with}
use Rattle.history.specs.History.{Event, shared, exclusive, OfLane, OfBoth}
use Rattle.host.specs.declared.answers.Cycled.{Cycled}
use Rattle.host.specs.declared.answers.Entered.{Entered}
use Rattle.host.specs.declared.answers.Listed.{Listed}
use Rattle.host.specs.declared.answers.Opening.{Opening}
use Rattle.host.specs.declared.answers.ReadOut.{ReadOut}
use Rattle.host.specs.Answers.{entered, cycled, read_out, opening, listed}
use Rattle.host.specs.Gaps.{gap_given}
use Rattle.host.proofs.rondavitse_empty.Reads as empty-reads
use Rattle.host.proofs.rondavitse_start.Reads as start-reads
use Rattle.host.proofs.rondavitse_load.Reads as load-reads
use Rattle.host.proofs.rondavitse_enter.Reads as enter-reads
use Rattle.host.proofs.rondavitse_leave.Reads as leave-reads
use Rattle.host.proofs.rondavitse_surface.Reads as surface-reads
use Rattle.host.proofs.rondavitse_cycle.Reads as cycle-reads
use Rattle.host.proofs.rondavitse_read.Reads as read-reads
use Rattle.host.proofs.rondavitse_find_opening.Reads as opening-reads
use Rattle.host.proofs.rondavitse_lane_text.Reads as text-reads
use Rattle.host.proofs.rondavitse_handover.Reads as handover-reads
use Rattle.host.proofs.rondavitse_take_over.Reads as take-over-reads
use Rattle.host.proofs.rondavitse_step.Reads as step-reads

-- an exported call with its arguments, but for the lane: numbers, and the bytes of what is lent
pub data HostCall : Type 0 where
  starts : Road → (first : ℕ) → HostCall
  loads : (text : List ℕ) → HostCall
  enters : Carrier → HostCall
  leaves : (number : ℕ) → HostCall
  surfaces : (code : ℕ) → HostCall
  cycles : (count : ℕ) → (sorts values : List ℕ) → HostCall
  reads : (number : ℕ) → HostCall
  finds : (head number : ℕ) → Newcomer → HostCall
  lists : (buffer : List ℕ) → HostCall
  hands : (buffer : List ℕ) → HostCall
  steps : (input : List ℕ) → (at : ℕ) → (buffer : List ℕ) → HostCall

-- the calls of the lane that it is, one or none: of a step that of its block, of a cycle one with the wishes that are given, where they can be made
abbrev pub calls_made : HostCall → List Call
calls_made (starts road first) = start_call road first ∷ []
calls_made (loads text) = load_call text ∷ []
calls_made (enters c) = enter_call c ∷ []
calls_made (leaves number) = leave_call number ∷ []
calls_made (surfaces code) = surface_call code ∷ []
calls_made (cycles count sorts values) = cond (eqb (wishes_no count sorts values) 0) (cycle_call count (wishes_given count sorts values) ∷ []) []
calls_made (reads number) = read_call number ∷ []
calls_made (finds head number n) = opening_call (gap_given head number) n ∷ []
calls_made (lists buffer) = text_call buffer ∷ []
calls_made (hands buffer) = handover_call buffer ∷ []
calls_made (steps input at buffer) = calls_with (block_run buffer (drop at input)) (λ used. [])

-- those calls, answered so, with the lane that was left
abbrev pub events_made : HostCall → Answer → (left : Words) → List Event
events_made x a left = map (λ (y : Call). record { call = y; answer = a; left = left }) (calls_made x)

-- what the contract of `rondavitse_cycle` says of a lane and two arrays of numbers behind references
pub record Cycles (l : Words) (count : ℕ) (sorts values : List ℕ) (r : Cycled) (m : Words) : Type 0 where
  pub κs : Lfts 3
  pub lane : MutBor Words
  pub of_sorts : Bor (List ℕ)
  pub of_values : Bor (List ℕ)
  pub before : lane.now ≡ l
  pub sorts_are : of_sorts.now ≡ sorts
  pub values_are : of_values.now ≡ values
  pub says : cycle-reads.Learnt κs (lane, (count, (of_sorts, (of_values, tt)))) r (at_last lane m, (count, (of_sorts, (of_values, tt))))

-- what the contract of `rondavitse_step` says of a lane, an input and a buffer behind references
pub record Steps (l : Words) (input : List ℕ) (at : ℕ) (buffer : List ℕ) (m : Words) : Type 0 where
  pub κs : Lfts 3
  pub lane : MutBor Words
  pub text : Bor (List ℕ)
  pub out : MutBor (List ℕ)
  pub before : lane.now ≡ l
  pub text_is : text.now ≡ input
  pub lent : out.now ≡ buffer
  pub r : Stepped
  pub left : List ℕ
  pub says : step-reads.Learnt κs (lane, (text, (at, (out, tt)))) r (at_last lane m, (text, (at, (at_last out left, tt))))

-- what a step answers to the call of its block, in print: what the definitions give
abbrev pub step_answer : Parsed → State → Answer
step_answer (parsed x used) s = call_answer x s
step_answer malformed s = bare 0 []

-- what the contract of the exported function says of its arguments, its answer and the lane that it left
abbrev pub HostDid : HostCall → Words → Answer → Words → Type 0
HostDid (starts road first) l a m =
    OfLane exclusive l λ κs lane. (no : ℕ) × (a ≡ bare no []) × start-reads.Learnt κs (lane, (road, (first, tt))) no (at_last lane m, (road, (first, tt)))
HostDid (loads text) l a m =
    OfBoth exclusive shared l text λ κs lane t. (no : ℕ) × (a ≡ bare no []) × load-reads.Learnt κs (lane, (t, tt)) no (at_last lane m, (t, tt))
HostDid (enters c) l a m =
    OfLane exclusive l λ κs lane. (r : Entered) × (a ≡ entered r) × enter-reads.Learnt κs (lane, (c, tt)) r (at_last lane m, (c, tt))
HostDid (leaves number) l a m =
    OfLane exclusive l λ κs lane. (no : ℕ) × (a ≡ bare no []) × leave-reads.Learnt κs (lane, (number, tt)) no (at_last lane m, (number, tt))
HostDid (surfaces code) l a m =
    OfLane exclusive l λ κs lane. (no : ℕ) × (a ≡ bare no []) × surface-reads.Learnt κs (lane, (code, tt)) no (at_last lane m, (code, tt))
HostDid (cycles count sorts values) l a m = (r : Cycled) × (a ≡ cycled r) × Cycles l count sorts values r m
HostDid (reads number) l a m =
    (m ≡ l) × OfLane shared l (λ κs lane. (r : ReadOut) × (a ≡ read_out r) × read-reads.Learnt κs (lane, (number, tt)) r (lane, (number, tt)))
HostDid (finds head number n) l a m =
    (m ≡ l) × OfLane shared l (λ κs lane. (r : Opening) × (a ≡ opening r) × opening-reads.Learnt κs (lane, (head, (number, (n, tt)))) r (lane, (head, (number, (n, tt)))))
HostDid (lists buffer) l a m =
    (m ≡ l)
    × OfBoth shared exclusive l buffer (λ κs lane out. (r : Listed) × (a ≡ listed r a.bytes) × text-reads.Learnt κs (lane, (out, tt)) r (lane, (at_last out a.bytes, tt)))
HostDid (hands buffer) l a m =
    (m ≡ l)
    × OfBoth shared exclusive l buffer (λ κs lane out. (r : Listed) × (a ≡ listed r a.bytes) × handover-reads.Learnt κs (lane, (out, tt)) r (lane, (at_last out a.bytes, tt)))
HostDid (steps input at buffer) l a m = (a ≡ step_answer (block_run buffer (drop at input)) (state_of l)) × Steps l input at buffer m

-- a list of exported calls, each on the lane that the one before left and answered as its contract says, and the calls of the lane that
-- they are
pub data HostRan : Words → List HostCall → List Event → Words → Type 0 where
  nothing_yet : {l : Words} → HostRan l [] [] l
  call : {l m d : Words} {x : HostCall} {xs : List HostCall} {fs : List Event} (a : Answer) → HostDid x l a m → HostRan m xs fs d
      → HostRan l (x ∷ xs) (events_made x a m ++ fs) d

-- the calls of the lane that they are
abbrev pub all_made : List HostCall → List Call
all_made [] = []
all_made (x ∷ xs) = calls_made x ++ all_made xs

-- what the contract of `rondavitse_empty` says of the lane with which a list begins
pub record Emptied (l : Words) : Type 0 where
  pub κs : Lfts 1
  pub lane : MutBor Words
  pub says : empty-reads.Learnt κs (lane, tt) tt (at_last lane l, tt)

-- what that of `rondavitse_take_over` says of it, with the text that was read and the number answered
pub record TookOver (text : List ℕ) (number : ℕ) (l : Words) : Type 0 where
  pub κs : Lfts 2
  pub lane : MutBor Words
  pub read : Bor (List ℕ)
  pub text_is : read.now ≡ text
  pub says : take-over-reads.Learnt κs (lane, (read, tt)) number (at_last lane l, (read, tt))
