-- Demand 3, over the road book: what holds after each call of a history, and in each cycle run.
use Rattle.std.specs.Prelude.{ℕ, suc, ◌+◌, ◌-◌, ◌*◌, ◌/◌, ◌%◌, ◌^◌, ◌≤◌, ◌<◌, min, ◌≡◌, Bool, true, false, not, ◌&&◌, List, eqb, ltb, ℤ, pos, ◌+ℤ◌, length, get_or, ◌<ℤ◌}
use Rattle.headway.specs.Motion.{position_at}
use Rattle.headway.specs.Stopping.{stopping_distance}
use Rattle.headway.specs.Wishes.{rests_behind}
use Rattle.wish.specs.declared.Wish.{Wish}
use Rattle.wish.specs.declared.Wish.TheVariants.{Hold}
use Rattle.lane.specs.declared.Carrier.{Carrier}
use Rattle.lane.specs.declared.Road.{Road}
use Rattle.lane.specs.Surface.{row_of, row_in}
use Rattle.lane.specs.Layout.{Words, state_of}
use Rattle.lane.specs.Calls.{none}
use Rattle.lane.specs.Call.{Call, start_call, load_call, enter_call, leave_call, surface_call, cycle_call, read_call, opening_call, text_call, handover_call}
use Rattle.history.specs.Book.{Seen, Book, trimmed_in, guaranteed_in, driven_in, booked}

-- the carrier at a place: "Ahead means nearer the book's front; next ahead, the place just before."
abbrev pub carrier_at : Book → ℕ → Carrier
carrier_at b i = get_or b.carriers i none

-- "in the book each carrier is below every one ahead after each call"; document 02, T-03: "now has fronts behind tails". A front is below the tail
-- of one ahead if, with the length of that one added to it, it is below its front: no tail is reckoned, since one "may lie before the lane's start".
abbrev pub InOrder : Book → Type 0
InOrder b = (i j : ℕ) → i < j → j < length b.carriers → (carrier_at b j).position + (carrier_at b i).length < (carrier_at b i).position

-- n² times the position of the carrier at place i, which is its front, after k/n of the cycle: "At k/n it is where Units puts it."
abbrev pub place_at : Book → (word : ℕ) → List Wish → (n k i : ℕ) → ℤ
place_at b word ws n k i =
    position_at n k (carrier_at b i).position (carrier_at b i).speed (get_or (driven_in b word b.carriers ws) i (pos 0))

-- "and at every fraction k/n of every cycle run"; "The fractions of a cycle take in those carriers that are gone after it, up to k = n."; T-03:
-- n² times a front below n² times the tail of every one ahead
abbrev pub NeverTouching : Book → (word : ℕ) → List Wish → Type 0
NeverTouching b word ws =
    (n k i j : ℕ) → 1 ≤ n → k ≤ n → i < j → j < length b.carriers
    → (place_at b word ws n k j +ℤ pos (n * n * (carrier_at b i).length)) <ℤ place_at b word ws n k i

-- "Resting level or crossed means, with w the trimmed wish and S the sum of the positions gained until rest, that
-- p + 2v + w + S(b, v + w) isn't below p of the carrier next ahead + S(B, its v), with p and v as in the book at that cycle's start."; T-03: "a
-- replaced wish is one that would have rested level with or past the tail of the one ahead", whose length is added on this side;
-- T-06: b is the carrier's guaranteed braking, and B the row's. A carrier with none ahead, and a place with no carrier, has no such case.
unfoldable pub rests_level_or_crossed : Book → List Wish → ℕ → Bool
rests_level_or_crossed b ws i =
    let c = carrier_at b i in
    let ahead = carrier_at b (i - 1) in
    ltb 0 i
    && (ltb i (length b.carriers)
    && not (rests_behind (guaranteed_in b c) (row_in b.tables b.road).hardest (c.position + ahead.length) c.speed (trimmed_in b c (get_or ws i Hold)) ahead.position ahead.speed))

-- "Replaced means that the wish's bit is set."
abbrev pub is_replaced : (word i : ℕ) → Bool
is_replaced word i = eqb (word / 2 ^ i % 2) 1

-- "a wish is replaced exactly when 01's 'resting level or crossed' holds"
abbrev pub ReplacedWhenCrossing : Book → (word : ℕ) → List Wish → Type 0
ReplacedWhenCrossing b word ws = (i : ℕ) → is_replaced word i ≡ rests_level_or_crossed b ws i

-- document 02, T-05, "safe under the new row": in the book the carrier behind place i is safe behind the one there by the row of a code among those
-- in force; T-06: with "the smaller of its own rate and the row's b" of the one behind, and the row's B of the one ahead
abbrev pub SafeOn : Book → (code i : ℕ) → Type 0
SafeOn b code i =
    let r = row_of b.tables.in_force code in
    let a = carrier_at b i in
    let c = carrier_at b (suc i) in
    (c.position + a.length < a.position)
    × (c.position + a.length + stopping_distance (min c.rate r.guaranteed) c.speed < a.position + stopping_distance r.hardest a.speed)

-- what kind a call is of: a start, a load, a change of surface, a cycle, or another
pub data Kind : Call → Type 0 where
  begins : (road : Road) → (first : ℕ) → Kind (start_call road first)
  loads : (text : List ℕ) → Kind (load_call text)
  surfaces : (code : ℕ) → Kind (surface_call code)
  runs : (count : ℕ) → (wishes : List Wish) → Kind (cycle_call count wishes)
  other : (x : Call) → Kind x

abbrev pub kind_of : (x : Call) → Kind x
kind_of (start_call road first) = begins road first
kind_of (load_call text) = loads text
kind_of (enter_call c) = other (enter_call c)
kind_of (leave_call number) = other (leave_call number)
kind_of (surface_call code) = surfaces code
kind_of (cycle_call count ws) = runs count ws
kind_of (read_call number) = other (read_call number)
kind_of (opening_call g n) = other (opening_call g n)
kind_of (text_call buffer) = other (text_call buffer)
kind_of (handover_call buffer) = other (handover_call buffer)

-- "A cycle run is one not refused." What is claimed of it, with the book as at its start
abbrev pub CycleClaims : {x : Call} → Kind x → (refused : Bool) → (word : ℕ) → Book → Type 0
CycleClaims (begins road first) refused word b = Unit {0}
CycleClaims (loads text) refused word b = Unit {0}
CycleClaims (surfaces code) refused word b = Unit {0}
CycleClaims (runs count ws) true word b = Unit {0}
CycleClaims (runs count ws) false word b = NeverTouching b word ws × ReplacedWhenCrossing b word ws
CycleClaims (other x) refused word b = Unit {0}

-- what is claimed of a call that left the lane `after`, with the book as it was before
pub record Claims (after : Words) (s : Seen) (b : Book) : Type 0 where
  -- "the lane's carriers are those of 01's road book after each call"
  pub carriers : (state_of after).carriers ≡ (booked s b).carriers
  -- and so is what else the book holds: surface, end and limit, and by document 02, T-01, the surface rows
  pub road : (state_of after).road ≡ (booked s b).road
  pub tables : (state_of after).tables ≡ (booked s b).tables
  pub order : InOrder (booked s b)
  pub cycle_run : CycleClaims (kind_of s.call) s.refused s.word b
