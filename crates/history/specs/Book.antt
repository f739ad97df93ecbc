-- Document 01, "The road book": "It says where carriers that drive as told are." It has a walk, a trimming, a
-- braking and a motion of its own.
use Rattle.std.specs.Prelude.{ℕ, ◌+◌, ◌/◌, ◌%◌, min, Bool, cond, Option, Some, None, List, [], ◌∷◌, eqb, leb, ltb, ℤ, pos}
use Rattle.headway.specs.Motion.{speed_after, position_after}
use Rattle.headway.specs.Stopping.{braking}
use Rattle.wish.specs.Units.{units_of}
use Rattle.wish.specs.Trimming.{trimmed_to}
use Rattle.wish.specs.declared.Wish.{Wish}
use Rattle.lane.specs.declared.Carrier.{Carrier}
use Rattle.lane.specs.declared.Road.{Road}
use Rattle.lane.specs.Surface.{Tables, row_in}
use Rattle.lane.specs.Layout.{Words, state_of}
use Rattle.lane.specs.Table.{table_in, rows_loaded}
use Rattle.lane.specs.Handover.{taken_over}
use Rattle.lane.specs.Call.{Call, start_call, load_call, enter_call, leave_call, surface_call, cycle_call, read_call, opening_call, text_call, handover_call}

-- "It is fed with each call with its arguments and, of the answers, only whether the call was refused and a cycle's word."
pub record Seen : Type 0 where
  pub call : Call
  pub refused : Bool
  pub word : ℕ

-- "It holds surface, end, limit and the carriers front to back, each with number, position and speed."; document 02, T-01: "The road book holds
-- the rows in force and those for the next start too"; T-03: "Each entry gains a length"; T-06: "Each entry names the carrier's own
-- rate"; the carrier keeps both
pub record Book : Type 0 where
  pub road : Road
  pub tables : Tables
  pub carriers : List Carrier

-- the book that goes with an empty lane; T-01: with the rows "at first as the empty lane has them"
abbrev pub begun : Words → Book
begun l = record { road = (state_of l).road; tables = (state_of l).tables; carriers = [] }

-- T-08: "the road book then begins with what the text holds, carriers included"; a refused reading "gives an empty lane"
abbrev pub begun_from : (text : List ℕ) → Book
begun_from text = record { road = (taken_over text).road; tables = (taken_over text).tables; carriers = (taken_over text).carriers }

-- the book with other carriers
abbrev pub holding : Book → List Carrier → Book
holding b cs = record { road = b.road; tables = b.tables; carriers = cs }

-- T-01: "a load replaces the latter", the rows for the next start
abbrev pub loading : Book → (text : List ℕ) → Book
loading b text =
    record { road = b.road; tables = record { in_force = b.tables.in_force; next = rows_loaded (table_in text) }; carriers = b.carriers }

-- T-05: "to change the surface code between cycles"; "Positions, speeds and the cycle number don't move."
abbrev pub surfacing : Book → (code : ℕ) → Book
surfacing b code =
    record { road = record { surface = code; end = b.road.end; limit = b.road.limit }; tables = b.tables; carriers = b.carriers }

-- "Enter: the carrier goes in as given, where the walk over the book ends."
unfoldable pub put_in : Carrier → List Carrier → List Carrier
put_in c [] = c ∷ []
put_in c (d ∷ ds) = cond (ltb d.position c.position) (c ∷ d ∷ ds) (d ∷ put_in c ds)

-- "Leave: the carrier named comes out."
unfoldable pub take_out : (number : ℕ) → List Carrier → List Carrier
take_out number [] = []
take_out number (c ∷ cs) = cond (eqb c.number number) cs (c ∷ take_out number cs)

-- "made into units"; a cycle with a float outside its range is refused, so none is driven
abbrev pub units_from : Option ℤ → ℤ
units_from (Some z) = z
units_from None = pos 0

-- "wish i, made into units and trimmed with the book's figures"
unfoldable pub trimmed_in : Book → Carrier → Wish → ℤ
trimmed_in b c w =
    trimmed_to (units_from (units_of w c.speed)) c.speed (row_in b.tables b.road).hardest (row_in b.tables b.road).most b.road.limit

-- T-06: "Its guaranteed braking is the smaller of its own rate and the row's b, everywhere that b stood.", by the book's figures
abbrev pub guaranteed_in : Book → Carrier → ℕ
guaranteed_in b c = min c.rate (row_in b.tables b.road).guaranteed

-- "or −(smaller of b and v) where bit i is set", of the carrier's guaranteed braking: the accelerations of the carriers, front to back; place 0 has
-- the lowest bit
unfoldable pub driven_in : Book → (word : ℕ) → List Carrier → List Wish → List ℤ
driven_in b word [] ws = []
driven_in b word (c ∷ cs) [] = []
driven_in b word (c ∷ cs) (w ∷ ws) =
    cond (eqb (word % 2) 1) (braking (guaranteed_in b c) c.speed) (trimmed_in b c w)
    ∷ driven_in b (word / 2) cs ws

-- "Cycle: carrier i drives"; "After the whole cycle, whoever is at or past the end comes out."; T-03: "gone once its tail is at or past the end"
unfoldable pub driven_on : (end : ℕ) → List Carrier → List ℤ → List Carrier
driven_on end [] ds = []
driven_on end (c ∷ cs) [] = []
driven_on end (c ∷ cs) (d ∷ ds) =
    let position = position_after c.position c.speed d in
    cond (leb (end + c.length) position) (driven_on end cs ds)
    (record { number = c.number; position = position; speed = speed_after c.speed d; length = c.length; rate = c.rate } ∷ driven_on end cs ds)

-- the step of a call that is not refused; "Start: it takes surface, end and limit and drops all carriers."; T-01: "a start puts them in force"
unfoldable pub taken : Call → (word : ℕ) → Book → Book
taken (start_call road first) word b = record { road = road; tables = record { in_force = b.tables.next; next = b.tables.next }; carriers = [] }
taken (load_call text) word b = loading b text
taken (enter_call c) word b = holding b (put_in c b.carriers)
taken (leave_call number) word b = holding b (take_out number b.carriers)
taken (surface_call code) word b = surfacing b code
taken (cycle_call count wishes) word b =
    holding b (driven_on b.road.end b.carriers (driven_in b word b.carriers wishes))
taken (read_call number) word b = b
taken (opening_call g n) word b = b
taken (text_call buffer) word b = b
taken (handover_call buffer) word b = b

-- "Read, lane text and every refused call: nothing changes."; T-07, of an opening: "the lane isn't changed"; nor does a handover change it
abbrev pub booked : Seen → Book → Book
booked s b = cond s.refused b (taken s.call s.word b)
