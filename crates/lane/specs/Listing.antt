-- Document 01, "Calls" and "Call texts": the lane text, "what `show` prints from `cars=` on".
use Rattle.std.specs.Prelude.{ℕ, ◌≤◌, cond, List, [], ◌∷◌, ◌++◌, map, ltb, length, drop}
use Rattle.text.specs.Ascii.{ascii}
use Rattle.text.specs.Numbers.{decimal}
use Rattle.text.specs.Lines.{line}
use Rattle.text.specs.Groups.{Key, group_text, Got, got, and_then, number_line, groups_in}
use Rattle.lane.specs.declared.Carrier.{Carrier}
use Rattle.lane.specs.Limits.{most_carriers}
use Rattle.lane.specs.State.{State}
use Rattle.lane.specs.Layout.{record_in}
use Rattle.lane.specs.Rules.{broken}

-- the lines of a carrier, here and in the block `enter`: "at, .., speed ..: 32 bits; car: 16"; document 02, T-03: "a line `length=` (32 bits)
-- after `speed`, printed in that place too"; T-06: "a line `brake=` (32 bits) after `length`, printed there too"; the key of each and the most that
-- it holds
abbrev pub car_key : List ℕ
car_key = ascii "car="

abbrev pub car_most : ℕ
car_most = 65535

abbrev pub at_key : List ℕ
at_key = ascii "at="

abbrev pub at_most : ℕ
at_most = 4294967295

abbrev pub speed_key : List ℕ
speed_key = ascii "speed="

abbrev pub speed_most : ℕ
speed_most = 4294967295

abbrev pub length_key : List ℕ
length_key = ascii "length="

abbrev pub length_most : ℕ
length_most = 4294967295

abbrev pub brake_key : List ℕ
brake_key = ascii "brake="

abbrev pub brake_most : ℕ
brake_most = 4294967295

-- "then number, position, speed", the length and the own rate: in this order, both as it is written and as it is read
abbrev pub carrier_keys : List Key
carrier_keys =
    record { name = car_key; most = car_most }
    ∷ record { name = at_key; most = at_most }
    ∷ record { name = speed_key; most = speed_most }
    ∷ record { name = length_key; most = length_most }
    ∷ record { name = brake_key; most = brake_most }
    ∷ []

abbrev pub carrier_numbers : Carrier → List ℕ
carrier_numbers c = c.number ∷ c.position ∷ c.speed ∷ c.length ∷ c.rate ∷ []

-- a carrier whose numbers they can hold
pub record FitsLines (c : Carrier) : Type 0 where
  pub number : c.number ≤ car_most
  pub position : c.position ≤ at_most
  pub speed : c.speed ≤ speed_most
  pub long : c.length ≤ length_most
  pub rate : c.rate ≤ brake_most

unfoldable pub carrier_text : Carrier → List ℕ
carrier_text c = group_text carrier_keys (carrier_numbers c)

-- "front to back"
unfoldable pub carriers_text : List Carrier → List ℕ
carriers_text [] = []
carriers_text (c ∷ cs) = carrier_text c ++ carriers_text cs

-- the line of their number, of which a lane has at most 64
abbrev pub cars_key : Key
cars_key = record { name = ascii "cars="; most = most_carriers }

-- the lane text: the number of carriers and then each of them
unfoldable pub lane_text : State → List ℕ
lane_text s = line cars_key.name (decimal s.count) ++ carriers_text s.carriers

-- so many carriers, as they are read
unfoldable pub carriers_in : (count : ℕ) → List ℕ → Got (List Carrier)
carriers_in count t = and_then (groups_in carrier_keys count t) (λ cs t. got (map record_in cs) t)

-- and a lane text
unfoldable pub lane_text_in : List ℕ → Got (List Carrier)
lane_text_in t = and_then (number_line cars_key t) carriers_in

-- "Lane text into a lent buffer: 21, 9."; "9 lane text longer than the buffer": the checks of a text of the lane
abbrev pub written_no : State → (text buffer : List ℕ) → ℕ
written_no s text buffer = cond (broken s) 21 (cond (ltb (length buffer) (length text)) 9 0)

unfoldable pub text_no : State → (buffer : List ℕ) → ℕ
text_no s buffer = written_no s (lane_text s) buffer

-- "bytes of the buffer after the text don't change."
abbrev pub at_start : (text buffer : List ℕ) → List ℕ
at_start text buffer = text ++ drop (length text) buffer

unfoldable pub text_bytes : State → (buffer : List ℕ) → List ℕ
text_bytes s buffer = at_start (lane_text s) buffer
