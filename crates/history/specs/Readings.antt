-- Document 02, T-08, of a lane with which a list begins: "One lane has one text, and the reader takes only that text."; which texts are turned away,
-- and by which number.
use Rattle.std.specs.Prelude.{ℕ, suc, ◌+◌, ◌≤◌, ◌<◌, min, ◌≡◌, true, false, List, [], ◌∷◌, ◌++◌, ◌⊎◌, length, get_or}
use Rattle.headway.specs.Stopping.{stopping_distance}
use Rattle.text.specs.Ascii.{ascii}
use Rattle.text.specs.Numbers.{decimal}
use Rattle.text.specs.Lines.{line}
use Rattle.lane.specs.declared.Carrier.{Carrier}
use Rattle.lane.specs.declared.Road.{Road}
use Rattle.lane.specs.declared.Row.{Row}
use Rattle.lane.specs.Limits.{longest_handover}
use Rattle.lane.specs.Surface.{row_of}
use Rattle.lane.specs.State.{State}
use Rattle.lane.specs.Layout.{Words, state_of, empty_words}
use Rattle.lane.specs.Rules.{broken}
use Rattle.lane.specs.Table.{row_text, table_text}
use Rattle.lane.specs.Calls.{none}
use Rattle.lane.specs.Listing.{carrier_text, carriers_text, lane_text}
use Rattle.lane.specs.Handover.{TakesOver, InForm}

-- "the eight rows in force and those for the next start, each as table text, then `surface`, `end`, `limit`, `cycle`, then the lane text": the text
-- of a lane, line by line
abbrev pub TextOf : State → List ℕ → Type 0
TextOf s text =
    text
    ≡ table_text s.tables.in_force
    ++ (table_text s.tables.next
    ++ (line (ascii "surface=") (decimal s.road.surface)
    ++ (line (ascii "end=") (decimal s.road.end)
    ++ (line (ascii "limit=") (decimal s.road.limit) ++ (line (ascii "cycle=") (decimal s.cycle) ++ lane_text s)))))

-- a sound row, in numbers
abbrev pub SoundNumbers : Row → Type 0
SoundNumbers r = (1 ≤ r.guaranteed) × (r.guaranteed ≤ r.hardest) × (r.hardest ≤ 255) × (1 ≤ r.most) × (r.most ≤ 255)

-- a carrier that breaks no rule by itself, in numbers
abbrev pub LawfulNumbers : Road → Carrier → Type 0
LawfulNumbers road c =
    (1 ≤ c.number) × (c.number ≤ 65535) × (c.speed ≤ road.limit) × (c.length ≤ 65535) × (1 ≤ c.rate) × (c.rate ≤ 255) × (c.position < road.end + c.length)

-- the carrier behind place i is safe behind the one there, in numbers, by the row in force
abbrev pub SafeAt : State → ℕ → Type 0
SafeAt s i =
    let r = row_of s.tables.in_force s.road.surface in
    let a = get_or s.carriers i none in
    let c = get_or s.carriers (suc i) none in
    (c.position + a.length < a.position)
    × (c.position + a.length + stopping_distance (min c.rate r.guaranteed) c.speed < a.position + stopping_distance r.hardest a.speed)

-- "36 text not in this form, or a lane that 21 refuses for anything but safety; 37 the lane isn't safe, after 36": the number that a lane's text gets.
-- It is 0 where 21 passes the lane; 36 for every rule that 21 lists but safety, broken by the road, a row, a carrier or two, whatever else is wrong, and
-- for nothing else; and 37 for two carriers that aren't safe, where it isn't 36, and for nothing else.
pub record NumberOf (s : State) (number : ℕ) : Type 0 where
  pub one_of : (number ≡ 0) ⊎ (number ≡ 36) ⊎ (number ≡ 37)
  pub passes : (number ≡ 0 → broken s ≡ false) × (broken s ≡ false → number ≡ 0)
  pub road : (s.started ≡ false → number ≡ 36)
      × (7 < s.road.surface → number ≡ 36)
      × (s.road.end ≡ 0 → number ≡ 36)
      × (2147483648 < s.road.end → number ≡ 36)
      × (s.road.limit ≡ 0 → number ≡ 36)
      × (8192 < s.road.limit → number ≡ 36)
      × ((code : ℕ) → code < 8 → ¬ (SoundNumbers (row_of s.tables.in_force code)) → number ≡ 36)
      × ((code : ℕ) → code < 8 → ¬ (SoundNumbers (row_of s.tables.next code)) → number ≡ 36)
      × (64 < s.count → number ≡ 36)
  pub carrier : (i : ℕ) → i < length s.carriers →
      let c = get_or s.carriers i none in
      (c.number ≡ 0 → number ≡ 36)
      × (65535 < c.number → number ≡ 36)
      × (s.road.limit < c.speed → number ≡ 36)
      × (65535 < c.length → number ≡ 36)
      × (c.rate ≡ 0 → number ≡ 36)
      × (255 < c.rate → number ≡ 36)
      × (s.road.end + c.length ≤ c.position → number ≡ 36)
  pub twice : (i j : ℕ) → i < j → j < length s.carriers → (get_or s.carriers i none).number ≡ (get_or s.carriers j none).number → number ≡ 36
  pub nothing_else : s.started ≡ true → s.road.surface ≤ 7 → 1 ≤ s.road.end → s.road.end ≤ 2147483648 → 1 ≤ s.road.limit → s.road.limit ≤ 8192
      → ((code : ℕ) → code < 8 → SoundNumbers (row_of s.tables.in_force code)) → ((code : ℕ) → code < 8 → SoundNumbers (row_of s.tables.next code))
      → s.count ≤ 64 → ((i : ℕ) → i < length s.carriers → LawfulNumbers s.road (get_or s.carriers i none))
      → ((i j : ℕ) → i < j → j < length s.carriers → ¬ ((get_or s.carriers i none).number ≡ (get_or s.carriers j none).number))
      → ¬ (number ≡ 36)
  pub unsafe : (¬ (number ≡ 36) → (i : ℕ) → suc i < length s.carriers → ¬ (SafeAt s i) → number ≡ 37)
      × (number ≡ 37 → (i : ℕ) × (suc i < length s.carriers) × ¬ (SafeAt s i))

-- what a reading of a text gives that answers this number and leaves this lane
pub record Reading (text : List ℕ) (number : ℕ) (l : Words) : Type 0 where
  -- the text is that of one lane which its lines can hold, and gets that lane's number; or of none, and gets 36
  pub which : ((s : State) × InForm s × TextOf s text × NumberOf s number) ⊎ (((s : State) → InForm s → ¬ (TextOf s text)) × (number ≡ 36))
  pub one_lane : (s t : State) → InForm s → InForm t → TextOf s text → TextOf t text → s ≡ t
  -- an accepted one leaves the lane whose text it is, which has no other, and is no longer than the longest
  pub accepted : number ≡ 0 → TextOf (state_of l) text × (length text ≤ longest_handover)
  pub one_text : number ≡ 0 → (other : List ℕ) (m : Words) → TakesOver other 0 m → state_of m ≡ state_of l → other ≡ text
  -- "a refused reading gives an empty lane, never started, with the house rows": every word of it
  pub refused : ¬ (number ≡ 0) → l ≡ empty_words

-- the lines of which such a text is made, by their keys: a table "row by row", and the lane text "from `cars=` on", the carriers "front to back"
pub record Spelt : Type 0 where
  pub row_lines : (r : Row) → row_text r
      ≡ line (ascii "b=") (decimal r.guaranteed) ++ (line (ascii "B=") (decimal r.hardest) ++ line (ascii "A=") (decimal r.most))
  pub row_by_row : (r : Row) (rs : List Row) → (table_text [] ≡ []) × (table_text (r ∷ rs) ≡ row_text r ++ table_text rs)
  pub lane_lines : (s : State) → lane_text s ≡ line (ascii "cars=") (decimal s.count) ++ carriers_text s.carriers
  pub front_to_back : (c : Carrier) (cs : List Carrier) → (carriers_text [] ≡ []) × (carriers_text (c ∷ cs) ≡ carrier_text c ++ carriers_text cs)
  pub carrier_lines : (c : Carrier) → carrier_text c
      ≡ line (ascii "car=") (decimal c.number)
      ++ (line (ascii "at=") (decimal c.position)
      ++ (line (ascii "speed=") (decimal c.speed) ++ (line (ascii "length=") (decimal c.length) ++ line (ascii "brake=") (decimal c.rate))))
