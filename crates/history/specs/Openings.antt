-- Document 02, T-07, along a history: which positions lie between the two that are answered, and what becomes of an entry there.
use Rattle.std.specs.Prelude.{ℕ, ◌+◌, ◌-◌, ◌≤◌, ◌<◌, min, ◌≡◌, true, false, ◌||◌, cond, List, ◌∷◌, ◌++◌, ltb, length}
use Rattle.headway.specs.Stopping.{stopping_distance}
use Rattle.lane.specs.declared.Carrier.{Carrier}
use Rattle.lane.specs.declared.Gap.{Gap}
use Rattle.lane.specs.declared.Gap.TheVariants.{Behind, AheadOfAll}
use Rattle.lane.specs.declared.Newcomer.{Newcomer}
use Rattle.lane.specs.Surface.{row_in}
use Rattle.lane.specs.Layout.{Words, state_of}
use Rattle.lane.specs.Safety.{any_of, numbered}
use Rattle.lane.specs.Opening.{Span}
use Rattle.lane.specs.Call.{enter_call, opening_call}
use Rattle.history.specs.Book.{Book}
use Rattle.history.specs.Claims.{carrier_at}
use Rattle.history.specs.History.{Event, book_on, lane_after}

-- "the gap directly behind the one named (or ahead of all)": the place right behind that carrier of the book, or the foremost
abbrev pub GapAt : Gap → Book → (place : ℕ) → Type 0
GapAt (Behind number) b place = (0 < place) × (place ≤ length b.carriers) × ((carrier_at b (place - 1)).number ≡ number)
GapAt AheadOfAll b place = place ≡ 0

-- "the lowest and highest position ..., or that no such position exists", both included
abbrev pub Between : Span → (position : ℕ) → Type 0
Between a position = (a.exists ≡ true) × (a.lowest ≤ position) × (position ≤ a.highest)

-- "at which 5, 25 and 26 wouldn't be given": the front before the end, safe behind the one ahead of the place, and the one at the place safe behind it
abbrev pub FitsAt : Book → Newcomer → (position place : ℕ) → Type 0
FitsAt b n position place =
    let r = row_in b.tables b.road in
    let a = carrier_at b (place - 1) in
    let d = carrier_at b place in
    (position < b.road.end)
    × (0 < place
    → (position + a.length < a.position)
    × (position + a.length + stopping_distance (min n.rate r.guaranteed) n.speed < a.position + stopping_distance r.hardest a.speed))
    × (place < length b.carriers
    → (d.position + n.length < position)
    × (d.position + n.length + stopping_distance (min d.rate r.guaranteed) d.speed < position + stopping_distance r.hardest n.speed))

-- "After 21 come 4 and 24 for a named carrier, then 6, 33 and 35": the number of an opening on a lane that 21 passes, by the book
abbrev pub values_asked : Newcomer → Book → ℕ
values_asked n b =
    cond (ltb b.road.limit n.speed) 6 (cond (ltb 65535 n.length) 33 (cond (ltb n.rate 1 || ltb 255 n.rate) 35 0))

abbrev pub number_asked : Gap → Newcomer → Book → ℕ
number_asked (Behind number) n b =
    cond (ltb number 1 || ltb 65535 number) 4 (cond (any_of (numbered number) b.carriers) (values_asked n b) 24)
number_asked AheadOfAll n b = values_asked n b

abbrev pub OpeningsNumbered : Book → List Event → Type 0
OpeningsNumbered b es =
    (before : List Event) (ask : Event) (later : List Event) (g : Gap) (n : Newcomer)
    → es ≡ before ++ (ask ∷ later)
    → ask.call ≡ opening_call g n → ¬ (ask.answer.number ≡ 21)
    → ask.answer.number ≡ number_asked g n (book_on b before)

-- "A refusal holds its number", and no position
abbrev pub OpeningsRefused : List Event → Type 0
OpeningsRefused es =
    (before : List Event) (ask : Event) (later : List Event) (g : Gap) (n : Newcomer)
    → es ≡ before ++ (ask ∷ later)
    → ask.call ≡ opening_call g n → ¬ (ask.answer.number ≡ 0)
    → let a = ask.answer.span in (a.exists ≡ false) × (a.lowest ≡ 0) × (a.highest ≡ 0)

-- an accepted opening answers exactly those positions, by the book, a full one too; where there is one the lowest is at most the highest, and where
-- there is none both are 0
abbrev pub OpeningsExact : Book → List Event → Type 0
OpeningsExact at_first es =
    (before : List Event) (ask : Event) (later : List Event) (g : Gap) (n : Newcomer)
    → es ≡ before ++ (ask ∷ later)
    → ask.call ≡ opening_call g n → ask.answer.number ≡ 0
    → let b = book_on at_first before in
    let a = ask.answer.span in
    ((position : ℕ) → Between a position → (place : ℕ) × GapAt g b place × FitsAt b n position place)
    × ((position place : ℕ) → GapAt g b place → FitsAt b n position place → Between a position)
    × (a.exists ≡ true → a.lowest ≤ a.highest)
    × (a.exists ≡ false → (a.lowest ≡ 0) × (a.highest ≡ 0))

-- "Each position between the two would be admitted by those checks.": as long as the lane's state is as when it was asked, an entry of those values,
-- whose number no carrier of the book has and with fewer than 64 there, is let in right behind the one named, or ahead of all, exactly where its
-- position is between the two
abbrev pub OpeningsEnter : Words → Book → List Event → Type 0
OpeningsEnter l at_first es =
    (before : List Event) (ask : Event) (between : List Event) (enter : Event) (later : List Event) (g : Gap) (c : Carrier)
    → es ≡ before ++ (ask ∷ (between ++ (enter ∷ later)))
    → ask.call ≡ opening_call g (record { speed = c.speed; length = c.length; rate = c.rate }) → ask.answer.number ≡ 0
    → state_of (lane_after ask.left between) ≡ state_of (lane_after l before)
    → enter.call ≡ enter_call c
    → let b = book_on at_first before in
    1 ≤ c.number → c.number ≤ 65535 → ((i : ℕ) → i < length b.carriers → ¬ ((carrier_at b i).number ≡ c.number)) → length b.carriers < 64
    → (Between ask.answer.span c.position → (enter.answer.number ≡ 0) × GapAt g b enter.answer.place)
    × (enter.answer.number ≡ 0 → GapAt g b enter.answer.place → Between ask.answer.span c.position)

-- all of a list
abbrev pub Openings : Words → Book → List Event → Type 0
Openings l b es = OpeningsNumbered b es × OpeningsRefused es × OpeningsExact b es × OpeningsEnter l b es
