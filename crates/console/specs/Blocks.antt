-- Document 01, "Call texts": the blocks that the program reads. A block is a call of the lane.
use Rattle.std.specs.Prelude.{ℕ, zero, suc, ◌+◌, ◌-◌, ◌≤◌, ◌≡◌, Bool, true, false, cond, Option, Some, None, List, [], ◌∷◌, ◌++◌, ℤ, Float, length, drop, replicate}
use Rattle.std.specs.Float.{binary32}
use Rattle.std.specs.Float.Ieee.{of_bits}
use Rattle.text.specs.Ascii.{ascii}
use Rattle.text.specs.Fields.{line_length, starts_with, line_value, is_word, field_in, is_number, value_in, signed_in, bits_in}
use Rattle.wish.specs.Units.{units_of}
use Rattle.wish.specs.declared.Wish.{Wish}
use Rattle.wish.specs.declared.Wish.TheVariants.{Units, Acceleration, TargetSpeed, Hold}
use Rattle.lane.specs.Limits.{most_carriers, longest_text}
use Rattle.lane.specs.Listing.{car_key, car_most, at_key, at_most, speed_key, speed_most, length_key, length_most, brake_key, brake_most}
use Rattle.lane.specs.Handover.{surface_key, end_key, limit_key, cycle_key}
use Rattle.lane.specs.Call.{Call, start_call, enter_call, leave_call, surface_call, cycle_call, text_call}

-- what a text begins with: a block, which takes so many bytes, or none
pub data Parsed : Type 0 where
  parsed : Call → (used : ℕ) → Parsed
  malformed : Parsed

-- what comes after k bytes
abbrev pub past : ℕ → Parsed → Parsed
past k (parsed x used) = parsed x (k + used)
past k malformed = malformed

-- "in fixed order": what is read after a text's first line
unfoldable pub after_line : List ℕ → (List ℕ → Parsed) → Parsed
after_line t next = past (suc (line_length t)) (next (drop (suc (line_length t)) t))

-- ---- lines with a number

-- a line of a key with a number, and what follows it
unfoldable pub field : (key : List ℕ) (most : ℕ) → List ℕ → (ℕ → List ℕ → Parsed) → Parsed
field key most t next =
    cond (is_number (field_in key most t)) (after_line t (next (value_in (field_in key most t)))) malformed

-- "`call=start`, `surface`, `end`, `limit`, `cycle`": the road's lines, as in a handover text
unfoldable pub start_lines : List ℕ → Parsed
start_lines t =
    field surface_key.name surface_key.most t (λ surface t. field end_key.name end_key.most t (λ end t. field limit_key.name limit_key.most t (λ limit t.
    field cycle_key.name cycle_key.most t (λ first t. parsed (start_call (record { surface = surface; end = end; limit = limit }) first) 0))))

-- "`call=enter`, `car`, `at`, `speed`"; document 02, T-03: "a line `length=` (32 bits) after `speed`"; T-06: "a line `brake=`
-- (32 bits) after `length`": a carrier's lines, as in the lane text
unfoldable pub enter_lines : List ℕ → Parsed
enter_lines t =
    field car_key car_most t (λ car t. field at_key at_most t (λ at t. field speed_key speed_most t (λ speed t. field length_key length_most t (λ length t.
    field brake_key brake_most t (λ brake t.
    parsed (enter_call (record { number = car; position = at; speed = speed; length = length; rate = brake })) 0)))))

-- "`call=leave`, `car`"
unfoldable pub leave_lines : List ℕ → Parsed
leave_lines t = field car_key car_most t (λ car t. parsed (leave_call car) 0)

-- document 02, T-05: "by `call=surface` and `surface`", the line of a start
unfoldable pub surface_lines : List ℕ → Parsed
surface_lines t = field surface_key.name surface_key.most t (λ surface t. parsed (surface_call surface) 0)

-- ---- "lines `want=`"

-- "`units:` and a number"
abbrev pub units_wanted : Option ℤ → Option Wish
units_wanted (Some n) = Some (Units n)
units_wanted None = None

-- "`accel:` or `speed:` and the float's bits"
abbrev pub float_wanted : (Float → Wish) → Option ℕ → Option Wish
float_wanted f (Some n) = Some (f (of_bits binary32 n))
float_wanted f None = None

-- "`units:` and a number, `accel:` or `speed:` and the float's bits as eight upper-case hexadecimal digits, or `hold`"
unfoldable pub wish_wanted : (value : List ℕ) → Option Wish
wish_wanted v =
    cond (is_word (ascii "hold") v) (Some Hold)
    (cond (starts_with (ascii "units:") v) (units_wanted (signed_in (drop 6 v)))
    (cond (starts_with (ascii "accel:") v) (float_wanted Acceleration (bits_in (drop 6 v)))
    (cond (starts_with (ascii "speed:") v) (float_wanted TargetSpeed (bits_in (drop 6 v))) None)))

-- a `want=` line; the value is empty where there is none
unfoldable pub want_in : List ℕ → Option Wish
want_in t = wish_wanted (line_value (ascii "want=") t)

-- whether the line holds a wish
abbrev pub is_wish : Option Wish → Bool
is_wish (Some w) = true
is_wish None = false

-- and which one
abbrev pub wish_of : Option Wish → Wish
wish_of (Some w) = w
wish_of None = Hold

-- what a reader of wishes may give for w: a wish that asks for the same units at every speed, and none where w is none
pub record WantedAs (w r : Option Wish) : Type 0 where
  pub ok : is_wish r ≡ is_wish w
  pub units : (v : ℕ) → units_of (wish_of r) v ≡ units_of (wish_of w) v

-- what is told of the `want=` line that a text begins with: a wish, or none, and where there is one, what follows the line is left
pub record WantRead (t : List ℕ) (r : Option Wish) (rest : List ℕ) : Type 0 where
  pub asks : WantedAs (want_in t) r
  pub rest_is : is_wish r ≡ true → rest ≡ drop (suc (line_length t)) t
  pub within : is_wish r ≡ true → suc (line_length t) ≤ length t

-- a line with a wish, and what follows it
unfoldable pub want : List ℕ → (Wish → List ℕ → Parsed) → Parsed
want t next = cond (is_wish (want_in t)) (after_line t (next (wish_of (want_in t)))) malformed

-- "so many lines `want=`", and what follows them
unfoldable pub wants : ℕ → List ℕ → (List Wish → List ℕ → Parsed) → Parsed
wants zero t next = next [] t
wants (suc n) t next = want t (λ w t. wants n t (λ ws. next (w ∷ ws)))

-- "Cycle (count, 64 wishes, of which the first count are looked at)": the block's wishes, and hold after them
unfoldable pub sixty_four : List Wish → List Wish
sixty_four ws = ws ++ replicate (most_carriers - length ws) Hold

-- "`call=cycle`, `cars` (0 to 64), and so many lines `want=`"
unfoldable pub cycle_lines : List ℕ → Parsed
cycle_lines t =
    field (ascii "cars=") most_carriers t (λ cars t. wants cars t (λ ws t. parsed (cycle_call cars (sixty_four ws)) 0))

-- ---- "blocks of `key=value` lines in fixed order"

-- "`call=show`": the lane text into a buffer that is as long as the longest
unfoldable pub show_call : Call
show_call = text_call (replicate longest_text 0)

-- what a `call=` line begins
pub data Kind : Type 0 where
  Start : Kind
  Enter : Kind
  Leave : Kind
  Cycle : Kind
  Show : Kind
  Surface : Kind

-- and which, by its word
unfoldable pub kind_of : (word : List ℕ) → Option Kind
kind_of word =
    cond (is_word (ascii "start") word) (Some Start)
    (cond (is_word (ascii "enter") word) (Some Enter)
    (cond (is_word (ascii "leave") word) (Some Leave)
    (cond (is_word (ascii "cycle") word) (Some Cycle)
    (cond (is_word (ascii "show") word) (Some Show)
    (cond (is_word (ascii "surface") word) (Some Surface) None)))))

-- the lines of each kind after it
abbrev pub lines_of : Option Kind → List ℕ → Parsed
lines_of (Some Start) t = start_lines t
lines_of (Some Enter) t = enter_lines t
lines_of (Some Leave) t = leave_lines t
lines_of (Some Cycle) t = cycle_lines t
lines_of (Some Show) t = parsed show_call 0
lines_of (Some Surface) t = surface_lines t
lines_of None t = malformed

-- the block that a text begins with; the word is empty where there is no `call=` line
unfoldable pub block_in : List ℕ → Parsed
block_in t = after_line t (lines_of (kind_of (line_value (ascii "call=") t)))
