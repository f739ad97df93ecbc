-- Document 01, "Wishes": what a cycle does with the wish of each carrier.
use Rattle.std.specs.Prelude.{ℕ, ◌+◌, ◌*◌, Bool, true, false, not, ◌||◌, cond, List, [], ◌∷◌, map, ℤ, pos}
use Rattle.std.specs.Int.Signed.{le_z}
use Rattle.headway.specs.Motion.{speed_after, position_after}
use Rattle.headway.specs.Stopping.{braking}
use Rattle.headway.specs.Wishes.{rests_behind}
use Rattle.wish.specs.Units.{units_of}
use Rattle.wish.specs.Trimming.{trimmed_to}
use Rattle.wish.specs.declared.Wish.{Wish}
use Rattle.std.specs.Prelude.{Option, Some, None}
use Rattle.lane.specs.declared.Carrier.{Carrier}
use Rattle.lane.specs.declared.Drive.{Drive}
use Rattle.lane.specs.declared.Road.{Road}
use Rattle.lane.specs.declared.Row.{Row}
use Rattle.lane.specs.Safety.{Ahead, nobody, leader, guaranteed_rate, reach_to}
use Rattle.lane.specs.Rules.{past_end}

-- "7 a float outside its range"
abbrev pub is_outside : Option ℤ → Bool
is_outside (Some z) = false
is_outside None = true

-- a wish outside its range, whose call is refused, counts as 0 units
abbrev pub units_in : Option ℤ → ℤ
units_in (Some z) = z
units_in None = pos 0

-- the units of each carrier's wish, front to back
unfoldable pub wished_units : List Carrier → List Wish → List ℤ
wished_units [] ws = []
wished_units (c ∷ cs) [] = []
wished_units (c ∷ cs) (w ∷ ws) = units_in (units_of w c.speed) ∷ wished_units cs ws

-- some wish is a float outside its range
unfoldable pub any_outside : List Carrier → List Wish → Bool
any_outside [] ws = false
any_outside (c ∷ cs) [] = false
any_outside (c ∷ cs) (w ∷ ws) = is_outside (units_of w c.speed) || any_outside cs ws

-- "The units are trimmed into −(smaller of B and v) to the smaller of A and V − v.", whatever the carrier's own rate
unfoldable pub trimmed : Row → (limit : ℕ) → Carrier → ℤ → ℤ
trimmed r limit c z = trimmed_to z c.speed r.hardest r.most limit

-- "A trimmed w at or below −(smaller of b and v) stands. So does any w of the foremost carrier, and any w with
-- p + 2v + w + S(b, v + w) below p of the carrier ahead + S(B, its v), both taken at the cycle's start."; document 02, T-03: "the position of
-- the carrier ahead less its length, in both halves and in the wish rule"; T-06: b is the carrier's guaranteed braking
unfoldable pub stands : Row → Ahead → Carrier → ℤ → Bool
stands r nobody c w = true
stands r (leader a) c w =
    le_z w (braking (guaranteed_rate r c) c.speed)
    || rests_behind (guaranteed_rate r c) r.hardest (reach_to a c) c.speed w a.position a.speed

-- what a carrier with a wish of z units does: "Otherwise w is replaced by −(smaller of b and v).", of T-06's guaranteed braking
unfoldable pub drive : Row → (limit : ℕ) → Ahead → Carrier → ℤ → Drive
drive r limit ahead c z =
    let stays = stands r ahead c (trimmed r limit c z) in
    record {
      replaced = not stays;
      acceleration = cond stays (trimmed r limit c z) (braking (guaranteed_rate r c) c.speed);
    }

-- "One cycle with a: the speed becomes v + a, the position p + 2v + a."; length and own rate stay
unfoldable pub moved : Carrier → ℤ → Carrier
moved c a =
    record {
      number = c.number;
      position = position_after c.position c.speed a;
      speed = speed_after c.speed a;
      length = c.length;
      rate = c.rate;
    }

-- what each carrier does, front to back, the first of the list behind `ahead`: the carrier ahead is as at the cycle's start
unfoldable pub drives : Row → (limit : ℕ) → Ahead → List Carrier → (units : List ℤ) → List Drive
drives r limit ahead [] zs = []
drives r limit ahead (c ∷ cs) [] = []
drives r limit ahead (c ∷ cs) (z ∷ zs) = drive r limit ahead c z ∷ drives r limit (leader c) cs zs

-- all carriers after the cycle
unfoldable pub all_moved : List Carrier → List Drive → List Carrier
all_moved [] ds = []
all_moved (c ∷ cs) [] = []
all_moved (c ∷ cs) (d ∷ ds) = moved c d.acceleration ∷ all_moved cs ds

-- a bit that is set or not
abbrev pub bit : Bool → ℕ
bit true = 1
bit false = 0

-- "one 64-bit word in which bit i is set if the wish of place i was replaced": place 0 is the lowest bit
unfoldable pub word_of : List Bool → ℕ
word_of [] = 0
word_of (t ∷ ts) = bit t + 2 * word_of ts

-- "the number of replaced wishes"
unfoldable pub count_of : List Bool → ℕ
count_of [] = 0
count_of (t ∷ ts) = bit t + count_of ts

-- "Replaced means that the wish's bit is set."
abbrev pub replaced_in : List Drive → List Bool
replaced_in = map (λ d. d.replaced)

-- "A carrier at or past the lane end afterwards is gone, and its place serves again."; T-03: "gone once its tail is at or past the end"
unfoldable pub remaining : Road → List Carrier → List Carrier
remaining road [] = []
remaining road (c ∷ cs) = cond (past_end road c) (remaining road cs) (c ∷ remaining road cs)
