-- Document 01, "Calls": the ranges of a start's and a newcomer's values, and the rules of a lane behind check 21.
use Rattle.std.specs.Prelude.{ℕ, ◌+◌, Bool, not, ◌||◌, cond, List, eqb, leb, ltb}
use Rattle.lane.specs.declared.Carrier.{Carrier}
use Rattle.lane.specs.declared.Road.{Road}
use Rattle.lane.specs.declared.Row.{Row}
use Rattle.lane.specs.Limits.{last_surface, farthest_end, fastest, highest_number, longest_carrier, highest_rate, most_carriers}
use Rattle.lane.specs.Surface.{unsound, row_in}
use Rattle.lane.specs.State.{State}
use Rattle.lane.specs.Safety.{lane_safe, any_of, repeats}

-- outside its range, ends included
abbrev pub outside_of : (low high n : ℕ) → Bool
outside_of low high n = ltb n low || ltb high n

-- "1 surface above 7; 2 lane end outside its range; 3 limit outside its range"
unfoldable pub road_no : Road → ℕ
road_no road =
    cond (ltb last_surface road.surface) 1
    (cond (outside_of 1 farthest_end road.end) 2 (cond (outside_of 1 fastest road.limit) 3 0))

-- "4 carrier number 0": a number that no carrier can have
abbrev pub bad_number : ℕ → Bool
bad_number = outside_of 1 highest_number

-- "6 speed above the limit"
abbrev pub too_fast : Road → Carrier → Bool
too_fast road c = ltb road.limit c.speed

-- document 02, T-03: "33 length too large"
abbrev pub too_long : Carrier → Bool
too_long c = ltb longest_carrier c.length

-- T-06: "35 own rate outside its range"
abbrev pub bad_rate : ℕ → Bool
bad_rate = outside_of 1 highest_rate

-- a carrier that breaks a rule by itself: "a number 0 .., a speed above the limit"; T-03, of 21: "and at a length out of range"; T-06: "21 covers
-- a rate out of range too."
unfoldable pub unlawful : Road → Carrier → Bool
unlawful road c = bad_number c.number || too_fast road c || too_long c || bad_rate c.rate

-- T-03: "A carrier is gone once its tail is at or past the end, and 21 looks at the tail likewise"
unfoldable pub past_end : Road → Carrier → Bool
past_end road c = leb (road.end + c.length) c.position

-- carriers of which one breaks a rule other than safety: by itself, by a tail at or past the end, or by a number that stands twice
abbrev pub misfit : Road → List Carrier → Bool
misfit road cs = any_of (λ c. unlawful road c || past_end road c) cs || repeats cs

-- carriers of which one breaks a rule: by itself, by a tail at or past the end, by a number that stands twice, or not safe
unfoldable pub faulty : Row → Road → List Carrier → Bool
faulty r road cs = misfit road cs || not (lane_safe r cs)

-- what 21 looks at beside the carriers
abbrev pub unfounded : State → Bool
unfounded s =
    not s.started
    || not (eqb (road_no s.road) 0)
    || unsound s.tables.in_force
    || unsound s.tables.next
    || ltb most_carriers s.count

-- "21 never started, or the lane handed in breaks a rule of this paper (a surface or bound outside its range, more than 64 carriers,
-- a number 0 or twice, a speed above the limit, a position at or past the end, a lane not safe)"; document 02, T-01: "A lane handed in with an
-- unsound row gets 21", of those in force or of those for the next start; T-03: "21 looks at the tail likewise, and at a length out of range"; T-06:
-- "21 covers a rate out of range too."
unfoldable pub broken : State → Bool
broken s = unfounded s || faulty (row_in s.tables s.road) s.road s.carriers

-- document 02, T-08: "36 .. a lane that 21 refuses for anything but safety; 37 the lane isn't safe, after 36"
unfoldable pub carriers_no : Row → Road → List Carrier → ℕ
carriers_no r road cs = cond (misfit road cs) 36 (cond (lane_safe r cs) 0 37)

unfoldable pub lane_no : State → ℕ
lane_no s = cond (unfounded s) 36 (carriers_no (row_in s.tables s.road) s.road s.carriers)

-- a newcomer's speed, length and own rate: "6 speed above the limit"; T-03: "33 length too large, after 6"; T-06: "35 own rate outside its range,
-- after 33"
abbrev pub values_no : Road → Carrier → ℕ
values_no road c = cond (too_fast road c) 6 (cond (too_long c) 33 (cond (bad_rate c.rate) 35 0))

-- all its own values: "4 carrier number 0; 5 position at or past the end", 5 of its front, then these
unfoldable pub newcomer_no : Road → Carrier → ℕ
newcomer_no road c = cond (bad_number c.number) 4 (cond (leb road.end c.position) 5 (values_no road c))
