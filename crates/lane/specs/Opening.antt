-- Document 02, T-07, "Where could one enter?"
use Rattle.std.specs.Prelude.{ℕ, zero, suc, Bool, true, false, not, ◌&&◌, cond, List, eqb, leb, ltb}
use Rattle.lane.specs.declared.Carrier.{Carrier}
use Rattle.lane.specs.declared.Gap.{Gap}
use Rattle.lane.specs.declared.Gap.TheVariants.{Behind, AheadOfAll}
use Rattle.lane.specs.declared.Newcomer.{Newcomer}
use Rattle.lane.specs.Limits.{positions}
use Rattle.lane.specs.Surface.{row_in}
use Rattle.lane.specs.State.{State}
use Rattle.lane.specs.Rules.{values_no, broken}
use Rattle.lane.specs.Calls.{if_accepted, walk, gap_no, named_no, place_of}

-- "the speed, length and own rate of a newcomer" at a position; it has no number yet
abbrev pub newcomer_at : Newcomer → (position : ℕ) → Carrier
newcomer_at n position = record { number = 0; position = position; speed = n.speed; length = n.length; rate = n.rate }

-- "in the gap directly behind the one named (or ahead of all)": the place of who enters there
unfoldable pub gap_place : Gap → List Carrier → ℕ
gap_place (Behind number) cs = suc (place_of number cs)
gap_place AheadOfAll cs = 0

-- a position in the gap, where the walk ends, "at which 5, 25 and 26 wouldn't be given"
unfoldable pub opens : State → (place : ℕ) → Newcomer → (position : ℕ) → Bool
opens s place n position =
    eqb (walk position s.carriers) place
    && not (leb s.road.end position)
    && eqb (gap_no (row_in s.tables s.road) place (newcomer_at n position) s.carriers) 0

-- the lowest number below a bound that passes a test; the bound where none does
unfoldable pub lowest_below : (bound : ℕ) → (ℕ → Bool) → ℕ
lowest_below zero test = 0
lowest_below (suc bound) test = cond (test 0) 0 (suc (lowest_below bound (λ n. test (suc n))))

-- the highest one; 0 where none does
unfoldable pub highest_below : (bound : ℕ) → (ℕ → Bool) → ℕ
highest_below zero test = 0
highest_below (suc bound) test = cond (test bound) bound (highest_below bound test)

-- a lowest and a highest position, or none
pub record Span : Type 0 where
  pub exists : Bool
  pub lowest : ℕ
  pub highest : ℕ

abbrev pub nowhere : Span
nowhere = record { exists = false; lowest = 0; highest = 0 }

unfoldable pub span_of : (ℕ → Bool) → Span
span_of test =
    cond (ltb (lowest_below positions test) positions)
    (record { exists = true; lowest = lowest_below positions test; highest = highest_below positions test })
    nowhere

-- "The answer is the lowest and highest position, in the gap directly behind the one named (or ahead of all), at which 5, 25 and 26 wouldn't be
-- given, or that no such position exists."
unfoldable pub opening_in : State → Gap → Newcomer → Span
opening_in s g n = span_of (opens s (gap_place g s.carriers) n)

-- the gap that is asked for: "After 21 come 4 and 24 for a named carrier"; "the head" is no number
unfoldable pub gap_named_no : State → Gap → ℕ
gap_named_no s (Behind number) = named_no s number
gap_named_no s AheadOfAll = cond (broken s) 21 0

-- "After 21 come 4 and 24 for a named carrier, then 6, 33 and 35"
unfoldable pub opening_no : State → Gap → Newcomer → ℕ
opening_no s g n = if_accepted (gap_named_no s g) (values_no s.road (newcomer_at n 0)) (gap_named_no s g)
