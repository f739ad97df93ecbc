-- Wishes as a host hands them in, as two arrays of numbers: a sort for each, and a value. An exported function takes no enum.
use Rattle.std.specs.Prelude.{ℕ, ◌-◌, ◌≡◌, Bool, false, ◌||◌, cond, List, [], ◌∷◌, Option, Some, None, is_none, unwrap_or, eqb, ltb, pos, neg_ℤ, length, take}
use Rattle.std.specs.Float.{binary32}
use Rattle.std.specs.Float.Ieee.{of_bits}
use Rattle.wish.specs.declared.Wish.{Wish}
use Rattle.wish.specs.declared.Wish.TheVariants.{Units, Acceleration, TargetSpeed, Hold}
use Rattle.lane.specs.Layout.{Words, state_of}
use Rattle.lane.specs.Calls.{if_accepted, ready_no}
use Rattle.lane.specs.Call.{cycle_call, Answer, bare, Gives}

-- sort 0: units, the 16-bit number sign-extended to 32 bits
unfoldable pub units_made : ℕ → Option Wish
units_made value =
    cond (ltb value 32768) (Some (Units (pos value)))
    (cond (ltb value 4294934528) None (Some (Units (neg_ℤ (pos (4294967296 - value))))))

-- sorts 1 and 2: an acceleration or a target speed, the float's bits; sort 3: hold, whatever the value; no other sort exists
unfoldable pub wish_made : (sort value : ℕ) → Option Wish
wish_made sort value =
    cond (eqb sort 0) (units_made value)
    (cond (eqb sort 1) (Some (Acceleration (of_bits binary32 value)))
    (cond (eqb sort 2) (Some (TargetSpeed (of_bits binary32 value)))
    (cond (eqb sort 3) (Some Hold) None)))

-- whether the numbers make no wish
abbrev pub is_unknown : Option Wish → Bool
is_unknown = is_none

-- the wish that they make
abbrev pub made_wish : Option Wish → Wish
made_wish m = unwrap_or m Hold

-- the wishes of two arrays, one after another
unfoldable pub wishes_made : (sorts values : List ℕ) → List Wish
wishes_made [] values = []
wishes_made (s ∷ sorts) [] = []
wishes_made (s ∷ sorts) (v ∷ values) = made_wish (wish_made s v) ∷ wishes_made sorts values

-- some pair of numbers makes no wish
unfoldable pub any_unknown : (sorts values : List ℕ) → Bool
any_unknown [] values = false
any_unknown (s ∷ sorts) [] = false
any_unknown (s ∷ sorts) (v ∷ values) = is_unknown (wish_made s v) || any_unknown sorts values

-- decided: 12 an array with fewer than `count`; 11 a wish of no sort that exists, or units past 16 bits
unfoldable pub wishes_no : (count : ℕ) → (sorts values : List ℕ) → ℕ
wishes_no count sorts values =
    cond (ltb (length sorts) count || ltb (length values) count) 12
    (cond (any_unknown (take count sorts) (take count values)) 11 0)

-- the first `count` wishes
abbrev pub wishes_given : (count : ℕ) → (sorts values : List ℕ) → List Wish
wishes_given count sorts values = wishes_made (take count sorts) (take count values)

-- what a cycle with wishes from two arrays gives: where they can be made, the cycle with them; else a refusal, and the lane as it was. "21, 27,
-- 28" come before anything of the wishes is looked at.
pub record GivesWith (before : Words) (count : ℕ) (sorts values : List ℕ) (a : Answer) (after : Words) : Type 0 where
  pub made : wishes_no count sorts values ≡ 0 → Gives (cycle_call count (wishes_given count sorts values)) before a after
  pub unmade : ¬ (wishes_no count sorts values ≡ 0)
      → (a ≡ bare (if_accepted (ready_no (state_of before) count) (wishes_no count sorts values) (ready_no (state_of before) count)) [])
      × (after ≡ before)
