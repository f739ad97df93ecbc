-- Wishes that ask for the same: a cycle with either answers the same and leaves the same.
use mathlib.Core.Path.{◌≡◌, refl, ap, ap₂}
use mathlib.Core.Bool.{Bool, ◌||◌}
use mathlib.Core.List.{List, [], ◌∷◌, ◌++◌}
use Prim.Native.Nat.{ℕ, zero, suc}
use lib.IntN.{ℤ}
use lib.ListN.{length, take}
use Rattle.wish.specs.Units.{units_of}
use Rattle.wish.specs.declared.Wish.{Wish}
use Rattle.lane.specs.declared.Carrier.{Carrier}
use Rattle.lane.specs.State.{State}
use Rattle.lane.specs.Wishes.{is_outside, units_in, wished_units, any_outside}
use Rattle.lane.specs.Calls.{cycle_drives, cycle_no, cycle_word, cycle_replaced, cycle_carriers, cycle_gone, cycled_state}
use Rattle.lane.specs.Call.{cycle_call, call_answer, call_state}

-- each has the units of the other's wish at its place, at every speed
pub data Alike : List Wish → List Wish → Type 0 where
  nothing : Alike [] []
  first : {w x : Wish} {ws xs : List Wish} → ((v : ℕ) → units_of w v ≡ units_of x v) → Alike ws xs → Alike (w ∷ ws) (x ∷ xs)

pub alike_same : (ws : List Wish) → Alike ws ws
alike_same [] = nothing
alike_same (w ∷ ws) = first (λ v. refl) (alike_same ws)

pub alike_append : {ws xs ys zs : List Wish} → Alike ws xs → Alike ys zs → Alike (ws ++ ys) (xs ++ zs)
alike_append nothing b = b
alike_append (first e a) b = first e (alike_append a b)

pub alike_length : {ws xs : List Wish} → Alike ws xs → length ws ≡ length xs
alike_length nothing = refl
alike_length (first e a) = ap suc (alike_length a)

alike_take : (n : ℕ) {ws xs : List Wish} → Alike ws xs → Alike (take n ws) (take n xs)
alike_take zero a = nothing
alike_take (suc n) nothing = nothing
alike_take (suc n) (first e a) = first e (alike_take n a)

units_alike : (cs : List Carrier) {ws xs : List Wish} → Alike ws xs → wished_units cs ws ≡ wished_units cs xs
unfolding wished_units
units_alike [] a = refl
units_alike (c ∷ cs) nothing = refl
units_alike (c ∷ cs) (first e a) = ap₂ (λ (z : ℤ) (zs : List ℤ). z ∷ zs) (ap units_in (e c.speed)) (units_alike cs a)

outside_alike : (cs : List Carrier) {ws xs : List Wish} → Alike ws xs → any_outside cs ws ≡ any_outside cs xs
unfolding any_outside
outside_alike [] a = refl
outside_alike (c ∷ cs) nothing = refl
outside_alike (c ∷ cs) (first e a) = ap₂ (λ (t u : Bool). t || u) (ap is_outside (e c.speed)) (outside_alike cs a)

pub cycle_alike : (count : ℕ) (s : State) {ws xs : List Wish} → Alike ws xs
    → (call_answer (cycle_call count ws) s ≡ call_answer (cycle_call count xs) s) × (call_state (cycle_call count ws) s ≡ call_state (cycle_call count xs) s)
unfolding call_answer call_state cycle_no cycle_word cycle_replaced cycle_gone cycled_state cycle_carriers cycle_drives
cycle_alike count s a = let few = alike_take s.count a in rw (units_alike s.carriers few, outside_alike s.carriers few) (refl, refl)
