-- The loop that converts the wishes of all carriers, whatever they are made of: what is known at each place.
use mathlib.Core.Path.{◌≡◌, refl, sym, ap, ◌∙◌}
use mathlib.Core.Bool.{true, false, ◌||◌}
use mathlib.Core.List.{List, [], ◌∷◌, ◌++◌, append_assoc, append-nil}
use Prim.Native.Nat.{ℕ, ◌+◌, ◌≤◌, ◌<◌}
use native.Mathlib.Numerals.{add-one}
use native.Mathlib.Omega.{arith}
use lib.IntN.{ℤ}
use lib.ListN.{length, get_or, take, set, length-set}
use lib.Seq.{slice, slice_empty, take-suc-set}
use Rattle.std.specs.Prelude.{Option, None}
use Rattle.wish.specs.Units.{units_of}
use Rattle.wish.specs.declared.Wish.{Wish}
use Rattle.lane.specs.declared.Carrier.{Carrier}
use Rattle.lane.specs.Wishes.{is_outside, units_in, wished_units, any_outside}
use Rattle.lane.specs.Calls.{none}
use Rattle.lane.proofs.lists.Lists.{slice_next}

-- the first i wishes are converted, and none of them is outside its range
pub record Converting (count : ℕ) (cs : List Carrier) (ws : List Wish) (zs : List ℤ) (i : ℕ) : Type 0 where
  pub most : count ≤ 64
  pub carriers : length cs ≡ 64
  pub wishes : count ≤ length ws
  pub long : length zs ≡ 64
  pub place : i ≤ count
  pub inside : any_outside (take count cs) (take count ws) ≡ any_outside (slice i count cs) (slice i count ws)
  pub units : wished_units (take count cs) (take count ws) ≡ take i zs ++ wished_units (slice i count cs) (slice i count ws)

pub converting_start : (count : ℕ) (cs : List Carrier) (ws : List Wish) (zs : List ℤ) → count ≤ 64 → length cs ≡ 64 → count ≤ length ws → length zs ≡ 64
    → Converting count cs ws zs 0
converting_start count cs ws zs h kc kw kz =
    record { most = h; carriers = kc; wishes = kw; long = kz; place = omega arith; inside = refl; units = refl }

module _ {count : ℕ} {cs : List Carrier} {ws : List Wish} {zs : List ℤ} {i : ℕ} (m : Converting count cs ws zs i) where
  -- the next wish, or a w with the same units, has the units u, or is outside its range
  module _ (y w : Wish) (e : (v : ℕ) → units_of w v ≡ units_of (get_or ws i y) v) (u : Option ℤ) (told : u ≡ units_of w (get_or cs i none).speed) (h : i < count) where
    carrier_next : slice i count cs ≡ get_or cs i none ∷ slice (i + 1) count cs
    carrier_next = slice_next none cs i count h (omega (arith, m.most, m.carriers))

    wish_next : slice i count ws ≡ get_or ws i y ∷ slice (i + 1) count ws
    wish_next = slice_next y ws i count h m.wishes

    units_here : units_of (get_or ws i y) (get_or cs i none).speed ≡ u
    units_here = sym (told ∙ e (get_or cs i none).speed)

    outside_next : any_outside (slice i count cs) (slice i count ws) ≡ is_outside u || any_outside (slice (i + 1) count cs) (slice (i + 1) count ws)
    unfolding any_outside
    outside_next = rw (carrier_next, wish_next, units_here) refl

    units_next : wished_units (slice i count cs) (slice i count ws) ≡ units_in u ∷ wished_units (slice (i + 1) count cs) (slice (i + 1) count ws)
    unfolding wished_units
    units_next = rw (carrier_next, wish_next, units_here) refl

    pub outside_here : u ≡ None → any_outside (take count cs) (take count ws) ≡ true
    outside_here o = m.inside ∙ outside_next ∙ rw o refl

    pub converted_here : is_outside u ≡ false → (next : List ℤ) → next ≡ set zs i (units_in u) → Converting count cs ws next (i + 1)
    converted_here o next p =
        let z : ℤ = units_in u in
        let taken : take (i + 1) next ≡ take i zs ++ (z ∷ []) = rw (p, add-one i) (take-suc-set zs i z (omega (arith, m.long, m.most))) in
        record {
          most = m.most;
          carriers = m.carriers;
          wishes = m.wishes;
          long = ap length p ∙ length-set zs i z ∙ m.long;
          place = omega arith;
          inside = m.inside ∙ outside_next ∙ rw o refl;
          units = m.units ∙ rw (units_next, taken) (sym (append_assoc (take i zs) (z ∷ []) _));
        }

  -- past the last wish
  module _ (past : count ≤ i) where
    at_end : i ≡ count
    at_end = omega (arith, m.place)

    pub none_outside : any_outside (take count cs) (take count ws) ≡ false
    unfolding any_outside
    none_outside = m.inside ∙ rw (at_end, slice_empty count cs) refl

    pub all_converted : take count zs ≡ wished_units (take count cs) (take count ws)
    unfolding wished_units
    all_converted = sym (m.units ∙ rw (at_end, slice_empty count cs) (append-nil (take count zs)))
