-- A cycle run, against the road book that holds what the state holds: what the book is told, where it puts the carriers, what is claimed.
use mathlib.Core.Path.{◌≡◌, refl, sym, ap, ◌∙◌}
use mathlib.Core.Bool.{Bool, true, false, not, cond, ◌&&◌}
use mathlib.Core.List.{List}
use Prim.Native.Nat.{ℕ, ◌+◌, ◌-◌, ◌<◌}
use native.Mathlib.Omega.{arith}
use borrow.Author.Tests.{ltb-true}
use lib.Dec.{ltb}
use lib.IntN.{ℤ, pos}
use lib.ListN.{length}
use lib.Seq.{ext_get_or}
use Rattle.headway.specs.Stopping.{braking}
use Rattle.headway.specs.Wishes.{rests_behind}
use Rattle.wish.specs.declared.Wish.{Wish}
use Rattle.lane.specs.declared.Carrier.{Carrier}
use Rattle.lane.specs.Surface.{row_in}
use Rattle.lane.specs.State.{State}
use Rattle.lane.proofs.CycleLaws.{CycleRun, carrier_of, wish_of}
use Rattle.history.specs.Book.{Book, trimmed_in, guaranteed_in, driven_in, driven_on}
use Rattle.history.specs.Claims.{NeverTouching, ReplacedWhenCrossing, rests_level_or_crossed, is_replaced}
use Rattle.history.proofs.Books.{driven_length, driven_at, driven_on_is}

-- the book that holds what the state holds
abbrev pub book_of : State → Book
book_of s = record { road = s.road; tables = s.tables; carriers = s.carriers }

module _ (s : State) (ws : List Wish) (word : ℕ) (after : List Carrier) (r : CycleRun s ws word after) where
  same_wish : (i : ℕ) → i < length s.carriers → trimmed_in (book_of s) (carrier_of s i) (wish_of ws i) ≡ r.trimmed i
  unfolding trimmed_in
  same_wish i h =
      let w = r.wished i h in
      rw (w.within, w.trimmed) refl

  told : driven_in (book_of s) word s.carriers ws ≡ r.accelerations
  told =
      ext_get_or (pos 0) _ _ (driven_length (book_of s) word s.carriers ws r.enough ∙ sym r.as_many) λ i h.
      let here : i < length s.carriers = omega (arith, driven_length (book_of s) word s.carriers ws r.enough) in
      driven_at (book_of s) word s.carriers ws i here r.enough
      ∙ ap (cond (is_replaced word i) (braking (guaranteed_in (book_of s) (carrier_of s i)) (carrier_of s i).speed)) (same_wish i here)
      ∙ sym (r.drives_as_told i here)

  pub run_carriers : after ≡ driven_on s.road.end s.carriers (driven_in (book_of s) word s.carriers ws)
  run_carriers = rw told (sym (driven_on_is r.leaves))

  pub run_never_touching : NeverTouching (book_of s) word ws
  run_never_touching n k i j hn hk p q = rw told (r.apart n k i j hn hk p q)

  pub run_replaces_crossing : ReplacedWhenCrossing (book_of s) word ws
  unfolding rests_level_or_crossed
  run_replaces_crossing i = r.replaces i ∙ ap (λ (t : Bool). ltb 0 i && t) (by_test (ltb i (length s.carriers)) refl)
    where
      rests : ℤ → Bool
      rests w = rests_behind (guaranteed_in (book_of s) (carrier_of s i)) (row_in s.tables s.road).hardest ((carrier_of s i).position + (carrier_of s (i - 1)).length) (carrier_of s i).speed w (carrier_of s (i - 1)).position (carrier_of s (i - 1)).speed

      by_test : (t : Bool) → ltb i (length s.carriers) ≡ t → t && not (rests (r.trimmed i)) ≡ t && not (rests (trimmed_in (book_of s) (carrier_of s i) (wish_of ws i)))
      by_test true e = ap (λ (w : ℤ). not (rests w)) (sym (same_wish i (ltb-true i (length s.carriers) e)))
      by_test false e = refl
