-- The road book's own walk, removal, reading of the word and motion, by the laws of the lane's calls.
use mathlib.Core.Path.{◌≡◌, refl, ap}
use mathlib.Core.Bool.{Bool, true, false, cond}
use mathlib.Core.List.{List, [], ◌∷◌}
use Prim.Native.Nat.{ℕ, zero, suc, ◌+◌, ◌/◌, ◌%◌, ◌^◌, ◌≤◌, ◌<◌, min}
use native.Mathlib.Nat.{pow-suc, div-one, div-div-eq-div-mul, mul_comm}
use native.Mathlib.Omega.{arith}
use borrow.Author.Tests.{lt-leb, le-leb}
use lib.Dec.{eqb, ltb}
use lib.IntN.{ℤ, pos, neg_ℤ}
use lib.ListN.{length, get_or}
use lib.Signed.{◌≤ℤ◌, ≤ℤ_refl}
use Rattle.headway.specs.Motion.{position_after}
use Rattle.headway.specs.Stopping.{braking}
use Rattle.headway.proofs.Laws.{braking_is, not_past_rest}
use Rattle.wish.specs.Units.{units_of}
use Rattle.wish.proofs.Laws.{no_harder}
use Rattle.wish.specs.declared.Wish.{Wish}
use Rattle.wish.specs.declared.Wish.TheVariants.{Hold}
use Rattle.lane.specs.declared.Carrier.{Carrier}
use Rattle.lane.specs.Surface.{row_in}
use Rattle.lane.specs.Safety.{first_place, numbered}
use Rattle.lane.specs.Calls.{none, insert_at, place_of, remove_at}
use Rattle.lane.proofs.CallLaws.{place_nobody, place_here, place_further}
use Rattle.lane.proofs.CycleLaws.{Drove, nobody_drives, stays_on, is_gone}
use Rattle.history.specs.Book.{Book, put_in, take_out, units_from, trimmed_in, guaranteed_in, driven_in, driven_on}
use Rattle.history.specs.Claims.{is_replaced}

-- ---- enter
module _ (c : Carrier) where
  abbrev lower : Carrier → Bool
  lower d = ltb d.position c.position

  pub put_in_is : (cs : List Carrier) → put_in c cs ≡ insert_at (first_place lower cs) c cs
  unfolding put_in
  put_in_is [] = rw (place_nobody lower) refl
  put_in_is (d ∷ cs) = by_test (lower d) refl (put_in_is cs)
    where
      by_test : (t : Bool) → lower d ≡ t → put_in c cs ≡ insert_at (first_place lower cs) c cs
          → cond t (c ∷ d ∷ cs) (d ∷ put_in c cs) ≡ insert_at (first_place lower (d ∷ cs)) c (d ∷ cs)
      by_test true e h = rw (place_here lower d cs e) refl
      by_test false e h = rw (place_further lower d cs e) (ap (λ (l : List Carrier). d ∷ l) h)

-- ---- leave: where nobody has the number, both take nobody out
pub take_out_is : (number : ℕ) (cs : List Carrier) → take_out number cs ≡ remove_at (place_of number cs) cs
unfolding take_out
take_out_is number [] = rw (place_nobody (numbered number)) refl
take_out_is number (c ∷ cs) = by_test (numbered number c) refl (take_out_is number cs)
  where
    by_test : (t : Bool) → numbered number c ≡ t → take_out number cs ≡ remove_at (place_of number cs) cs
        → cond t cs (c ∷ take_out number cs) ≡ remove_at (place_of number (c ∷ cs)) (c ∷ cs)
    by_test true e h = rw (place_here (numbered number) c cs e) refl
    by_test false e h = rw (place_further (numbered number) c cs e) (ap (λ (l : List Carrier). c ∷ l) h)

-- ---- cycle

-- holding the speed is no braking
resting : (v : ℕ) → neg_ℤ (pos v) ≤ℤ pos 0
resting v = not_past_rest 0 v (pos 0) (rw (braking_is 0 v, none_of v) (≤ℤ_refl (pos 0)))
  where
    none_of : (n : ℕ) → min 0 n ≡ 0
    none_of n = omega arith

module _ (b : Book) where
  pub driven_length : (word : ℕ) (cs : List Carrier) (ws : List Wish) → length cs ≤ length ws → length (driven_in b word cs ws) ≡ length cs
  unfolding driven_in
  driven_length word [] ws h = refl
  driven_length word (c ∷ cs) [] h = absurd (omega arith)
  driven_length word (c ∷ cs) (w ∷ ws) h = ap suc (driven_length (word / 2) cs ws (omega arith))

  -- what the carrier at a place drives goes by the word's bit of that place
  pub driven_at : (word : ℕ) (cs : List Carrier) (ws : List Wish) (i : ℕ) → i < length cs → length cs ≤ length ws
      → get_or (driven_in b word cs ws) i (pos 0)
      ≡ cond (is_replaced word i) (braking (guaranteed_in b (get_or cs i none)) (get_or cs i none).speed) (trimmed_in b (get_or cs i none) (get_or ws i Hold))
  unfolding driven_in
  driven_at word [] ws i p h = absurd (omega arith)
  driven_at word (c ∷ cs) [] i p h = absurd (omega arith)
  driven_at word (c ∷ cs) (w ∷ ws) zero p h = rw (div-one word) refl
  driven_at word (c ∷ cs) (w ∷ ws) (suc i) p h =
      rw (pow-suc 2 i, mul_comm (2 ^ i) 2, ← div-div-eq-div-mul word 2 (2 ^ i)) (driven_at (word / 2) cs ws i (omega arith) (omega arith))

  -- and is at least −v
  pub driven_at_least : (word : ℕ) (cs : List Carrier) (ws : List Wish) (i : ℕ)
      → neg_ℤ (pos (get_or cs i none).speed) ≤ℤ get_or (driven_in b word cs ws) i (pos 0)
  unfolding driven_in trimmed_in
  driven_at_least word [] ws i = ≤ℤ_refl (pos 0)
  driven_at_least word (c ∷ cs) [] i = resting (get_or (c ∷ cs) i none).speed
  driven_at_least word (c ∷ cs) (w ∷ ws) zero = by_bit (eqb (word % 2) 1)
    where
      by_bit : (t : Bool) → neg_ℤ (pos c.speed) ≤ℤ cond t (braking (guaranteed_in b c) c.speed) (trimmed_in b c w)
      by_bit true = not_past_rest (guaranteed_in b c) c.speed _ (≤ℤ_refl _)
      by_bit false =
          let r = row_in b.tables b.road in
          not_past_rest r.hardest c.speed (trimmed_in b c w)
          (rw (braking_is r.hardest c.speed) (no_harder (units_from (units_of w c.speed)) c.speed r.hardest r.most b.road.limit))
  driven_at_least word (c ∷ cs) (w ∷ ws) (suc i) = driven_at_least (word / 2) cs ws i

pub driven_on_is : {end : ℕ} {cs ds : List Carrier} {accs : List ℤ} → Drove end cs accs ds → driven_on end cs accs ≡ ds
unfolding driven_on
driven_on_is nobody_drives = refl
driven_on_is {end} (stays_on {c = c} {a = a} h d) =
    rw (lt-leb (end + c.length) (position_after c.position c.speed a) h, driven_on_is d) refl
driven_on_is {end} (is_gone {c = c} {a = a} h d) = rw (le-leb (end + c.length) (position_after c.position c.speed a) h) (driven_on_is d)
