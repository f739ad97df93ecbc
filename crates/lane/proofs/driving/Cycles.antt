-- The loop that drives all carriers in place: what is known at each place.
use mathlib.Core.Path.{◌≡◌, refl, sym, ap, ◌∙◌}
use mathlib.Core.Bool.{Bool, true, false, cond}
use mathlib.Core.List.{List, [], ◌∷◌, ◌++◌, append_assoc, append-nil}
use Prim.Native.Nat.{ℕ, ◌+◌, ◌*◌, ◌^◌, ◌≤◌, ◌<◌}
use native.Mathlib.Nat.{add-zero}
use native.Mathlib.Numerals.{add-one}
use native.Mathlib.Omega.{arith}
use borrow.Author.Tests.{ne_eqb}
use lib.Dec.{eqb}
use lib.IntN.{ℤ, pos}
use lib.ListN.{length, get_or, take, drop, set, length-set, length-append}
use lib.Seq.{slice, slice_empty, take-suc-set, get_or-drop, drop-drop, drop-set-lt}
use Rattle.lane.specs.declared.Carrier.{Carrier}
use Rattle.lane.specs.declared.Drive.{Drive}
use Rattle.lane.specs.declared.Road.{Road}
use Rattle.lane.specs.declared.Row.{Row}
use Rattle.lane.specs.Safety.{Ahead, nobody, leader}
use Rattle.lane.specs.Rules.{past_end}
use Rattle.lane.specs.Wishes.{drive, drives, moved, all_moved, bit, word_of, replaced_in, remaining}
use Rattle.lane.specs.Calls.{none}
use Rattle.lane.proofs.lists.Lists.{slice_next}
use Rattle.lane.proofs.checks.Soundness.{Narrow}
use Rattle.lane.proofs.lists.Words.{word_none, word_lt, word_snoc}

-- the carrier ahead of place i
abbrev pub ahead_at : ℕ → Carrier → Ahead
ahead_at i ahead = cond (eqb i 0) nobody (leader ahead)

-- what the first `count` of the carriers cs do
abbrev pub all_drives : Row → Road → (count : ℕ) → List Carrier → List ℤ → List Drive
all_drives row road count cs zs = drives row road.limit nobody (take count cs) (take count zs)

-- and those from place i on
abbrev drives_from : Row → Road → (count : ℕ) → List Carrier → List ℤ → Carrier → ℕ → List Drive
drives_from row road count cs zs ahead i = drives row road.limit (ahead_at i ahead) (slice i count cs) (slice i count zs)

-- The records were cs and are `now`. The first i carriers have driven, and `left` of them are left.
pub record Driving (row : Row) (road : Road) (count : ℕ) (cs : List Carrier) (zs : List ℤ) (now : List Carrier) (left word : ℕ) (ahead : Carrier) (i : ℕ) : Type 0 where
  pub most : count ≤ 64
  pub carriers : length cs ≡ 64
  pub units : length zs ≡ 64
  pub long : length now ≡ 64
  pub place : i ≤ count
  pub few : left ≤ i
  -- no record from here on was put
  pub still : drop i now ≡ drop i cs
  pub narrow : Narrow ahead
  pub flags : List Bool
  pub many : length flags ≡ i
  pub bits : word ≡ word_of flags
  pub marks : replaced_in (all_drives row road count cs zs) ≡ flags ++ replaced_in (drives_from row road count cs zs ahead i)
  pub kept : remaining road (all_moved (take count cs) (all_drives row road count cs zs))
      ≡ take left now ++ remaining road (all_moved (slice i count cs) (drives_from row road count cs zs ahead i))

pub driving_start : (row : Row) (road : Road) (count : ℕ) (cs : List Carrier) (zs : List ℤ) → count ≤ 64 → length cs ≡ 64 → length zs ≡ 64
    → Driving row road count cs zs cs 0 0 none 0
driving_start row road count cs zs h kc kz =
    record {
      most = h;
      carriers = kc;
      units = kz;
      long = kc;
      place = omega arith;
      few = omega arith;
      still = refl;
      narrow = record { position = omega arith; speed = omega arith; slow = omega arith; short = omega arith };
      flags = [];
      many = refl;
      bits = word_none;
      marks = refl;
      kept = refl;
    }

module _ {row : Row} {road : Road} {count : ℕ} {cs : List Carrier} {zs : List ℤ} {now : List Carrier} {left word : ℕ} {ahead : Carrier} {i : ℕ}
    (m : Driving row road count cs zs now left word ahead i) where
  pub word_below : word < 2 ^ i
  word_below = rw m.bits (rw m.many at (word_lt m.flags))

  -- the record here is as it was handed in
  pub here : get_or now i none ≡ get_or cs i none
  here = at_drop now ∙ ap (λ (l : List Carrier). get_or l 0 none) m.still ∙ sym (at_drop cs)
    where
      at_drop : (l : List Carrier) → get_or l i none ≡ get_or (drop i l) 0 none
      at_drop l = rw (get_or-drop i l 0 none, add-zero i) refl

  still_on : drop (i + 1) now ≡ drop (i + 1) cs
  still_on = sym (drop-drop 1 i now) ∙ ap (drop 1) m.still ∙ drop-drop 1 i cs

  -- one carrier more, by what the functions called at its place have given
  module _ (c : Carrier) (d : Drive) (word₁ : ℕ) (there : Carrier) (h : i < count) (narrow : Narrow c) (read : c ≡ get_or now i none) (driven : d ≡ drive row road.limit (ahead_at i ahead) c (get_or zs i (pos 0)))
      (marked : word₁ ≡ word + bit d.replaced * 2 ^ i) (moves : there ≡ moved c d.acceleration) where
    carrier_next : slice i count cs ≡ c ∷ slice (i + 1) count cs
    carrier_next = rw (read, here) (slice_next none cs i count h (omega (arith, m.most, m.carriers)))

    drives_next : drives_from row road count cs zs ahead i ≡ d ∷ drives_from row road count cs zs c (i + 1)
    unfolding drives
    drives_next =
        let late : eqb (i + 1) 0 ≡ false = ne_eqb (i + 1) 0 (λ q. omega arith) in
        rw (carrier_next, slice_next (pos 0) zs i count h (omega (arith, m.most, m.units)), late, driven) refl

    abbrev more : List Carrier
    more = all_moved (slice (i + 1) count cs) (drives_from row road count cs zs c (i + 1))

    moved_on : remaining road (all_moved (take count cs) (all_drives row road count cs zs)) ≡ take left now ++ remaining road (there ∷ more)
    unfolding all_moved
    moved_on = m.kept ∙ rw (drives_next, carrier_next, moves) refl

    -- the rest of what is known goes on alike, whether the carrier stays or is gone
    on : (next : List Carrier) (left₁ : ℕ) → length next ≡ 64 → left₁ ≤ i + 1 → drop (i + 1) next ≡ drop (i + 1) cs
        → take left now ++ remaining road (there ∷ more) ≡ take left₁ next ++ remaining road more
        → Driving row road count cs zs next left₁ word₁ c (i + 1)
    on next left₁ long few still kept =
        record {
          most = m.most;
          carriers = m.carriers;
          units = m.units;
          long = long;
          place = omega arith;
          few = few;
          still = still;
          narrow = narrow;
          flags = m.flags ++ (d.replaced ∷ []);
          many = length-append m.flags (d.replaced ∷ []) ∙ omega (arith, m.many);
          bits = marked ∙ sym (word_snoc m.flags d.replaced ∙ rw (m.many, ← m.bits) refl);
          marks = m.marks ∙ ap (λ (t : List Drive). m.flags ++ replaced_in t) drives_next
              ∙ sym (append_assoc m.flags (d.replaced ∷ []) (replaced_in (drives_from row road count cs zs c (i + 1))));
          kept = moved_on ∙ kept;
        }

    by_end : (gone : Bool) → past_end road there ≡ gone
        → Driving row road count cs zs (cond gone now (set now left there)) (cond gone left (left + 1)) word₁ c (i + 1)
    unfolding remaining
    by_end true e = on now left m.long (omega (arith, m.few)) still_on (rw e refl)
    by_end false e =
        let taken : take (left + 1) (set now left there) ≡ take left now ++ (there ∷ []) =
        rw (add-one left) (take-suc-set now left there (omega (arith, m.few, m.most, m.long)))
        in
        on (set now left there) (left + 1) (length-set now left there ∙ m.long) (omega (arith, m.few))
        (drop-set-lt (i + 1) now left there (omega (arith, m.few)) ∙ still_on)
        (rw (e, taken) (sym (append_assoc (take left now) (there ∷ []) (remaining road more))))

    pub driving_on : (next : List Carrier) (left₁ : ℕ) → next ≡ cond (past_end road there) now (set now left there)
        → left₁ ≡ cond (past_end road there) left (left + 1) → Driving row road count cs zs next left₁ word₁ c (i + 1)
    driving_on next left₁ p q = rw (p, q) (by_end (past_end road there) refl)

  -- past the last carrier
  module _ (past : count ≤ i) where
    at_end : i ≡ count
    at_end = omega (arith, m.place)

    pub all_marked : word ≡ word_of (replaced_in (all_drives row road count cs zs))
    unfolding drives
    all_marked = m.bits ∙ ap word_of (sym (m.marks ∙ rw (at_end, slice_empty count cs) (append-nil m.flags)))

    pub all_kept : take left now ≡ remaining road (all_moved (take count cs) (all_drives row road count cs zs))
    unfolding drives all_moved remaining
    all_kept = sym (m.kept ∙ rw (at_end, slice_empty count cs) (append-nil (take left now)))
