-- The laws of numbers, lines and writes: all that the crates above use of `specs/Numbers` and `specs/Lines`, whose definitions they leave shut.
use mathlib.Core.Path.{◌≡◌, refl, sym, ap, ◌∙◌}
use mathlib.Core.Bool.{Bool, true, false, cond}
use mathlib.Core.List.{List, [], ◌∷◌, ◌++◌, append_assoc, append-nil}
use Prim.Native.Nat.{ℕ, zero, suc, ◌+◌, ◌/◌, ◌%◌, ◌^◌, ◌≤◌, ◌<◌}
use native.Mathlib.Nat.{pow-suc, one-le-pow, add-zero, add_assoc}
use native.Mathlib.Numerals.{add-one}
use native.Mathlib.Decide.{dec_lt}
use native.Mathlib.Omega.{arith}
use lib.Dec.{leb}
use lib.ListN.{length, get_or, take, drop, set, length-append, length-drop, take-append-drop, get_or-append}
use lib.Seq.{length-take-le, take_at, drop_at, take-take, drop-drop, set_split}
use borrow.Author.Tests.{le-leb, lt-leb, leb-true}
use Rattle.text.specs.Numbers.{decimal, hexadecimal}
use Rattle.text.specs.Lines.{line, fits, written, place_after}
use Rattle.text.proofs.Digits.{length_digits, decimal_small, decimal_large, longer, decimal_induction}

-- ---- numbers

pub length_hexadecimal : (k n : ℕ) → length (hexadecimal k n) ≡ k
unfolding hexadecimal
length_hexadecimal k n = length_digits 16 k n

pub decimal_not_empty : (n : ℕ) → 1 ≤ length (decimal n)
decimal_not_empty =
    decimal_induction (λ (n : ℕ). 1 ≤ length (decimal n)) (λ n h. rw (decimal_small n h) (omega arith)) (λ n h p. omega (arith, longer n h))

shorter : (k n : ℕ) → Dec (n < 10) → length (decimal (n / 10)) ≤ k → length (decimal n) ≤ suc k
shorter k n (yes s) h = rw (decimal_small n s) (omega arith)
shorter k n (no l) h = omega (arith, longer n (omega arith))

-- so at most 5 digits below 2 ^ 16, 10 below 2 ^ 32 and 20 below 2 ^ 64
pub decimal_at_most : (k n : ℕ) → 1 ≤ k → n < 10 ^ k → length (decimal n) ≤ k
decimal_at_most zero n hk h = absurd (omega arith)
decimal_at_most (suc zero) n hk h = rw (decimal_small n h) (omega arith)
decimal_at_most (suc (suc k)) n hk h =
    shorter (suc k) n (dec_lt n 10) (decimal_at_most (suc k) (n / 10) (omega arith) (omega (arith, pow-suc 10 (suc k))))

pub decimal_more : (k n : ℕ) → 10 ^ k ≤ n → k < length (decimal n)
decimal_more zero n h = omega (arith, decimal_not_empty n)
decimal_more (suc k) n h =
    let p = pow-suc 10 k in
    omega (arith, longer n (omega (arith, one-le-pow k 10 (omega arith))), decimal_more k (n / 10) (omega arith))

-- "without leading zeros"
pub decimal_no_leading_zero : (n : ℕ) → 1 ≤ n → 49 ≤ get_or (decimal n) 0 0
decimal_no_leading_zero =
    decimal_induction (λ (n : ℕ). 1 ≤ n → 49 ≤ get_or (decimal n) 0 0)
    (λ n s h. rw (decimal_small n s) (omega arith))
    (λ n l p h.
    rw (decimal_large n l, get_or-append (decimal (n / 10)) ((48 + n % 10) ∷ []) 0 0 (decimal_not_empty (n / 10))) (p (omega arith)))

-- ---- lines

pub length_line : (key value : List ℕ) → length (line key value) ≡ length key + length value + 1
unfolding line
length_line key value = simp length-append

-- ---- writes

module _ (at : ℕ) (bytes buffer : List ℕ) where
  pub written_fits : at + length bytes ≤ length buffer → written at bytes buffer ≡ take at buffer ++ bytes ++ drop (at + length bytes) buffer
  unfolding written fits
  written_fits room = rw le-leb

  pub place_fits : at + length bytes ≤ length buffer → place_after at bytes buffer ≡ at + length bytes
  unfolding place_after fits
  place_fits room = rw le-leb

  pub written_too_long : length buffer < at + length bytes → written at bytes buffer ≡ buffer
  unfolding written fits
  written_too_long over = rw lt-leb

  pub place_too_long : length buffer < at + length bytes → place_after at bytes buffer ≡ at
  unfolding place_after fits
  place_too_long over = rw lt-leb

  -- the two at once, as a function that puts nothing ensures them
  pub nothing_put : length buffer < at + length bytes → (buffer ≡ written at bytes buffer) × (at ≡ place_after at bytes buffer)
  nothing_put over = (sym (written_too_long over), sym (place_too_long over))

by_test : (b : Bool) (P : List ℕ → Type 0) {x y : List ℕ} → (b ≡ true → P x) → P y → P (cond b x y)
by_test true P f g = f refl
by_test false P f g = g

-- what holds of a buffer, and of it with bytes that fit, holds of it with any
by_fit : (P : List ℕ → Type 0) (at : ℕ) (bytes buffer : List ℕ)
    → (at + length bytes ≤ length buffer → P (take at buffer ++ bytes ++ drop (at + length bytes) buffer)) → P buffer → P (written at bytes buffer)
unfolding written fits
by_fit P at bytes buffer f g =
    by_test (leb (at + length bytes) (length buffer)) P (λ e. f (leb-true (at + length bytes) (length buffer) e)) g

length_head : (at : ℕ) (bytes buffer : List ℕ) → at + length bytes ≤ length buffer → length (take at buffer ++ bytes) ≡ at + length bytes
length_head at bytes buffer h = length-append (take at buffer) bytes ∙ ap (λ (k : ℕ). k + length bytes) (length-take-le at buffer (omega arith))

pub length_written : (at : ℕ) (bytes buffer : List ℕ) → length (written at bytes buffer) ≡ length buffer
length_written at bytes buffer =
    by_fit (λ (l : List ℕ). length l ≡ length buffer) at bytes buffer
    (λ h.
    length-append (take at buffer ++ bytes) (drop (at + length bytes) buffer)
    ∙ omega (arith, length_head at bytes buffer h, length-drop (at + length bytes) buffer))
    refl

-- the bytes before a write and after it don't change
pub take_written : (at : ℕ) (bytes buffer : List ℕ) → take at (written at bytes buffer) ≡ take at buffer
take_written at bytes buffer =
    by_fit (λ (l : List ℕ). take at l ≡ take at buffer) at bytes buffer
    (λ h. rw append_assoc (take_at (take at buffer) (bytes ++ drop (at + length bytes) buffer) at (length-take-le at buffer (omega arith))))
    refl

pub drop_written : (at : ℕ) (bytes buffer : List ℕ) → drop (at + length bytes) (written at bytes buffer) ≡ drop (at + length bytes) buffer
drop_written at bytes buffer =
    by_fit (λ (l : List ℕ). drop (at + length bytes) l ≡ drop (at + length bytes) buffer) at bytes buffer
    (λ h. drop_at (take at buffer ++ bytes) (drop (at + length bytes) buffer) (at + length bytes) (length_head at bytes buffer h))
    refl

-- a buffer up to a write's end, and from its start on
module _ (at : ℕ) (bytes buffer : List ℕ) (room : at + length bytes ≤ length buffer) where
  pub written_up_to : take (at + length bytes) (written at bytes buffer) ≡ take at buffer ++ bytes
  written_up_to =
      rw (written_fits at bytes buffer room)
      (take_at (take at buffer ++ bytes) (drop (at + length bytes) buffer) (at + length bytes) (length_head at bytes buffer room))

  pub written_from : drop at (written at bytes buffer) ≡ bytes ++ drop (at + length bytes) buffer
  written_from =
      rw (written_fits at bytes buffer room, append_assoc)
      (drop_at (take at buffer) (bytes ++ drop (at + length bytes) buffer) at (length-take-le at buffer (omega arith)))

pub written_nothing : (at : ℕ) (buffer : List ℕ) → written at [] buffer ≡ buffer
written_nothing at buffer =
    by_fit (λ (l : List ℕ). l ≡ buffer) at [] buffer (λ room. rw (append-nil, add-zero) (take-append-drop at buffer)) refl

-- two writes, one after the other, in either order
module _ (at : ℕ) (first second buffer : List ℕ) (room : at + length first + length second ≤ length buffer) where
  both : written at (first ++ second) buffer ≡ take at buffer ++ first ++ second ++ drop (at + length first + length second) buffer
  both = written_fits at (first ++ second) buffer (simp length-append (omega arith)) ∙ simp (length-append, append_assoc, add_assoc)

  pub written_then : written (at + length first) second (written at first buffer) ≡ written at (first ++ second) buffer
  written_then =
      written_fits (at + length first) second (written at first buffer) (rw length_written room)
      ∙ rw (written_up_to at first buffer (omega arith), ← drop-drop, drop_written, drop-drop) (sym both)

  pub written_before : written at first (written (at + length first) second buffer) ≡ written at (first ++ second) buffer
  written_before =
      written_fits at first (written (at + length first) second buffer) (rw length_written (omega arith))
      ∙ rw (
        ← take-take at (at + length first) (written (at + length first) second buffer) (omega arith),
        take_written,
        take-take at (at + length first) buffer (omega arith),
        written_from (at + length first) second buffer room,
      ) (sym (append_assoc (take at buffer ++ first) second (drop (at + length first + length second) buffer)) ∙ sym both)

-- a store is a write of one byte
pub written_one : (at byte : ℕ) (buffer : List ℕ) → at < length buffer → written at (byte ∷ []) buffer ≡ set buffer at byte
written_one at byte buffer h = written_fits at (byte ∷ []) buffer (omega arith) ∙ rw (append_assoc, add-one) (sym (set_split buffer at byte h))

-- what ends a line
abbrev pub newline : List ℕ
newline = 10 ∷ []

-- a line's key, then its newline, then the value between them
pub written_line : (at : ℕ) (key value buffer : List ℕ) → at + length (line key value) ≤ length buffer
    → written (at + length key) value (written (at + length key + length value) newline (written at key buffer)) ≡ written at (line key value) buffer
unfolding line
written_line at key value buffer room =
    let e : length (key ++ value ++ newline) ≡ length key + length value + 1 = simp length-append in
    let f : length (value ++ newline) ≡ length value + 1 = length-append value newline in
    written_before (at + length key) value newline (written at key buffer) (rw length_written (omega (arith, e)))
    ∙ written_then at key (value ++ newline) buffer (omega (arith, e, f))
    ∙ ap (λ (t : List ℕ). written at t buffer) (sym (append_assoc key value newline))

-- bytes put at a place and the place after them, as a function that puts them ensures it
abbrev pub Put : (at : ℕ) (bytes buffer out : List ℕ) (end : ℕ) → Type 0
Put at bytes buffer out end = (out ≡ written at bytes buffer) × (end ≡ place_after at bytes buffer)

-- bytes put one after the other
pub put_both : (at : ℕ) (first second buffer : List ℕ) {place end : ℕ} {middle out : List ℕ} → at + length (first ++ second) ≤ length buffer
    → Put at first buffer middle place → Put place second middle out end → Put at (first ++ second) buffer out end
put_both at first second buffer {place} {end} {middle} {out} room p q =
    let long : length (first ++ second) ≡ length first + length second = length-append first second in
    let same : length middle ≡ length buffer = ap length p.0 ∙ length_written at first buffer in
    let e : place ≡ at + length first = p.1 ∙ place_fits at first buffer (omega arith) in (
      cc (written_then at first second buffer (omega arith)),
      q.1 ∙ place_fits place second middle (omega arith) ∙ omega arith ∙ sym (place_fits at (first ++ second) buffer room),
    )

-- a text put piece by piece: `left` is still to be put, and there is room
pub record Putting (all : List ℕ) (from : ℕ) (out₀ out : List ℕ) (at : ℕ) (left : List ℕ) : Type 0 where
  pub same : length out ≡ length out₀
  pub ends : at + length left ≡ from + length all
  pub room : at + length left ≤ length out
  pub rest : written at left out ≡ written from all out₀

pub putting_start : (all : List ℕ) (from : ℕ) (out : List ℕ) → from + length all ≤ length out → Putting all from out out from all
putting_start all from out room = record { same = refl; ends = refl; room = room; rest = refl }

module _ {all : List ℕ} {from at : ℕ} {out₀ out left : List ℕ} (p : Putting all from out₀ out at left) where
  pub putting_next : {next : ℕ} {out₁ : List ℕ} (piece rest : List ℕ) → left ≡ piece ++ rest → out₁ ≡ written at piece out → next ≡ at + length piece
      → Putting all from out₀ out₁ next rest
  putting_next piece rest e f g =
      let long = ap length e ∙ length-append piece rest in
      let same = ap length f ∙ length_written at piece out in
      record {
        same = same ∙ p.same;
        ends = omega (arith, p.ends);
        room = omega (arith, p.room);
        rest = cc (written_then at piece rest out (omega (arith, p.room)), e, p.rest);
      }

  pub putting_end : left ≡ [] → (out ≡ written from all out₀) × (at ≡ from + length all)
  putting_end e = (cc (written_nothing at out, e, p.rest), omega (arith, ap length e, p.ends))
