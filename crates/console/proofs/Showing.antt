-- The lane text put into the part of the buffer after `ok=show`, whose line is put before it.
use mathlib.Core.Path.{◌≡◌, refl, sym, ap, ◌∙◌, subst}
use mathlib.Core.Bool.{Bool, true, false, cond}
use mathlib.Core.List.{List, [], ◌++◌, append_assoc, append-nil}
use Prim.Native.Nat.{ℕ, ◌+◌, ◌-◌, ◌≤◌}
use native.Mathlib.Nat.{le_refl}
use native.Mathlib.Omega.{arith}
use borrow.Author.Tests.{ne_eqb}
use borrow.Rule.Slice.PartMut.{mid_of, put_mid, mid_len, put_same}
use lib.ListN.{length, drop, replicate, length-append, length-drop, length-replicate, take-append-drop, drop_of_length-le}
use lib.Seq.{take_at, drop-drop}
use Rattle.text.specs.Ascii.{ascii}
use Rattle.text.specs.Lines.{written}
use Rattle.text.proofs.Laws.{length_written, place_fits, written_fits, written_before, Put}
use Rattle.lane.specs.Limits.{longest_text}
use Rattle.lane.specs.Layout.{Words, state_of}
use Rattle.lane.specs.State.{State}
use Rattle.lane.specs.Rules.{broken}
use Rattle.lane.specs.Listing.{lane_text, text_no}
use Rattle.lane.specs.Call.{Answer, text_call, told, call_answer, Gives}
use Rattle.lane.proofs.Laws.{text_number, text_nine, text_refused, text_answers, text_room}
use Rattle.lane.proofs.CallLaws.{answer_number, text_accepted}
use Rattle.console.specs.Limits.{answer_space}
use Rattle.console.specs.Blocks.{show_call}
use Rattle.console.specs.Output.{refusal, printed}
use Rattle.console.specs.Program.{Puts, CallGives}
use Rattle.console.proofs.Printing.{puts}

-- what a show prints: 21 alone refuses it
abbrev pub shown : State → List ℕ
shown s = cond (broken s) (refusal 21) (ascii "ok=show\n" ++ lane_text s)

-- what the lane text is answered with in a buffer with these bytes, by whether the lane is broken
by_rules : (s : State) (b : List ℕ) (t : Bool) → text_no s b ≡ cond t 21 0
    → printed (text_call b) (call_answer (text_call b) s) ≡ cond t (refusal 21) (ascii "ok=show\n" ++ lane_text s)
unfolding printed
by_rules s b true e = rw (text_refused s b (λ z. omega arith), e) refl
by_rules s b false e = rw (text_answers s b e, take_at (lane_text s) (drop (length (lane_text s)) b) (length (lane_text s)) refl) refl

-- a buffer that holds the longest text holds this one, whatever its bytes are
pub shows : (l : Words) (b : List ℕ) → longest_text ≤ length b → printed (text_call b) (call_answer (text_call b) (state_of l)) ≡ shown (state_of l)
shows l b h = by_rules (state_of l) b (broken (state_of l)) (text_number (state_of l) b (λ e. omega (arith, text_nine l b e)))

pub show_prints : (l : Words) → printed show_call (call_answer show_call (state_of l)) ≡ shown (state_of l)
unfolding show_call
show_prints l = shows l (replicate longest_text 0) (omega (arith, length-replicate {A = ℕ} longest_text 0))

-- ---- the buffer

-- the part from the 8th byte on
abbrev pub part : List ℕ → List ℕ
part xs = mid_of 8 (length xs - 8) xs

-- the buffer with other bytes there
abbrev pub with_part : (xs ys : List ℕ) → List ℕ
with_part xs ys = put_mid 8 (length xs - 8) xs ys

-- the lane text is asked for in that part, and answered so
module _ (l : Words) (xs : List ℕ) (room : answer_space ≤ length xs) {n k : ℕ} {ys : List ℕ} (g : Gives (text_call (part xs)) l (told n k ys) l) where
  part_length : length (part xs) ≡ length xs - 8
  part_length = mid_len 8 (length xs) xs (le_refl (length xs))

  -- what is printed for that answer is what a show prints
  run_shows : (output : List ℕ) → printed (text_call (part xs)) (told n k ys) ≡ output → {w : ℕ} {out : List ℕ} → Puts output xs w out
      → CallGives l show_call xs w l out
  unfolding show_call
  run_shows output e p =
      let alike = show_prints l ∙ sym (shows l (part xs) (omega (arith, part_length))) in
      record { state = sym (text_accepted (state_of l) _); kept = λ k. refl; puts = rw (alike, ← g.answer, e) p }

  number : n ≡ text_no (state_of l) (part xs)
  number = ap (λ (a : Answer). a.number) g.answer ∙ answer_number (text_call (part xs)) (state_of l)

  pub show_refused : (n ≡ 0 → ⊥) → {w : ℕ} {out : List ℕ} → Puts (refusal n) (with_part xs ys) w out → CallGives l show_call xs w l out
  unfolding printed
  show_refused h {w} {out} p =
      let as_before : ys ≡ part xs = ap (λ (a : Answer). a.bytes) (g.answer ∙ text_refused (state_of l) (part xs) (λ e. h (number ∙ e))) in
      let same : with_part xs ys ≡ xs = ap (λ (b : List ℕ). with_part xs b) as_before ∙ put_same 8 (length xs - 8) xs in
      run_shows (refusal n) (rw (ne_eqb n 0 h) refl) (subst (λ (b : List ℕ). Puts (refusal n) b w out) same p)

  module _ (accepted : n ≡ 0) where
    abbrev text : List ℕ
    text = lane_text (state_of l)

    none : text_no (state_of l) (part xs) ≡ 0
    none = sym number ∙ accepted

    fits : 8 + length text ≤ length xs
    fits = omega (arith, text_room (state_of l) (part xs) none, part_length)

    told_as : told n k ys ≡ told 0 (length text) (text ++ drop (length text) (part xs))
    told_as = g.answer ∙ text_answers (state_of l) (part xs) none

    long : k ≡ length text
    long = ap (λ (a : Answer). a.long) told_as

    -- nothing lies after the part
    after_part : drop (length xs - 8) (drop 8 xs) ≡ []
    after_part = let all : length (drop 8 xs) ≤ length xs - 8 = omega (arith, length-drop 8 xs) in drop_of_length-le (drop 8 xs) all

    part_is : part xs ≡ drop 8 xs
    part_is =
        sym (append-nil (part xs)) ∙ ap (λ (b : List ℕ). part xs ++ b) (sym after_part) ∙ take-append-drop (length xs - 8) (drop 8 xs)

    text_put : with_part xs ys ≡ written 8 text xs
    text_put =
        let bytes : ys ≡ text ++ drop (length text) (drop 8 xs) =
        ap (λ (a : Answer). a.bytes) told_as ∙ ap (λ (b : List ℕ). text ++ drop (length text) b) part_is in
        rw (after_part, append-nil, bytes, drop-drop, ← append_assoc) (sym (written_fits 8 text xs fits))

    module _ {out : List ℕ} {w : ℕ} (p : Put 0 (ascii "ok=show\n") (with_part xs ys) out w) where
      place : w ≡ 8
      place =
          let same : length (with_part xs ys) ≡ length xs = ap length text_put ∙ length_written 8 text xs in
          p.1 ∙ place_fits 0 (ascii "ok=show\n") (with_part xs ys) (omega arith)

      pub show_fits : w + k ≤ length xs
      show_fits = omega (arith, place, long, fits)

      pub show_accepted : CallGives l show_call xs (w + k) l out
      unfolding printed
      show_accepted =
          let whole : length (ascii "ok=show\n" ++ text) ≡ 8 + length text = length-append (ascii "ok=show\n") text in
          let put : Put 0 (ascii "ok=show\n" ++ text) xs out (w + k) = (
            p.0 ∙ ap (written 0 (ascii "ok=show\n")) text_put ∙ written_before 0 (ascii "ok=show\n") text xs (omega (arith, fits)),
            omega (arith, place, long, place_fits 0 (ascii "ok=show\n" ++ text) xs (omega (arith, fits))),
          ) in
          let taken = take_at text (drop (length text) (part xs)) (length text) refl in
          run_shows (ascii "ok=show\n" ++ text) (ap (printed (text_call (part xs))) told_as ∙ ap (λ (b : List ℕ). ascii "ok=show\n" ++ b) taken)
          (puts (ascii "ok=show\n" ++ text) (omega (arith, fits)) put)
