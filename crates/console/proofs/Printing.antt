-- What is put into the buffer for a call.
use mathlib.Core.Path.{◌≡◌, sym, ap, ◌∙◌}
use mathlib.Core.Bool.{true}
use mathlib.Core.List.{List, []}
use Prim.Native.Nat.{ℕ, ◌≤◌, ◌<◌}
use native.Mathlib.Decide.{dec_lt}
use native.Mathlib.Omega.{arith}
use borrow.Author.Tests.{eq-eqb, ne_eqb, ltb-true}
use lib.Dec.{ltb}
use lib.ListN.{length}
use Rattle.text.specs.Ascii.{ascii}
use Rattle.text.specs.Numbers.{decimal}
use Rattle.text.specs.Lines.{line, written, place_after}
use Rattle.text.proofs.Laws.{decimal_at_most, length_line, place_fits, place_too_long, written_nothing, Put}
use Rattle.lane.specs.Layout.{Words, state_of}
use Rattle.lane.specs.Call.{Call, Answer, call_answer, Gives}
use Rattle.console.specs.Limits.{answer_space}
use Rattle.console.specs.Output.{refusal, accepted_text, printed, keeps_lane}
use Rattle.console.specs.Program.{Puts, CallGives}

-- what is put lies within the buffer
pub put_within : (bytes buffer : List ℕ) {out : List ℕ} {end : ℕ} → Put 0 bytes buffer out end
    → (out ≡ written 0 bytes buffer) × ((end ≡ place_after 0 bytes buffer) × (end ≤ length buffer))
put_within bytes buffer {out} {end} p = (p.0, (p.1, by_length (dec_lt (length buffer) (length bytes))))
  where
    by_length : Dec (length buffer < length bytes) → end ≤ length buffer
    by_length (yes h) = omega (arith, p.1, place_too_long 0 bytes buffer (omega arith))
    by_length (no h) = omega (arith, p.1, place_fits 0 bytes buffer (omega arith))

pub put_nothing : (buffer : List ℕ) → Put 0 [] buffer buffer 0
put_nothing buffer = (sym (written_nothing 0 buffer), sym (place_fits 0 [] buffer (omega arith)))

-- a line of a short key with a number of 64 bits
pub short_line : (key : List ℕ) (n : ℕ) → length key ≤ 8 → n < 18446744073709551616 → length (line key (decimal n)) ≤ 29
short_line key n h k = omega (arith, length_line key (decimal n), decimal_at_most 20 n (omega arith) (omega arith))

-- what fits at the start is put there
pub puts : (output : List ℕ) {buffer out : List ℕ} {w : ℕ} → length output ≤ length buffer → Put 0 output buffer out w → Puts output buffer w out
puts output room p = record { written_length = p.1 ∙ place_fits 0 output _ (omega arith) ∙ omega arith; room = room; bytes = p.0 }

-- and a refusal fits
pub puts_refusal : (n : ℕ) {buffer out : List ℕ} {w : ℕ} → n < 18446744073709551616 → answer_space ≤ length buffer → Put 0 (refusal n) buffer out w
    → Puts (refusal n) buffer w out
unfolding refusal
puts_refusal n h room p = puts (refusal n) (omega (arith, short_line (ascii "no=") n (omega arith) h)) p

-- ---- a call on a lane has answered so
module _ (x : Call) {before after : Words} {a : Answer} (g : Gives x before a after) where
  -- where it is refused, the very lane is left
  pub refused_keeps : ltb 0 (call_answer x (state_of before)).number ≡ true → after ≡ before
  refused_keeps k =
      g.refused (omega (arith, ltb-true 0 (call_answer x (state_of before)).number k, ap (λ (b : Answer). b.number) g.answer))

  -- and what is printed for it is put
  module _ {buffer out : List ℕ} {w : ℕ} (kept : keeps_lane x (call_answer x (state_of before)) ≡ true → after ≡ before) where
    pub call_gives : Puts (printed x a) buffer w out → CallGives before x buffer w after out
    call_gives p = record { state = g.state; kept = kept; puts = rw (← g.answer) p }

    pub call_refused : (a.number ≡ 0 → ⊥) → Puts (refusal a.number) buffer w out → CallGives before x buffer w after out
    unfolding printed
    call_refused h p = call_gives (rw (ne_eqb a.number 0 h) p)

    pub call_accepted : a.number ≡ 0 → Puts (accepted_text x a) buffer w out → CallGives before x buffer w after out
    unfolding printed
    call_accepted e p = call_gives (rw (eq-eqb a.number 0 e) p)
