-- Every answer fits into a buffer of 4,096 bytes.
use mathlib.Core.Path.{◌≡◌, refl, ap}
use mathlib.Core.Bool.{Bool, true, false, cond}
use mathlib.Core.List.{◌++◌}
use Prim.Native.Nat.{ℕ, ◌≤◌, ◌<◌}
use native.Mathlib.Omega.{arith}
use borrow.Author.Tests.{eqb-true}
use lib.Dec.{eqb}
use lib.ListN.{length, take, length-append, length-take}
use Rattle.text.specs.Ascii.{ascii}
use Rattle.text.specs.Numbers.{decimal, hexadecimal}
use Rattle.text.specs.Lines.{line}
use Rattle.text.proofs.Laws.{length_line, length_hexadecimal}
use Rattle.lane.specs.Layout.{Words, state_of}
use Rattle.lane.specs.Call.{Call, start_call, load_call, enter_call, leave_call, surface_call, cycle_call, read_call, opening_call, text_call, handover_call, Answer, call_no, call_answer}
use Rattle.lane.proofs.Laws.{text_answers, text_short}
use Rattle.lane.proofs.CallLaws.{answer_number, two_digits}
use Rattle.lane.proofs.Answerable.{place_small, gone_small}
use Rattle.console.specs.Limits.{answer_space}
use Rattle.console.specs.Output.{refusal, accepted_text, printed}
use Rattle.console.proofs.Printing.{short_line}

pub refusal_fits : (n : ℕ) → n < 100 → length (refusal n) ≤ 29
unfolding refusal
refusal_fits n h = short_line (ascii "no=") n (omega arith) (omega arith)

accepted_fits : (x : Call) (l : Words) → call_no x (state_of l) ≡ 0 → length (accepted_text x (call_answer x (state_of l))) ≤ answer_space
accepted_fits (start_call road first) l z = omega arith
accepted_fits (load_call text) l z = omega arith
accepted_fits (enter_call c) l z =
    let place = (call_answer (enter_call c) (state_of l)).place in
    omega (
      arith,
      length-append (ascii "ok=enter\n") (line (ascii "place=") (decimal place)),
      short_line (ascii "place=") place (omega arith) (omega (arith, place_small l c z)),
    )
accepted_fits (leave_call number) l z = omega arith
accepted_fits (surface_call code) l z = omega arith
accepted_fits (cycle_call count ws) l z =
    let a = call_answer (cycle_call count ws) (state_of l) in
    let over = line (ascii "over=") (hexadecimal 16 a.word) in
    let gone = line (ascii "gone=") (decimal a.gone) in
    omega (
      arith,
      length-append (ascii "ok=cycle\n") over,
      length-append (ascii "ok=cycle\n" ++ over) gone,
      length_line (ascii "over=") (hexadecimal 16 a.word),
      length_hexadecimal 16 a.word,
      short_line (ascii "gone=") a.gone (omega arith) (omega (arith, gone_small (state_of l) count ws z)),
    )
accepted_fits (read_call number) l z = omega arith
accepted_fits (opening_call g n) l z = omega arith
accepted_fits (handover_call buffer) l z = omega arith
accepted_fits (text_call buffer) l z =
    let a = call_answer (text_call buffer) (state_of l) in
    omega (
      arith,
      length-append (ascii "ok=show\n") (take a.long a.bytes),
      length-take a.long a.bytes,
      ap (λ (b : Answer). b.long) (text_answers (state_of l) buffer z),
      text_short l buffer z,
    )

pub fits : (x : Call) (l : Words) → length (printed x (call_answer x (state_of l))) ≤ answer_space
unfolding printed
fits x l = by_test (eqb (call_answer x (state_of l)).number 0) refl
  where
    by_test : (t : Bool) → eqb (call_answer x (state_of l)).number 0 ≡ t
        → length (cond t (accepted_text x (call_answer x (state_of l))) (refusal (call_answer x (state_of l)).number)) ≤ answer_space
    by_test true e = accepted_fits x l (omega (arith, answer_number x (state_of l), eqb-true (call_answer x (state_of l)).number 0 e))
    by_test false e =
        omega (arith, refusal_fits (call_answer x (state_of l)).number (omega (arith, answer_number x (state_of l), two_digits x (state_of l))))
