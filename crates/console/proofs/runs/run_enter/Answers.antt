-- `console::runs::run_enter` meets its contract: a refused entry prints its number, else the lines `ok=enter` and `place=`.
use borrow.Author.Rules.{rules}
use mathlib.Core.Path.{refl}
use mathlib.Core.List.{◌++◌}
use Prim.Native.Nat.{◌≤◌}
use native.Mathlib.Omega.{arith}
use lib.ListN.{length, length-append}
use Rattle.text.specs.Ascii.{ascii}
use Rattle.text.specs.Numbers.{decimal}
use Rattle.text.specs.Lines.{line}
use Rattle.text.proofs.Laws.{put_both}
use Rattle.lane.specs.Call.{enter_call}
use Rattle.lane.proofs.Refused.{number_is}
use Rattle.console.proofs.Printing.{short_line, puts, puts_refusal, refused_keeps, call_refused, call_accepted}
use Rattle.console.proofs.runs.run_enter.Goals as goal

pub returns-in-Err : goal.returns-in-Err
returns-in-Err c =
    let g = c.in-Err.ensures in
    let x = enter_call c.args.c in
    call_refused x g (refused_keeps x g) (number_is c.in-Err.why)
    (rw (← c.number.ensures) (puts_refusal _ (omega arith) c.requires (c.put_refusal.ensures.out_after, c.put_refusal.ensures.value)))

pub returns-in-Ok : goal.returns-in-Ok
returns-in-Ok c =
    let g = c.in-Ok.ensures in
    let x = enter_call c.args.c in
    let a = c.args in
    let ok = ascii "ok=enter\n" in
    let place = line (ascii "place=") (decimal c.in-Ok.place) in
    let room : length (ok ++ place) ≤ length a.out.now =
    omega (arith, length-append ok place, short_line (ascii "place=") c.in-Ok.place (omega arith) (search rules)) in
    call_accepted x g (refused_keeps x g) refl
    (puts (ok ++ place) room
    (put_both 0 ok place a.out.now (omega (arith, room)) (c.put_bytes-first.ensures.out_after, c.put_bytes-first.ensures.value) (c.put_decimal_line.ensures.out_after, c.put_decimal_line.ensures.value)))
