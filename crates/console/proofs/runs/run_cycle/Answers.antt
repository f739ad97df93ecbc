-- `console::runs::run_cycle` meets its contract: a refused cycle prints its number, else the lines `ok=cycle`, `over=` and `gone=`.
use mathlib.Core.Path.{refl}
use mathlib.Core.List.{◌++◌}
use Prim.Native.Nat.{◌≤◌, ◌<◌}
use native.Mathlib.Omega.{arith}
use lib.ListN.{length, length-append}
use Rattle.text.specs.Ascii.{ascii}
use Rattle.text.specs.Numbers.{decimal, hexadecimal}
use Rattle.text.specs.Lines.{line}
use Rattle.text.proofs.Laws.{length_line, length_hexadecimal, put_both}
use Rattle.lane.specs.Call.{cycle_call}
use Rattle.lane.proofs.Refused.{number_is}
use Rattle.console.proofs.Printing.{short_line, puts, puts_refusal, refused_keeps, call_refused, call_accepted}
use Rattle.console.proofs.runs.run_cycle.Goals.{In-Ok}
use Rattle.console.proofs.runs.run_cycle.Goals as goal

gone_fits : (k : In-Ok) → k.in-Ok.cycled.gone < 18446744073709551616
gone_fits k = omega arith

pub returns-in-Err : goal.returns-in-Err
returns-in-Err c =
    let g = c.in-Err.ensures in
    let x = cycle_call c.args.count c.args.wishes in
    call_refused x g (refused_keeps x g) (number_is c.in-Err.why)
    (rw (← c.number.ensures) (puts_refusal _ (omega arith) c.requires (c.put_refusal.ensures.out_after, c.put_refusal.ensures.value)))

pub returns-in-Ok : goal.returns-in-Ok
returns-in-Ok c =
    let g = c.in-Ok.ensures in
    let x = cycle_call c.args.count c.args.wishes in
    let a = c.args in
    let ok = ascii "ok=cycle\n" in
    let over = line (ascii "over=") (hexadecimal 16 c.in-Ok.cycled.word) in
    let gone = line (ascii "gone=") (decimal c.in-Ok.cycled.gone) in
    let two = length-append ok over in
    let three = length-append (ok ++ over) gone in
    let hex : length over ≤ 29 = omega (arith, length_line (ascii "over=") (hexadecimal 16 c.in-Ok.cycled.word), length_hexadecimal 16 c.in-Ok.cycled.word) in
    let dec : length gone ≤ 29 = short_line (ascii "gone=") c.in-Ok.cycled.gone (omega arith) (gone_fits (goal.at.returns-in-Ok c).In-Ok) in
    call_accepted x g (refused_keeps x g) refl
    (puts (ok ++ over ++ gone) (omega arith)
    (put_both 0 (ok ++ over) gone a.out.now (omega arith)
    (put_both 0 ok over a.out.now (omega arith) (c.put_bytes-first.ensures.out_after, c.put_bytes-first.ensures.value) (c.put_hexadecimal_line-second.ensures.out_after, c.put_hexadecimal_line-second.ensures.value))
    (c.put_decimal_line.ensures.out_after, c.put_decimal_line.ensures.value)))
