-- Document 01, "Call texts": what the program prints for a call, by the call's answer.
use Rattle.std.specs.Prelude.{ℕ, Bool, ◌||◌, List, [], ◌++◌, ltb, take}
use Rattle.text.specs.Ascii.{ascii}
use Rattle.text.specs.Numbers.{decimal, hexadecimal}
use Rattle.text.specs.Lines.{line}
use Rattle.lane.specs.Calls.{if_accepted}
use Rattle.lane.specs.Call.{Call, start_call, load_call, enter_call, leave_call, surface_call, cycle_call, read_call, opening_call, text_call, handover_call, Answer, meaning}

-- "A refusal prints `no=` and its number"
unfoldable pub refusal : ℕ → List ℕ
refusal n = line (ascii "no=") (decimal n)

-- what an accepted call prints: "word in 16 upper-case hexadecimal digits; gone is the number gone"; "The lane text is what `show` prints
-- from `cars=` on"; document 02, T-05: "printed `ok=surface`"; no block is a load, a read, an opening or a handover
abbrev pub accepted_text : Call → Answer → List ℕ
accepted_text (start_call road first) a = ascii "ok=start\n"
accepted_text (load_call text) a = []
accepted_text (enter_call c) a = ascii "ok=enter\n" ++ line (ascii "place=") (decimal a.place)
accepted_text (leave_call number) a = ascii "ok=leave\n"
accepted_text (surface_call code) a = ascii "ok=surface\n"
accepted_text (cycle_call count ws) a =
    ascii "ok=cycle\n" ++ line (ascii "over=") (hexadecimal 16 a.word) ++ line (ascii "gone=") (decimal a.gone)
accepted_text (read_call number) a = []
accepted_text (opening_call g n) a = []
accepted_text (handover_call buffer) a = []
accepted_text (text_call buffer) a = ascii "ok=show\n" ++ take a.long a.bytes

-- what a call prints
unfoldable pub printed : Call → Answer → List ℕ
printed x a = if_accepted a.number (accepted_text x a) (refusal a.number)

-- whether a call leaves the very lane, every word of it as it was: where it only reads, and where it is refused
abbrev pub keeps_lane : Call → Answer → Bool
keeps_lane x a = (meaning x).reads || ltb 0 a.number
