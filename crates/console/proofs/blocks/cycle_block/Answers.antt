-- `console::blocks::cycle_block` meets its contract: the lines of the wishes seen are in the array.
use mathlib.Core.Path.{◌≡◌, refl}
use mathlib.Core.List.{List}
use Prim.Native.Nat.{ℕ}
use native.Mathlib.Omega.{arith}
use Rattle.std.specs.Prelude.{Some}
use Rattle.text.specs.Ascii.{ascii}
use Rattle.text.specs.Groups.{Key, got, number_line}
use Rattle.lane.specs.Limits.{most_carriers}
use Rattle.lane.specs.Call.{cycle_call}
use Rattle.console.specs.Blocks.{Parsed, parsed, wants, sixty_four, cycle_lines}
use Rattle.console.proofs.Lines.{Reads, none_read_yet, number_read, number_unread, number_most, none_read, all_read, block_gives}
use Rattle.console.proofs.Wishing.{asking_start, asking_missing, asking_next, array_alike, asking_end, cycle_gives}
use Rattle.console.proofs.blocks.cycle_block.Goals as goal

abbrev cars : Key
cars = record { name = ascii "cars="; most = most_carriers }

abbrev cars_on : ℕ → List ℕ → Parsed
cars_on count t = wants count t (λ ws t. parsed (cycle_call count (sixty_four ws)) 0)

pub returns-in_err-count : goal.returns-in_err-count
unfolding cycle_lines
returns-in_err-count c = rw c.from_residual.ensures (number_unread cars cars_on (none_read_yet _ cycle_lines) c.in_err-count.ensures.0, refl, refl)

counted : {t rest : List ℕ} {count : ℕ} → number_line cars t ≡ got count rest → Reads t rest (cycle_lines t) (cars_on count)
unfolding cycle_lines
counted {t} e = number_read cars cars_on (none_read_yet t cycle_lines) e

pub loop-i-init : goal.loop-i-init
loop-i-init c = asking_start _ _ (number_most cars _ c.in_ok-count.ensures)

pub returns-in_err-wishes : goal.returns-in_err-wishes
returns-in_err-wishes c =
    rw c.from_residual-in_err-wishes.ensures
    (none_read (counted c.in_ok-count.ensures) (asking_missing c.loop-i.invariant (omega arith) c.read_want.ensures c.in_err-wishes.was), refl, refl)

pub loop-i-preserved : goal.loop-i-preserved
loop-i-preserved c = asking_next c.loop-i.invariant (omega arith) c.read_want.ensures c.in_ok-wishes.was

pub returns : goal.returns
returns c =
    let asked = c.loop-i.invariant in
    block_gives (counted c.in_ok-count.ensures) _ _ _ _ _ (Some _) (all_read (asking_end asked (omega arith)) (cycle_gives (array_alike asked) c.run_cycle.ensures))
