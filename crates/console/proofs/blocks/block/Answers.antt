-- `console::blocks::block` meets its contract: the word of the `call=` line says which lines follow.
use mathlib.Core.Path.{◌≡◌, refl}
use mathlib.Core.Bool.{false}
use Rattle.std.specs.Prelude.{Some, None}
use Rattle.text.specs.Ascii.{ascii}
use Rattle.text.specs.Fields.{is_word}
use Rattle.console.specs.Blocks.{Start, Enter, Leave, Cycle, Show, Surface, kind_of, lines_of}
use Rattle.console.proofs.Lines.{none_read_yet, all_read, word_test, kind_gives, no_block}
use Rattle.console.proofs.blocks.block.Goals.{Else-eq, Else-eq-2, Else-eq-3, Else-eq-4, Else-eq-5}
use Rattle.console.proofs.blocks.block.Goals as goal

no_start : (c : Else-eq) → is_word (ascii "start") c.in_ok-word.word.now ≡ false
no_start c = word_test (ascii "start") _ c.as_slice.ensures c.eq.ensures c.if-eq.false

no_enter : (c : Else-eq-2) → is_word (ascii "enter") c.in_ok-word.word.now ≡ false
no_enter c = word_test (ascii "enter") _ c.as_slice-2.ensures c.eq-2.ensures c.if-eq-2.false

no_leave : (c : Else-eq-3) → is_word (ascii "leave") c.in_ok-word.word.now ≡ false
no_leave c = word_test (ascii "leave") _ c.as_slice-3.ensures c.eq-3.ensures c.if-eq-3.false

no_cycle : (c : Else-eq-4) → is_word (ascii "cycle") c.in_ok-word.word.now ≡ false
no_cycle c = word_test (ascii "cycle") _ c.as_slice-4.ensures c.eq-4.ensures c.if-eq-4.false

no_show : (c : Else-eq-5) → is_word (ascii "show") c.in_ok-word.word.now ≡ false
no_show c = word_test (ascii "show") _ c.as_slice-5.ensures c.eq-5.ensures c.if-eq-5.false

pub returns-in_err-word : goal.returns-in_err-word
returns-in_err-word c = rw c.from_residual.ensures (no_block _ c.in_err-word.ensures.0, refl, refl)

pub returns-then-eq : goal.returns-then-eq
unfolding kind_of
returns-then-eq c =
    kind_gives _ {k = Some Start} c.in_ok-word.ensures (rw (word_test (ascii "start") _ c.as_slice.ensures c.eq.ensures c.if-eq.true) refl) _ _ _ _ _ _ c.start_block.ensures

pub returns-then-eq-2 : goal.returns-then-eq-2
unfolding kind_of
returns-then-eq-2 c =
    let p = goal.at.returns-then-eq-2 c in
    kind_gives _ {k = Some Enter} c.in_ok-word.ensures (rw (no_start p.Else-eq, word_test (ascii "enter") _ c.as_slice-2.ensures c.eq-2.ensures c.if-eq-2.true) refl) _ _ _ _ _ _ c.enter_block.ensures

pub returns-then-eq-3 : goal.returns-then-eq-3
unfolding kind_of
returns-then-eq-3 c =
    let p = goal.at.returns-then-eq-3 c in
    kind_gives _ {k = Some Leave} c.in_ok-word.ensures (rw (no_start p.Else-eq, no_enter p.Else-eq-2, word_test (ascii "leave") _ c.as_slice-3.ensures c.eq-3.ensures c.if-eq-3.true) refl) _ _ _ _ _ _ c.leave_block.ensures

pub returns-then-eq-4 : goal.returns-then-eq-4
unfolding kind_of
returns-then-eq-4 c =
    let p = goal.at.returns-then-eq-4 c in
    kind_gives _ {k = Some Cycle} c.in_ok-word.ensures (rw (no_start p.Else-eq, no_enter p.Else-eq-2, no_leave p.Else-eq-3, word_test (ascii "cycle") _ c.as_slice-4.ensures c.eq-4.ensures c.if-eq-4.true) refl) _ _ _ _ _ _ c.cycle_block.ensures

pub returns-then-eq-5 : goal.returns-then-eq-5
unfolding kind_of
returns-then-eq-5 c =
    let p = goal.at.returns-then-eq-5 c in
    kind_gives _ {k = Some Show} c.in_ok-word.ensures (rw (no_start p.Else-eq, no_enter p.Else-eq-2, no_leave p.Else-eq-3, no_cycle p.Else-eq-4, word_test (ascii "show") _ c.as_slice-5.ensures c.eq-5.ensures c.if-eq-5.true) refl) _ _ _ _ _ (Some _) (all_read (none_read_yet _ (lines_of (Some Show))) c.run_show.ensures)

pub returns-then-eq-6 : goal.returns-then-eq-6
unfolding kind_of
returns-then-eq-6 c =
    let p = goal.at.returns-then-eq-6 c in
    kind_gives _ {k = Some Surface} c.in_ok-word.ensures (rw (no_start p.Else-eq, no_enter p.Else-eq-2, no_leave p.Else-eq-3, no_cycle p.Else-eq-4, no_show p.Else-eq-5, word_test (ascii "surface") _ c.as_slice-6.ensures c.eq-6.ensures c.if-eq-6.true) refl) _ _ _ _ _ _ c.surface_block.ensures

pub returns : goal.returns
unfolding kind_of
returns c =
    let p = goal.at.returns c in
    kind_gives _ {k = None} c.in_ok-word.ensures (rw (no_start p.Else-eq, no_enter p.Else-eq-2, no_leave p.Else-eq-3, no_cycle p.Else-eq-4, no_show p.Else-eq-5, word_test (ascii "surface") _ c.as_slice-6.ensures c.eq-6.ensures c.if-eq-6.false) refl) _ _ _ _ c.value.new.self.rest.now None (refl, refl, refl)
