-- `console::reading::wish_wanted` meets its contract: the sorts of wishes are tried in the order of the definition.
use mathlib.Core.Path.{◌≡◌, refl, ap, ◌∙◌}
use mathlib.Core.Bool.{false}
use Rattle.text.specs.Ascii.{ascii}
use Rattle.text.specs.Fields.{starts_with, is_word, signed_in}
use Rattle.text.proofs.ReadLaws.{starts_pointwise}
use Rattle.wish.specs.declared.Wish.TheVariants.{Acceleration, TargetSpeed}
use Rattle.console.specs.Blocks.{units_wanted, wish_wanted}
use Rattle.console.proofs.Lines.{word_test}
use Rattle.console.proofs.Wishing.{wanted_as_is, units_map, float_map}
use Rattle.console.proofs.reading.wish_wanted.Goals.{Else-eq, In_default, In_default-strip_prefix}
use Rattle.console.proofs.reading.wish_wanted.Goals as goal

no_hold : (c : Else-eq) → is_word (ascii "hold") c.args.value.now ≡ false
no_hold c = word_test (ascii "hold") _ c.as_slice.ensures c.eq.ensures c.if-eq.false

no_units : (c : In_default) → starts_with (ascii "units:") c.args.value.now ≡ false
no_units c = starts_pointwise (ascii "units:") _ ∙ c.in_default.ensures.cases

no_accel : (c : In_default-strip_prefix) → starts_with (ascii "accel:") c.args.value.now ≡ false
no_accel c = starts_pointwise (ascii "accel:") _ ∙ c.in_default-strip_prefix.ensures.cases

pub returns-then-eq : goal.returns-then-eq
unfolding wish_wanted
returns-then-eq c = rw (word_test (ascii "hold") _ c.as_slice.ensures c.eq.ensures c.if-eq.true) (wanted_as_is refl)

pub returns-in-Some : goal.returns-in-Some
unfolding wish_wanted
returns-in-Some c =
    let found = c.in-Some.ensures.cases in
    rw (no_hold (goal.at.returns-in-Some c).Else-eq, starts_pointwise (ascii "units:") c.args.value.now ∙ found.0)
    (wanted_as_is (units_map _ c.map.ensures.cases ∙ ap units_wanted (c.read_signed.ensures ∙ ap signed_in found.1)))

pub returns-in-Some-strip_prefix : goal.returns-in-Some-strip_prefix
unfolding wish_wanted
returns-in-Some-strip_prefix c =
    let p = goal.at.returns-in-Some-strip_prefix c in
    let found = c.in-Some-strip_prefix.ensures.cases in
    rw (no_hold p.Else-eq, no_units p.In_default, starts_pointwise (ascii "accel:") c.args.value.now ∙ found.0)
    (rw (← found.1, ← c.read_bits.ensures) (float_map (λ y. Acceleration y) _ c.map-in-Some-strip_prefix.ensures.cases))

pub returns-in-Some-strip_prefix-2 : goal.returns-in-Some-strip_prefix-2
unfolding wish_wanted
returns-in-Some-strip_prefix-2 c =
    let p = goal.at.returns-in-Some-strip_prefix-2 c in
    let found = c.in-Some-strip_prefix-2.ensures.cases in
    rw (no_hold p.Else-eq, no_units p.In_default, no_accel p.In_default-strip_prefix, starts_pointwise (ascii "speed:") c.args.value.now ∙ found.0)
    (rw (← found.1, ← c.read_bits-in-Some-strip_prefix-2.ensures) (float_map (λ y. TargetSpeed y) _ c.map-in-Some-strip_prefix-2.ensures.cases))

pub returns : goal.returns
unfolding wish_wanted
returns c =
    let p = goal.at.returns c in
    rw (no_hold p.Else-eq, no_units p.In_default, no_accel p.In_default-strip_prefix, starts_pointwise (ascii "speed:") c.args.value.now ∙ c.in_default-strip_prefix-2.ensures.cases)
    (wanted_as_is refl)
