-- `text::numbers::read_signed` meets its contract: the first byte decides the sign, and the number read fits the 16 bits with it.
use borrow.Author.Tests.{lt-ltb, eq-eqb, ne_eqb}
use borrow.Author.Rules.{part_to_end}
use mathlib.Core.Path.{◌≡◌, refl, sym, ap, subst, ◌∙◌}
use mathlib.Core.List.{List, [], ◌∷◌}
use Prim.Native.Nat.{ℕ, zero, suc, ◌^◌, ◌≤◌, ◌<◌}
use native.Mathlib.Omega.{arith}
use lib.IntN.{ℤ, pos, neg_ℤ, ◌-ℤ◌, +ℤ_idl}
use lib.ListN.{length, get_or, drop}
use lib.Signed.{mag}
use mir.Syntax.{w16, w32}
use mir.Val.{SFits, to_z, of_z}
use mir.Facts.{to_z-of_z, to_z_pos, sfits_widen}
use Rattle.text.specs.Fields.{number_in, minus, plus, signed_in}
use Rattle.std.specs.Prelude.{Option, Some, None, ltb}
use Rattle.std.specs.Bool.{then_some}
use Rattle.text.proofs.Reading.{none_there, some_there}
use Rattle.text.proofs.ReadLaws.{number_put}
use Rattle.text.proofs.numbers.read_signed.Goals.{After-read_number, After-read_number-2, In_ok-size, In_ok-size-2}
use Rattle.text.proofs.numbers.read_signed.Goals as goal

-- ---- the sign

no_byte : (ds : List ℕ) → length ds ≡ 0 → None ≡ signed_in ds
unfolding signed_in
no_byte [] h = refl
no_byte (d ∷ ds) h = absurd (omega arith)

with_minus : (ds : List ℕ) → 1 ≤ length ds → get_or ds 0 0 ≡ 45 → signed_in ds ≡ minus (number_in 32768 (drop 1 ds))
unfolding signed_in
with_minus [] h e = absurd (omega arith)
with_minus (d ∷ ds) h e = rw (eq-eqb d 45 e)

without_minus : (ds : List ℕ) → 1 ≤ length ds → (get_or ds 0 0 ≡ 45 → ⊥) → signed_in ds ≡ plus (number_in 32767 ds)
unfolding signed_in
without_minus [] h e = absurd (omega arith)
without_minus (d ∷ ds) h e = rw (ne_eqb d 45 e)

minus_as : (n : ℕ) {z : ℤ} → z ≡ neg_ℤ (pos n) → then_some (ltb 0 n) z ≡ minus (Some n)
unfolding minus
minus_as zero e = refl
minus_as (suc n) e = rw (lt-ltb 0 (suc n) (omega arith)) (ap Some e)

-- ---- the number after a minus, as the code makes it: through 32 bits, which hold 32768

small : (n : ℕ) → n ≤ 32768 → mag (neg_ℤ (pos n)) < 2 ^ 15
small zero h = omega arith
small (suc n) h = h

module _ (n : ℕ) (h : n ≤ 32768) where
  narrow : SFits w16 (neg_ℤ (pos n))
  narrow = record { sfits = small n h }

  taken_off : pos 0 -ℤ to_z w32 n ≡ neg_ℤ (pos n)
  taken_off =
      let s : n < 2 ^ 31 = omega arith in
      ap (λ (z : ℤ). pos 0 -ℤ z) (to_z_pos w32 s) ∙ +ℤ_idl (neg_ℤ (pos n))

  wide : SFits w32 (pos 0 -ℤ to_z w32 n)
  wide = subst (SFits w32) (sym taken_off) (sfits_widen tt narrow)

  back : to_z w32 (of_z w32 (pos 0 -ℤ to_z w32 n)) ≡ neg_ℤ (pos n)
  back = to_z-of_z wide ∙ taken_off

  cast : SFits w16 (to_z w32 (of_z w32 (pos 0 -ℤ to_z w32 n)))
  cast = subst (SFits w16) (sym back) narrow

  made : to_z w16 (of_z w16 (to_z w32 (of_z w32 (pos 0 -ℤ to_z w32 n)))) ≡ neg_ℤ (pos n)
  made = to_z-of_z cast ∙ back

-- ---- what was read

minus_read : (c : After-read_number) (m : Option ℕ) → c.read_number.result ≡ m → signed_in c.args.digits.now ≡ minus m
minus_read c m e =
    let ds = c.args.digits.now in
    with_minus ds (some_there ds c.is_empty.ensures c.if-is_empty.false) c.if-digits-eq45.true
    ∙ ap minus (ap (number_in 32768) (sym (part_to_end ds 1)) ∙ sym c.read_number.ensures ∙ e)

minus_fits : (c : In_ok-size) → c.in_ok-size.size ≤ 32768
minus_fits c = (number_put 32768 _ _ (sym c.read_number.ensures ∙ c.in_ok-size.was)).1

plus_read : (c : After-read_number-2) (m : Option ℕ) → c.read_number-2.result ≡ m → signed_in c.args.digits.now ≡ plus m
plus_read c m e =
    without_minus c.args.digits.now (some_there _ c.is_empty.ensures c.if-is_empty.false) c.if-digits-eq45.false ∙ ap plus (sym c.read_number-2.ensures ∙ e)

plus_fits : (c : In_ok-size-2) → c.in_ok-size-2.size ≤ 32767
plus_fits c = (number_put 32767 _ _ (sym c.read_number-2.ensures ∙ c.in_ok-size-2.was)).1

pub returns-then-is_empty : goal.returns-then-is_empty
returns-then-is_empty c = no_byte _ (none_there _ c.is_empty.ensures c.if-is_empty.true)

pub returns-in_err-size : goal.returns-in_err-size
unfolding minus
returns-in_err-size c = c.from_residual.ensures ∙ sym (minus_read (goal.at.returns-in_err-size c).After-read_number None c.in_err-size.was)

pub overflow_cast-size : goal.overflow_cast-size
overflow_cast-size c = let h = minus_fits (goal.at.overflow_cast-size c).In_ok-size in record { sfits = omega arith }

pub overflow_sub-size : goal.overflow_sub-size
overflow_sub-size c = wide _ (minus_fits (goal.at.overflow_sub-size c).In_ok-size)

pub overflow_cast-size-then-digits-eq45 : goal.overflow_cast-size-then-digits-eq45
overflow_cast-size-then-digits-eq45 c = cast _ (minus_fits (goal.at.overflow_cast-size-then-digits-eq45 c).In_ok-size)

pub returns-then-digits-eq45 : goal.returns-then-digits-eq45
returns-then-digits-eq45 c =
    c.then_some.ensures ∙ minus_as c.in_ok-size.size (made c.in_ok-size.size (minus_fits (goal.at.returns-then-digits-eq45 c).In_ok-size))
    ∙ sym (minus_read (goal.at.returns-then-digits-eq45 c).After-read_number _ c.in_ok-size.was)

pub returns-in_err-size-2 : goal.returns-in_err-size-2
unfolding plus
returns-in_err-size-2 c =
    c.from_residual-in_err-size-2.ensures ∙ sym (plus_read (goal.at.returns-in_err-size-2 c).After-read_number-2 None c.in_err-size-2.was)

pub overflow_cast-result : goal.overflow_cast-result
overflow_cast-result c = let h = plus_fits (goal.at.overflow_cast-result c).In_ok-size-2 in record { sfits = omega arith }

pub returns : goal.returns
unfolding plus
returns c =
    let h : c.in_ok-size-2.size < 2 ^ 15 = omega (arith, plus_fits (goal.at.returns c).In_ok-size-2) in
    ap Some (to_z_pos w16 h) ∙ sym (plus_read (goal.at.returns c).After-read_number-2 _ c.in_ok-size-2.was)
