-- The newline is looked for first, and then the key at the line's start.
use mathlib.Core.Path.{◌≡◌, refl, sym, ◌∙◌}
use mathlib.Core.Bool.{true, false}
use mathlib.Core.List.{List}
use Prim.Native.Nat.{ℕ, suc, ◌+◌, ◌<◌}
use native.Mathlib.Omega.{arith}
use lib.Dec.{eqb}
use lib.ListN.{length, take, drop}
use lib.Pointwise.{pointwise}
use native.Mathlib.Numerals.{add-one}
use lib.Seq.{length-take-le}
use borrow.Author.Rules.{part_to_end}
use Rattle.text.specs.Fields.{line_length, longest_line, has_line, line_value}
use Rattle.text.specs.Groups.{got, missing, value_line}
use Rattle.text.proofs.ReadLaws.{newline_at, newline_nowhere, starts_pointwise, key_decides}
use Rattle.text.proofs.fields.Lines.value.Goals.{In_ok-end}
use Rattle.text.proofs.fields.Lines.value.Goals as goal

no_value : (key t : List ℕ) → has_line key t ≡ false → value_line key t ≡ missing
unfolding value_line
no_value key t e = rw e refl

-- the newline that was found ends a line
ends : (c : In_ok-end) → let t = c.args.self.now.rest.now in
    (c.in_ok-end.end ≡ line_length t) × (c.in_ok-end.end < length t) × (c.in_ok-end.end < longest_line)
ends c = newline_at c.args.self.now.rest.now (sym c.line_end.ensures ∙ c.in_ok-end.was)

pub slice_bounds-strip_prefix-end : goal.slice_bounds-strip_prefix-end
slice_bounds-strip_prefix-end c = sym (length-take-le _ _ (omega (arith, ends (goal.at.slice_bounds-strip_prefix-end c).In_ok-end)))

pub returns-in_err-end : goal.returns-in_err-end
returns-in_err-end c =
    rw c.from_residual.ensures (no_value _ _ (newline_nowhere _ _ (sym c.line_end.ensures ∙ c.in_err-end.was)), refl)

-- so the key alone decides
decided : (c : In_ok-end) → let t = c.args.self.now.rest.now in let key = c.args.key.now in
    has_line key t ≡ pointwise eqb (take (length key) (take c.in_ok-end.end t)) key
decided c =
    let t = c.args.self.now.rest.now in
    let key = c.args.key.now in
    let e = ends c in
    key_decides key t (omega (arith, e)) (omega (arith, e)) ∙ rw (← e.0) (starts_pointwise key (take c.in_ok-end.end t))

pub returns-in_err-value : goal.returns-in_err-value
returns-in_err-value c =
    rw c.from_residual-in_err-value.ensures
    (no_value _ _ (decided (goal.at.returns-in_err-value c).In_ok-end ∙ c.in_err-value.ensures.cases), refl)

is_value : (key t : List ℕ) {v : List ℕ} → has_line key t ≡ true → v ≡ drop (length key) (take (line_length t) t)
    → value_line key t ≡ got v (drop (suc (line_length t)) t)
unfolding value_line line_value
is_value key t h e = rw (h, e) refl

pub returns : goal.returns
returns c =
    let t = c.args.self.now.rest.now in
    let found = c.in_ok-value.ensures.cases in
    let e = ends (goal.at.returns c).In_ok-end in
    rw (part_to_end t (c.in_ok-end.end + 1), e.0, add-one (line_length t))
    (is_value _ t (decided (goal.at.returns c).In_ok-end ∙ found.0) (rw e.0 at found.1))
