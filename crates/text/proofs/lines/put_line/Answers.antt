-- `text::lines::put_line` meets its contract: a key, a value and a newline that fit are the line, and each test leaves only lines that do not fit.
use mathlib.Core.Path.{◌≡◌, sym, ap, ◌∙◌}
use mathlib.Core.List.{List}
use Prim.Native.Nat.{ℕ, ◌+◌, ◌≤◌, ◌<◌}
use native.Mathlib.Omega.{arith}
use lib.ListN.{length}
use Rattle.text.specs.Numbers.{digits}
use Rattle.text.specs.Lines.{line, written, place_after}
use Rattle.text.proofs.Digits.{length_digits}
use Rattle.text.proofs.Laws.{length_line, length_written, newline, written_line, place_fits, nothing_put}
use Rattle.text.proofs.lines.put_line.Goals.{After-put_bytes-value, Start}
use Rattle.text.proofs.lines.put_line.Goals as goal

-- what the code does with a line of k digits, where it does not fit and where it does
module _ (at : ℕ) (key out : List ℕ) (b k n : ℕ) where
  abbrev text : List ℕ
  text = line key (digits b k n)

  length_text : length text ≡ length key + k + 1
  length_text = omega (arith, length_line key (digits b k n), length_digits b k n)

  too_long_is : length out < at + (length key + k + 1) → (out ≡ written at text out) × (at ≡ place_after at text out)
  too_long_is over = nothing_put at text out (omega (arith, length_text))

  in_parts : {value end : ℕ} {out₁ out₂ out₃ : List ℕ} → at + (length key + k + 1) ≤ length out
      → value ≡ at + length key → out₁ ≡ written at key out
      → out₂ ≡ written (value + k) newline out₁ → end ≡ place_after (value + k) newline out₁ → out₃ ≡ written value (digits b k n) out₂
      → (out₃ ≡ written at text out) × (end ≡ place_after at text out)
  in_parts {value} {end} {out₁} {out₂} {out₃} room v e₁ e₂ e e₃ =
      let fits : at + length text ≤ length out = omega (arith, length_text) in
      let same : length out₁ ≡ length out = ap length e₁ ∙ length_written at key out in (
        cc (written_line at key (digits b k n) out fits, length_digits b k n),
        e ∙ place_fits (value + k) newline out₁ (omega arith) ∙ omega (arith, length_text) ∙ sym (place_fits at text out fits),
      )

room : (c : After-put_bytes-value)
    → c.args.at + (length c.args.key.now + c.args.count + 1) ≤ length c.args.out.now
room c = omega arith

value_at : (c : After-put_bytes-value) → c.put_bytes-value.result ≡ c.args.at + length c.args.key.now
value_at c = c.put_bytes-value.ensures.value ∙ place_fits _ _ _ (omega (arith, room c))

pub returns-then-out-at : goal.returns-then-out-at
returns-then-out-at c =
    let none = too_long_is _ _ _ _ _ _ (omega arith) in
    record { out_after = none.0; value = none.1 }

pub returns-then-room-key : goal.returns-then-room-key
returns-then-room-key c =
    let none = too_long_is _ _ _ _ _ _ (omega arith) in
    record { out_after = none.0; value = none.1 }

pub returns-then-room-key-2 : goal.returns-then-room-key-2
returns-then-room-key-2 c =
    let none = too_long_is _ _ _ _ _ _ (omega arith) in
    record { out_after = none.0; value = none.1 }

pub overflow_add-value : goal.overflow_add-value
overflow_add-value c = omega (arith, value_at (goal.at.overflow_add-value c).After-put_bytes-value, (goal.at.overflow_add-value c).Start)

pub put_digits-requires : goal.put_digits-requires
put_digits-requires c =
    record { base_nonzero = c.requires; count_in_bounds = omega (arith, value_at (goal.at.put_digits-requires c).After-put_bytes-value, room (goal.at.put_digits-requires c).After-put_bytes-value, c.put_bytes-value.auto.out, c.put_bytes-next.auto.out) }

pub returns : goal.returns
returns c =
    let all = in_parts _ _ _ _ _ _ (room (goal.at.returns c).After-put_bytes-value) (value_at (goal.at.returns c).After-put_bytes-value) c.put_bytes-value.ensures.out_after c.put_bytes-next.ensures.out_after c.put_bytes-next.ensures.value c.put_digits.ensures in
    record { out_after = all.0; value = all.1 }
