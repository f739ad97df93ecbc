-- A carrier's lines, as the lane text has them, are read in a block `enter` as that carrier, whatever its numbers are within their fields' widths.
use mathlib.Core.Path.{◌≡◌, refl, ap}
use mathlib.Core.Bool.{Bool, true, false, not, ◌&&◌, false≢true}
use mathlib.Core.List.{List, [], ◌∷◌, ◌++◌, append_assoc}
use Prim.Native.Nat.{ℕ, suc, ◌≤◌}
use native.Mathlib.Omega.{arith}
use borrow.Author.Tests.{eqb-false}
use lib.Dec.{eqb}
use lib.ListN.{length, length-append}
use lib.Seq.{drop-append_seam}
use Rattle.text.specs.Numbers.{decimal}
use Rattle.text.specs.Lines.{line}
use Rattle.text.specs.Fields.{line_length}
use Rattle.text.proofs.Laws.{decimal_at_most, length_line}
use Rattle.text.proofs.ReadLaws.{number_is, number_value, no_bytes, no_newline, field_read, length_of_line, decimal_no_newline}
use Rattle.lane.specs.declared.Carrier.{Carrier}
use Rattle.lane.specs.Listing.{car_key, car_most, at_key, at_most, speed_key, speed_most, length_key, length_most, brake_key, brake_most, carrier_text}
use Rattle.lane.specs.Call.{enter_call}
use Rattle.lane.proofs.Laws.{carrier_lines}
use Rattle.console.specs.Blocks.{Parsed, parsed, past, after_line, field, enter_lines}

-- no byte is a newline
clean : List ℕ → Bool
clean [] = true
clean (b ∷ l) = not (eqb b 10) && clean l

whole : (l : List ℕ) → clean l ≡ true → line_length l ≡ length l
unfolding clean
whole [] e = no_bytes
whole (b ∷ l) e = by_test (eqb b 10) refl e (whole l)
  where
    by_test : (t : Bool) → eqb b 10 ≡ t → not t && clean l ≡ true → (clean l ≡ true → line_length l ≡ length l) → line_length (b ∷ l) ≡ length (b ∷ l)
    by_test true p q rest = absurd (false≢true q)
    by_test false p q rest = no_newline b l (eqb-false b 10 p) (rest q)

-- a line of a key with a number of at most 32 bits, and what follows it
field_again : (key rest : List ℕ) (most n : ℕ) (next : ℕ → List ℕ → Parsed) → clean key ≡ true → length key ≤ 7 → n ≤ most → most ≤ 4294967295
    → field key most (line key (decimal n) ++ rest) next ≡ past (length (line key (decimal n))) (next n rest)
unfolding field after_line
field_again key rest most n next e short h wide =
    let digits : length (decimal n) ≤ 10 = decimal_at_most 10 n (omega arith) (omega arith) in
    let ends : suc (line_length (line key (decimal n) ++ rest)) ≡ length (line key (decimal n)) =
    omega (arith, length_of_line key (decimal n) rest (whole key e) (decimal_no_newline n), length_line key (decimal n))
    in
    rw (field_read key rest most n (whole key e) (omega arith) h, number_is n, number_value n, ends)
    (ap (λ (t : List ℕ). past (length (line key (decimal n))) (next n t)) (drop-append_seam (line key (decimal n)) rest))

pub entry_read_again : (c : Carrier) (rest : List ℕ) → c.number ≤ 65535 → c.position ≤ 4294967295 → c.speed ≤ 4294967295 → c.length ≤ 4294967295
    → c.rate ≤ 4294967295 → enter_lines (carrier_text c ++ rest) ≡ parsed (enter_call c) (length (carrier_text c))
unfolding enter_lines clean
entry_read_again c rest number position speed long rate =
    rw (
      carrier_lines c,
      append_assoc,
      append_assoc,
      append_assoc,
      append_assoc,
      field_again car_key _ car_most c.number _ refl (omega arith) number (omega arith),
      field_again at_key _ at_most c.position _ refl (omega arith) position (omega arith),
      field_again speed_key _ speed_most c.speed _ refl (omega arith) speed (omega arith),
      field_again length_key _ length_most c.length _ refl (omega arith) long (omega arith),
      field_again brake_key _ brake_most c.rate _ refl (omega arith) rate (omega arith),
    )
    (ap (parsed (enter_call c)) (simp length-append (omega arith)))
