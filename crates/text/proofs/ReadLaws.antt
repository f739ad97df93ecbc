-- The laws of what is read: all that the crates above use of `specs/Fields`, whose definitions they leave shut.
use mathlib.Core.Path.{◌≡◌, refl, sym, ap, ap₂, ◌∙◌}
use mathlib.Core.Bool.{Bool, true, false, not, ◌&&◌, and-false, cond, false≢true}
use mathlib.Core.List.{List, [], ◌∷◌, ◌++◌, append_assoc}
use Prim.Native.Nat.{ℕ, zero, suc, ◌+◌, ◌/◌, ◌%◌, ◌^◌, ◌≤◌, ◌<◌}
use native.Mathlib.Decide.{dec_lt}
use native.Mathlib.Omega.{arith}
use lib.Dec.{leb, ltb, eqb, eqb-zero-suc, eqb-suc-zero, eqb-suc-suc}
use lib.ListN.{length, get_or, take, drop, length-append}
use lib.Seq.{take_at, drop-append_seam, length-take-le}
use borrow.Author.Tests.{lt-ltb, le-ltb, le-leb, eq-eqb, ne_eqb, ltb-true, leb-true, eqb-true}
use Rattle.text.specs.Numbers.{digits, decimal, hexadecimal}
use Rattle.text.specs.Lines.{line}
use Rattle.text.specs.Fields.{line_length, starts_with, longest_line, has_line, line_value, is_word, is_decimal, are_digits, number_spelt, number_in, bits_in, field_in, is_number, value_in}
use Rattle.std.specs.Prelude.{Option, Some, None, ◌==◌, min, position}
use Rattle.std.specs.List.{position_or_len}
use Rattle.std.proofs.lemmas.Option.{none-some}
use lib.Pointwise.{pointwise}
use Rattle.text.proofs.Digits.{decimal_small, decimal_large, decimal_induction, decimal_is_digits}
use Rattle.text.proofs.Laws.{length_line, decimal_not_empty, decimal_no_leading_zero}
use Rattle.text.proofs.Reading.{digit_ten, number_last, both, decimal_is, decimal_whole, put_are_digits, digits_no_newline, bits_below, hexadecimal_again}

-- ---- a line that is there

starts_within : (key text : List ℕ) → starts_with key text ≡ true → length key ≤ length text
unfolding starts_with
starts_within [] text e = omega arith
starts_within (k ∷ key) [] e = absurd (false≢true e)
starts_within (k ∷ key) (b ∷ text) e = omega (arith, starts_within key text (both (eqb k b) (starts_with key text) e).1)

-- a text shorter than the key does not
pub starts_too_short : (key text : List ℕ) → length text < length key → starts_with key text ≡ false
starts_too_short key text h = by_test (starts_with key text) refl
  where
    by_test : (b : Bool) → starts_with key text ≡ b → b ≡ false
    by_test true e = absurd (omega (arith, starts_within key text e))
    by_test false e = refl

module _ (key text : List ℕ) (there : has_line key text ≡ true) where
  parts : (ltb (line_length text) (length text) && ltb (line_length text) longest_line ≡ true) × (starts_with key (take (line_length text) text) ≡ true)
  unfolding has_line
  parts = both (ltb (line_length text) (length text) && ltb (line_length text) longest_line) (starts_with key (take (line_length text) text)) there

  lengths : (ltb (line_length text) (length text) ≡ true) × (ltb (line_length text) longest_line ≡ true)
  lengths = both (ltb (line_length text) (length text)) (ltb (line_length text) longest_line) parts.0

  -- "a last line without newline is malformed": the newline is in the text
  pub line_within : suc (line_length text) ≤ length text
  line_within = ltb-true (line_length text) (length text) lengths.0

  -- "each line at most 64 bytes with its newline"
  pub line_at_most : suc (line_length text) ≤ 64
  line_at_most = ltb-true (line_length text) longest_line lengths.1

-- and the text is that line with what follows it
starts_is : (key text : List ℕ) → starts_with key text ≡ true → text ≡ key ++ drop (length key) text
unfolding starts_with
starts_is [] text e = refl
starts_is (k ∷ key) [] e = absurd (false≢true e)
starts_is (k ∷ key) (b ∷ text) e =
    let t = both (eqb k b) (starts_with key text) e in
    ap₂ (λ (c : ℕ) (l : List ℕ). c ∷ l) (sym (eqb-true k b t.0)) (starts_is key text t.1)

up_to_newline : (text : List ℕ) → line_length text < length text → text ≡ take (line_length text) text ++ (10 ∷ drop (suc (line_length text)) text)
unfolding line_length
up_to_newline [] h = absurd (omega arith)
up_to_newline (b ∷ bs) h = by_test (eqb b 10) refl h (up_to_newline bs)
  where
    by_test : (t : Bool) → eqb b 10 ≡ t → cond t 0 (suc (line_length bs)) < suc (length bs)
        → (line_length bs < length bs → bs ≡ take (line_length bs) bs ++ (10 ∷ drop (suc (line_length bs)) bs))
        → b ∷ bs ≡ take (cond t 0 (suc (line_length bs))) (b ∷ bs) ++ (10 ∷ drop (suc (cond t 0 (suc (line_length bs)))) (b ∷ bs))
    by_test true e h more = ap (λ (c : ℕ). c ∷ bs) (eqb-true b 10 e)
    by_test false e h more = ap (λ (l : List ℕ). b ∷ l) (more (omega arith))

pub line_whole : (key text : List ℕ) → has_line key text ≡ true → text ≡ line key (line_value key text) ++ drop (suc (line_length text)) text
unfolding line line_value
line_whole key text there =
    up_to_newline text (omega (arith, line_within key text there))
    ∙ ap (λ (l : List ℕ). l ++ (10 ∷ drop (suc (line_length text)) text)) (starts_is key (take (line_length text) text) (parts key text there).1)
    ∙ rw there (sym (append_assoc (key ++ drop (length key) (take (line_length text) text)) (10 ∷ []) (drop (suc (line_length text)) text)))

-- a value of another length is not the word
pub other_length : (word value : List ℕ) → (length word ≡ length value → ⊥) → is_word word value ≡ false
unfolding is_word
other_length word value h = rw (ne_eqb (length word) (length value) h)

-- where both lengths are right, the key decides
pub key_decides : (key text : List ℕ) → line_length text < length text → line_length text < longest_line → has_line key text ≡ starts_with key (take (line_length text) text)
unfolding has_line
key_decides key text h g = rw (lt-ltb (line_length text) (length text) h, lt-ltb (line_length text) longest_line g)

pub no_line : (key text : List ℕ) → length text ≤ line_length text → has_line key text ≡ false
unfolding has_line
no_line key text h = rw (le-ltb (line_length text) (length text) h)

pub line_too_long : (key text : List ℕ) → longest_line ≤ line_length text → has_line key text ≡ false
unfolding has_line
line_too_long key text h = rw (le-ltb (line_length text) longest_line h, and-false)

-- ---- a line as it is looked for

some_is : {m n : ℕ} → Some m ≡ Some n → m ≡ n
some_is e = cc

-- no more bytes are looked at than a line has
abbrev pub window : List ℕ → ℕ
window t = min (length t) longest_line

newline_within : (n : ℕ) (t : List ℕ) → n ≤ length t → position_or_len (λ b. b == 10) (take n t) ≡ min n (line_length t)
unfolding line_length
newline_within zero t h = omega arith
newline_within (suc n) [] h = absurd (omega arith)
newline_within (suc n) (b ∷ t) h = by_test (eqb b 10) (newline_within n t (omega arith))
  where
    by_test : (x : Bool) → position_or_len (λ b. b == 10) (take n t) ≡ min n (line_length t)
        → cond (not x) (1 + position_or_len (λ b. b == 10) (take n t)) 0 ≡ min (suc n) (cond x 0 (suc (line_length t)))
    by_test true e = omega arith
    by_test false e = omega arith

line_place : (t : List ℕ) → position (λ b. b == 10) (take (window t) t) ≡ cond (ltb (line_length t) (window t)) (Some (line_length t)) None
line_place t = by_place (dec_lt (line_length t) (window t))
  where
    first : position_or_len (λ b. b == 10) (take (window t) t) ≡ min (window t) (line_length t)
    first = newline_within (window t) t (omega arith)

    all : length (take (window t) t) ≡ window t
    all = length-take-le (window t) t (omega arith)

    by_place : Dec (line_length t < window t) → position (λ b. b == 10) (take (window t) t) ≡ cond (ltb (line_length t) (window t)) (Some (line_length t)) None
    by_place (yes h) =
        let p : min (window t) (line_length t) ≡ line_length t = omega arith in
        rw (first, all, p, lt-ltb (line_length t) (window t) h) refl
    by_place (no h) =
        let p : min (window t) (line_length t) ≡ window t = omega arith in
        rw (first, all, p, le-ltb (line_length t) (window t) (omega arith), le-ltb (window t) (window t) (omega arith)) refl

-- the newline is found where the text has a line's length
pub newline_at : (t : List ℕ) {n : ℕ} → position (λ b. b == 10) (take (window t) t) ≡ Some n → (n ≡ line_length t) × (n < length t) × (n < longest_line)
newline_at t {n} e = by_place (dec_lt (line_length t) (window t))
  where
    by_place : Dec (line_length t < window t) → (n ≡ line_length t) × (n < length t) × (n < longest_line)
    by_place (yes h) =
        let i : n ≡ line_length t = some_is (sym e ∙ line_place t ∙ rw (lt-ltb (line_length t) (window t) h) refl) in
        (i, omega arith, omega arith)
    by_place (no h) =
        absurd (none-some n (sym (sym e ∙ line_place t ∙ rw (le-ltb (line_length t) (window t) (omega arith)) refl)))

pub newline_nowhere : (key t : List ℕ) → position (λ b. b == 10) (take (window t) t) ≡ None → has_line key t ≡ false
newline_nowhere key t e = by_place (dec_lt (line_length t) (length t)) (dec_lt (line_length t) longest_line)
  where
    by_place : Dec (line_length t < length t) → Dec (line_length t < longest_line) → has_line key t ≡ false
    by_place (no h) d = no_line key t (omega arith)
    by_place (yes h) (no g) = line_too_long key t (omega arith)
    by_place (yes h) (yes g) =
        absurd (none-some (line_length t) (sym e ∙ line_place t ∙ rw (lt-ltb (line_length t) (window t) (omega arith)) refl))

swapped : (a b : ℕ) → eqb a b ≡ eqb b a
swapped a b = by_test (eqb a b) (eqb b a) refl refl
  where
    by_test : (s t : Bool) → eqb a b ≡ s → eqb b a ≡ t → eqb a b ≡ eqb b a
    by_test true t e f = e ∙ sym (eq-eqb b a (sym (eqb-true a b e)))
    by_test false true e f = absurd (false≢true (sym e ∙ eq-eqb a b (sym (eqb-true b a f))))
    by_test false false e f = e ∙ sym f

-- a prefix, compared byte by byte
pub starts_pointwise : (key text : List ℕ) → starts_with key text ≡ pointwise eqb (take (length key) text) key
unfolding starts_with
starts_pointwise [] text = refl
starts_pointwise (k ∷ key) [] = refl
starts_pointwise (k ∷ key) (b ∷ text) = rw (swapped k b, starts_pointwise key text) refl

-- and a word, as two slices are
pub word_pointwise : (word value : List ℕ) → is_word word value ≡ pointwise eqb value word
unfolding starts_with is_word
word_pointwise [] [] = refl
word_pointwise [] (b ∷ value) = rw (eqb-zero-suc (length value)) refl
word_pointwise (k ∷ word) [] = rw (eqb-suc-zero (length word)) refl
word_pointwise (k ∷ word) (b ∷ value) =
    rw (eqb-suc-suc (length word) (length value), swapped k b, ← word_pointwise word value)
    (passed (eqb (length word) (length value)) (eqb b k) (starts_with word value))
  where
    passed : (x y z : Bool) → x && (y && z) ≡ y && (x && z)
    passed true y z = refl
    passed false true z = refl
    passed false false z = refl

-- ---- a line that was put

goes_on : (t : Bool) (m n : ℕ) → cond t 0 (suc m) ≡ suc n → (t ≡ false) × (m ≡ n)
goes_on true m n e = absurd (omega arith)
goes_on false m n e = (refl, omega arith)

-- A list has no newline where its line is all of it. What stands before it only adds to a line.
pub line_append : (l text : List ℕ) → line_length l ≡ length l → line_length (l ++ text) ≡ length l + line_length text
unfolding line_length
line_append [] text e = omega arith
line_append (b ∷ l) text e =
    let s = goes_on (eqb b 10) (line_length l) (length l) e in
    rw s.0 (omega (arith, line_append l text s.1))

-- one byte after another
pub no_bytes : line_length [] ≡ length {A = ℕ} []
unfolding line_length
no_bytes = refl

pub no_newline : (b : ℕ) (l : List ℕ) → ¬ (b ≡ 10) → line_length l ≡ length l → line_length (b ∷ l) ≡ length (b ∷ l)
unfolding line_length
no_newline b l h e = rw (ne_eqb b 10 h) (ap suc e)

starts_itself : (key text : List ℕ) → starts_with key (key ++ text) ≡ true
unfolding starts_with
starts_itself [] text = refl
starts_itself (k ∷ key) text = rw (eq-eqb k k refl) (starts_itself key text)

module _ (key value rest : List ℕ) (k : line_length key ≡ length key) (v : line_length value ≡ length value) where
  abbrev text : List ℕ
  text = line key value ++ rest

  in_parts : text ≡ (key ++ value) ++ (10 ∷ rest)
  unfolding line
  in_parts = append_assoc (key ++ value) (10 ∷ []) rest

  pub length_of_line : line_length (line key value ++ rest) ≡ length key + length value
  unfolding line_length
  length_of_line = rw (in_parts, append_assoc, line_append key, line_append value) (omega arith)

  before_newline : take (line_length text) text ≡ key ++ value
  before_newline = rw (length_of_line, in_parts) (take_at (key ++ value) (10 ∷ rest) (length key + length value) (length-append key value))

  pub line_there : length key + length value < longest_line → has_line key (line key value ++ rest) ≡ true
  line_there h =
      key_decides key text (rw (length_of_line, length-append, length_line) (omega arith)) (rw length_of_line h) ∙ rw before_newline (starts_itself key value)

  pub value_there : length key + length value < longest_line → line_value key (line key value ++ rest) ≡ value
  unfolding line_value
  value_there h = rw (line_there h, before_newline) (drop-append_seam key value)

-- ---- numbers

-- what a test lets pass
chosen : (t : Bool) (m n : ℕ) → cond t (Some m) None ≡ Some n → (t ≡ true) × (m ≡ n)
chosen true m n e = (refl, cc)
chosen false m n e = let z : ◌≡◌ {A = ℕ} 0 1 = cc in absurd (omega arith)

decimal_are_digits : (n : ℕ) → are_digits 10 (decimal n) ≡ true
decimal_are_digits n =
    ap (are_digits 10) (sym (decimal_is_digits n)) ∙ put_are_digits 10 (omega arith) (omega arith) (length (decimal n)) n

pub decimal_no_newline : (n : ℕ) → line_length (decimal n) ≡ length (decimal n)
decimal_no_newline n = digits_no_newline 10 (decimal n) (omega arith) (decimal_are_digits n)

first_not_zero : (n : ℕ) → 1 < length (decimal n) → get_or (decimal n) 0 0 ≡ 48 → ⊥
first_not_zero n h e = by_size (dec_lt n 10)
  where
    by_size : Dec (n < 10) → ⊥
    by_size (yes s) = omega (arith, ap length (decimal_small n s))
    by_size (no l) = omega (arith, decimal_no_leading_zero n (omega arith))

-- the digits of a number stand for it
decimal_number : (n : ℕ) → number_spelt 10 0 (decimal n) ≡ n
unfolding number_spelt
decimal_number =
    decimal_induction (λ (n : ℕ). number_spelt 10 0 (decimal n) ≡ n)
    (λ n h. ap (number_spelt 10 0) (decimal_small n h) ∙ omega (arith, digit_ten (48 + n) (omega arith) (omega arith)))
    (λ n h p.
    ap (number_spelt 10 0) (decimal_large n h) ∙ number_last 10 0 (48 + n % 10) (decimal (n / 10))
    ∙ omega (arith, p, digit_ten (48 + n % 10) (omega arith) (omega arith)))

-- a number that is put is read, where the field can hold it
pub number_read : (most n : ℕ) → n ≤ most → number_in most (decimal n) ≡ Some n
unfolding number_in
number_read most n h =
    let t : is_decimal (decimal n) ≡ true = decimal_is (decimal n) (decimal_not_empty n) (first_not_zero n) ∙ decimal_are_digits n in
    rw (t, decimal_number n, le-leb n most h)

-- and what is read is that number as it is put
pub number_put : (most : ℕ) (ds : List ℕ) (n : ℕ) → number_in most ds ≡ Some n → (ds ≡ decimal n) × (n ≤ most)
unfolding number_in
number_put most ds n e =
    let c = chosen (is_decimal ds && leb (number_spelt 10 0 ds) most) (number_spelt 10 0 ds) n e in
    let t = both (is_decimal ds) (leb (number_spelt 10 0 ds) most) c.0 in
    (decimal_whole ds t.0 ∙ ap decimal c.1, rw c.1 at (leb-true (number_spelt 10 0 ds) most t.1))

-- the same of a float's bits
pub bits_put : (ds : List ℕ) (n : ℕ) → bits_in ds ≡ Some n → (ds ≡ hexadecimal 8 n) × (n < 2 ^ 32)
unfolding bits_in hexadecimal digits
bits_put ds n e =
    let c = chosen (eqb (length ds) 8 && are_digits 16 ds) (number_spelt 16 0 ds) n e in
    let t = both (eqb (length ds) 8) (are_digits 16 ds) c.0 in
    let l : length ds ≡ 8 = eqb-true (length ds) 8 t.0 in
    (sym (hexadecimal_again 0 0 ds t.1) ∙ rw (l, c.1), rw c.1 at (bits_below ds l t.1))

-- ---- a line with a number

-- a number that is there, and one that is not
module _ (n : ℕ) where
  pub number_is : is_number (Some n) ≡ true
  unfolding is_number
  number_is = refl

  pub number_value : value_in (Some n) ≡ n
  unfolding value_in
  number_value = refl

pub no_number : is_number None ≡ false
unfolding is_number
no_number = refl

pub field_read : (key rest : List ℕ) (most n : ℕ) → line_length key ≡ length key → length key + length (decimal n) < longest_line → n ≤ most
    → field_in key most (line key (decimal n) ++ rest) ≡ Some n
unfolding field_in
field_read key rest most n k h g =
    let v = decimal_no_newline n in
    rw (line_there key (decimal n) rest k v h, value_there key (decimal n) rest k v h) (number_read most n g)

held : (t : Bool) (m : Option ℕ) (n : ℕ) → cond t m None ≡ Some n → (t ≡ true) × (m ≡ Some n)
held true m n e = (refl, e)
held false m n e = let z : ◌≡◌ {A = ℕ} 0 1 = cc in absurd (omega arith)

at_most : (most : ℕ) (m : Option ℕ) → ((n : ℕ) → m ≡ Some n → n ≤ most) → value_in m ≤ most
unfolding value_in
at_most most (Some n) f = f n refl
at_most most None f = omega arith

module _ (key : List ℕ) (most : ℕ) (text : List ℕ) where
  pub field_put : (n : ℕ) → field_in key most text ≡ Some n → (has_line key text ≡ true) × (line_value key text ≡ decimal n) × (n ≤ most)
  unfolding field_in
  field_put n e =
      let h = held (has_line key text) (number_in most (line_value key text)) n e in
      let p = number_put most (line_value key text) n h.1 in
      (h.0, p.0, p.1)

  -- the text is that line as it is put, with what follows it
  pub field_whole : (n : ℕ) → field_in key most text ≡ Some n → text ≡ line key (decimal n) ++ drop (suc (line_length text)) text
  field_whole n e =
      let p = field_put n e in
      line_whole key text p.0 ∙ ap (λ (v : List ℕ). line key v ++ drop (suc (line_length text)) text) p.1

  pub field_at_most : value_in (field_in key most text) ≤ most
  field_at_most = at_most most (field_in key most text) (λ n e. (field_put n e).2)
