-- Document 01, "Call texts": what stands in a line of text, and which number it spells.
use Rattle.std.specs.Prelude.{ℤ, Option, Some, None, ℕ, zero, suc, ◌+◌, ◌-◌, ◌*◌, Bool, true, false, not, ◌&&◌, cond, List, [], ◌∷◌, leb, ltb, eqb, pos, negsuc, length, take, drop}
use Prim.Native.Char.{code}

-- ---- lines

-- the bytes before the first newline, or all of them where there is none
unfoldable pub line_length : List ℕ → ℕ
line_length [] = 0
line_length (b ∷ bs) = cond (eqb b (code "\n")) 0 (suc (line_length bs))

-- "`key=value` lines": whether a text's first bytes are a key
unfoldable pub starts_with : List ℕ → List ℕ → Bool
starts_with [] text = true
starts_with (k ∷ key) [] = false
starts_with (k ∷ key) (b ∷ text) = eqb k b && starts_with key text

-- "each line at most 64 bytes with its newline"
abbrev pub longest_line : ℕ
longest_line = 64

-- "`key=value` lines", "a last line without newline is malformed": whether a text begins with a line of a key, which is written with its
-- equals sign
unfoldable pub has_line : List ℕ → List ℕ → Bool
has_line key text =
    ltb (line_length text) (length text) && leb (suc (line_length text)) longest_line && starts_with key (take (line_length text) text)

-- "The library hands back a line's value as the part of the caller's text after the equals sign"
unfoldable pub line_value : List ℕ → List ℕ → List ℕ
line_value key text = cond (has_line key text) (drop (length key) (take (line_length text) text)) []

-- a value that is one word
unfoldable pub is_word : (word value : List ℕ) → Bool
is_word word value = eqb (length word) (length value) && starts_with word value

-- ---- numbers

-- "upper-case hexadecimal digits", of which the decimal ones are the first ten: the number of a digit, 16 for any other byte
unfoldable pub digit_in : ℕ → ℕ
digit_in b =
    cond (leb (code "0") b && leb b (code "9")) (b - code "0") (cond (leb (code "A") b && leb b (code "F")) (b - code "A" + 10) 16)

-- whether all bytes are digits of a base
unfoldable pub are_digits : ℕ → List ℕ → Bool
are_digits base [] = true
are_digits base (d ∷ ds) = ltb (digit_in d) base && are_digits base ds

-- the number that digits of a base stand for, the most significant first, after others that stand for a
unfoldable pub number_spelt : ℕ → ℕ → List ℕ → ℕ
number_spelt base a [] = a
number_spelt base a (d ∷ ds) = number_spelt base (a * base + digit_in d) ds

-- "Numbers are decimal, without leading zeros"
unfoldable pub is_decimal : List ℕ → Bool
is_decimal [] = false
is_decimal (d ∷ []) = are_digits 10 (d ∷ [])
is_decimal (d ∷ e ∷ ds) = not (eqb d (code "0")) && are_digits 10 (d ∷ e ∷ ds)

-- "A number that its field's width can't hold is malformed": the most that the field holds, and its bytes
unfoldable pub number_in : ℕ → List ℕ → Option ℕ
number_in most ds = cond (is_decimal ds && leb (number_spelt 10 0 ds) most) (Some (number_spelt 10 0 ds)) None

-- the number after a minus: "`-0` is malformed"
unfoldable pub minus : Option ℕ → Option ℤ
minus (Some zero) = None
minus (Some (suc n)) = Some (negsuc n)
minus None = None

-- a number with no minus
unfoldable pub plus : Option ℕ → Option ℤ
plus (Some n) = Some (pos n)
plus None = None

-- "only units may carry a minus", "units: 16, signed": from -32768 to 32767
unfoldable pub signed_in : List ℕ → Option ℤ
signed_in [] = None
signed_in (d ∷ ds) = cond (eqb d (code "-")) (minus (number_in 32768 ds)) (plus (number_in 32767 (d ∷ ds)))

-- "the float's bits as eight upper-case hexadecimal digits"
unfoldable pub bits_in : List ℕ → Option ℕ
bits_in ds = cond (eqb (length ds) 8 && are_digits 16 ds) (Some (number_spelt 16 0 ds)) None

-- ---- a line with a number

-- whether there is a number
unfoldable pub is_number : Option ℕ → Bool
is_number (Some n) = true
is_number None = false

-- and which one, or 0
unfoldable pub value_in : Option ℕ → ℕ
value_in (Some n) = n
value_in None = 0

-- the number that a text's first line holds after its key
unfoldable pub field_in : List ℕ → ℕ → List ℕ → Option ℕ
field_in key most text = cond (has_line key text) (number_in most (line_value key text)) None
