-- Document 01, "Call texts", computed from the definitions: what is malformed, and the ends of the numbers' ranges.
use mathlib.Core.Path.{◌≡◌, refl}
use mathlib.Core.Bool.{false}
use mathlib.Core.List.{[]}
use lib.IntN.{negsuc}
use Rattle.text.specs.Ascii.{ascii}
use Rattle.text.specs.Fields.{line_length, starts_with, has_line, line_value, digit_in, are_digits, number_spelt, is_decimal, number_in, minus, plus, signed_in, bits_in}
use Rattle.std.specs.Prelude.{Some, None}

-- a line with its newline and without; 16 bits; a leading zero and nothing; signed numbers; a float's bits
readings : (line_value (ascii "at=") (ascii "at=70\na") ≡ ascii "70")
    × (has_line (ascii "at=") (ascii "at=70") ≡ false)
    × (number_in 65535 (ascii "65535") ≡ Some 65535)
    × (number_in 65535 (ascii "65536") ≡ None)
    × (number_in 65535 (ascii "07") ≡ None)
    × (number_in 65535 [] ≡ None)
    × (signed_in (ascii "-0") ≡ None)
    × (signed_in (ascii "-32768") ≡ Some (negsuc 32767))
    × (signed_in (ascii "32768") ≡ None)
    × (bits_in (ascii "BD000000") ≡ Some 0xbd00_0000)
    × (bits_in (ascii "bd000000") ≡ None)
    × (bits_in (ascii "BD00000") ≡ None)
unfolding line_length starts_with has_line line_value digit_in are_digits number_spelt is_decimal number_in minus plus signed_in bits_in
readings = (refl, refl, refl, refl, refl, refl, refl, refl, refl, refl, refl, refl)
