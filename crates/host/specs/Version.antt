-- The number of the C interface, decided and not the document's: another one whenever a struct, a number, a constant or a function of
-- `include/rondavitse.h` changes, a function in its form or in what it answers.
use Rattle.std.specs.Prelude.{ℕ}

abbrev pub version : ℕ
version = 8
