-- The program's limits, by name.
use Rattle.std.specs.Prelude.{ℕ}

-- "10 program input above 65,536 bytes"
abbrev pub longest_input : ℕ
longest_input = 65536

-- decided: the bytes of a buffer that every answer fits into; `step` refuses a shorter one by 13
abbrev pub answer_space : ℕ
answer_space = 4096
