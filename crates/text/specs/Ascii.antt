-- Document 01, "Call texts": how its keys and words are written in the definitions, in quotes.
use Rattle.std.specs.Prelude.{ℕ, List, [], ◌∷◌}
use Prim.Native.Char.{code}
use Prim.Native.String.{String}
use Prim.Native.String as string

-- the bytes of a text in quotes, all of whose characters are ASCII
abbrev pub ascii : String → List ℕ
ascii string.[] = []
ascii (string.◌∷◌ c cs) = code c ∷ ascii cs
