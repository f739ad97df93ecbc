-- Document 01, "Call texts" and "Calls": a line, and bytes put into a lent buffer.
use Rattle.std.specs.Prelude.{ℕ, ◌+◌, Bool, cond, List, [], ◌∷◌, ◌++◌, leb, length, take, drop}
use Prim.Native.Char.{code}

-- "`key=value` lines": a key with its equals sign, a value, a newline
unfoldable pub line : List ℕ → List ℕ → List ℕ
line key value = key ++ value ++ (code "\n" ∷ [])

-- whether bytes put into a buffer from a place on end within it
unfoldable pub fits : ℕ → List ℕ → List ℕ → Bool
fits at bytes buffer = leb (at + length bytes) (length buffer)

-- "bytes of the buffer after the text don't change"; of bytes that don't fit, "lent bytes are unchanged"
unfoldable pub written : ℕ → List ℕ → List ℕ → List ℕ
written at bytes buffer = cond (fits at bytes buffer) (take at buffer ++ bytes ++ drop (at + length bytes) buffer) buffer

-- "It gives the text's length": the place after the bytes, where they fit
unfoldable pub place_after : ℕ → List ℕ → List ℕ → ℕ
place_after at bytes buffer = cond (fits at bytes buffer) (at + length bytes) at
