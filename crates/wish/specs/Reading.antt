-- Document 01, Calls, Read: "a record of two doubles, position in metres and speed in m/s, both exact". The type `Reading` is the source's.
use Rattle.std.specs.Prelude.{ℕ, false, Float}
use Rattle.std.specs.Float.{binary64}
use Rattle.std.specs.Float.Ieee.{round}
use Rattle.wish.specs.declared.Reading.{Reading}

-- "doubles": the one nearest to p / d, which for these d and a p of 32 bits is p / d itself
unfoldable pub double_of : ℕ → ℕ → Float
unfolding round
double_of p d = round binary64 false p d

-- "A position p counts 1/2048 m. A speed v counts 1/128 m/s."
unfoldable pub reading_of : ℕ → ℕ → Reading
unfolding double_of
reading_of p v = record { position = double_of p 2048; speed = double_of v 128 }
