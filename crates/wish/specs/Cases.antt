-- Document 01, Edges: "Accelerations, in units before trimming", of which the first three "get the values of this rule (0, 0 and 0)" by document 02, T-04. One table of bits with what they give; `proofs/Cases.antt` proves it as a whole.
use Rattle.std.specs.Prelude.{List, [], ◌∷◌, ℕ, ℤ, pos, neg_ℤ, Option, Some, None}

pub record Case : Type 0 where
  pub bits : ℕ
  pub gives : Option ℤ

-- the three after them are "41800000 accepted; 41800001 and 7FC00000 get 7", the last two T-04's "3DC00000 gives 2, BDC00000 gives −2"
unfoldable pub acceleration_cases : List Case
acceleration_cases =
    record { bits = 0xBD00_0000; gives = Some (pos 0) }
    ∷ record { bits = 0x3D00_0000; gives = Some (pos 0) }
    ∷ record { bits = 0x8000_0001; gives = Some (pos 0) }
    ∷ record { bits = 0x4180_0000; gives = Some (pos 256) }
    ∷ record { bits = 0x4180_0001; gives = None }
    ∷ record { bits = 0x7FC0_0000; gives = None }
    ∷ record { bits = 0x3DC0_0000; gives = Some (pos 2) }
    ∷ record { bits = 0xBDC0_0000; gives = Some (neg_ℤ (pos 2)) }
    ∷ []
