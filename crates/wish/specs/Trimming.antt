-- Document 01, Wishes: "The units are trimmed into −(smaller of B and v) to the smaller of A and V − v." B is `hardest`, A `most` and V `limit`.
use Rattle.std.specs.Prelude.{ℕ, cond, ℤ, pos, neg_ℤ, ◌-ℤ◌}
use Rattle.std.specs.Int.Signed.{lt_z}

-- "smaller of"
unfoldable pub smaller_of : ℤ → ℤ → ℤ
smaller_of a b = cond (lt_z a b) a b

-- "trimmed into" low to high. Where the ends cross the lower one wins: nothing brakes harder than B.
unfoldable pub trimmed_into : ℤ → ℤ → ℤ → ℤ
unfolding smaller_of
trimmed_into low high w = let capped = smaller_of high w in cond (lt_z capped low) low capped

-- "−(smaller of B and v) to the smaller of A and V − v", the difference over the integers
unfoldable pub trimmed_to : ℤ → (v hardest most limit : ℕ) → ℤ
unfolding smaller_of trimmed_into
trimmed_to w v hardest most limit = trimmed_into (neg_ℤ (smaller_of (pos hardest) (pos v))) (smaller_of (pos most) (pos limit -ℤ pos v)) w
