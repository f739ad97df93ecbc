-- What the functions give for every number, also those that document 01 leaves out; docs/DECISIONS.md has the reasons.
use Rattle.std.specs.Prelude.{ℕ, ◌+◌, Bool, ◌&&◌, cond, ltb, ℤ, pos, ◌+ℤ◌, Option, Some, None}
use Rattle.std.specs.Int.Signed.{le_z, lt_z}
use Rattle.headway.specs.Motion.{speed_after, position_after}
use Rattle.headway.specs.Stopping.{stopping_distance, safe_behind}
use Rattle.headway.specs.Wishes.{rests_behind}
use Rattle.headway.specs.declared.Moved.{Moved}

-- at a rate of 0 nothing comes to rest
unfoldable pub stop_of : ℕ → ℕ → Option ℕ
stop_of c v = cond (ltb 0 c) (Some (stopping_distance c v)) None

-- where a carrier rests; at a rate of 0 it is 0, below which nobody rests
unfoldable pub rest_of : (c p v : ℕ) → ℕ
rest_of c p v = cond (ltb 0 c) (p + stopping_distance c v) 0

-- it rests below a bound; never at a rate of 0
unfoldable pub rests_below : (c p v bound : ℕ) → Bool
rests_below c p v bound = ltb 0 c && ltb (p + stopping_distance c v) bound

-- v + a is a speed if it is not negative and 32 bits hold it
unfoldable pub is_speed : ℕ → ℤ → Bool
is_speed v a = le_z (pos 0) (pos v +ℤ a) && lt_z (pos v +ℤ a) (pos 4294967296)

-- one cycle: where v + a is no speed there is none
unfoldable pub moved_of : ℕ → ℕ → ℤ → Option Moved
moved_of p v a = cond (is_speed v a) (Some (record { position = position_after p v a; speed = speed_after v a })) None

-- two rates at which carriers come to rest
unfoldable pub rated : ℕ → ℕ → Bool
rated b B = ltb 0 b && ltb 0 B

-- nobody is safe at a rate of 0
unfoldable pub safe_of : (b B p v pL vL : ℕ) → Bool
safe_of b B p v pL vL = rated b B && safe_behind b B p v pL vL

-- no wish passes at a rate of 0, or if it leads to no speed
unfoldable pub passes_of : (b B p v : ℕ) → ℤ → (pL vL : ℕ) → Bool
passes_of b B p v w pL vL = rated b B && (is_speed v w && rests_behind b B p v w pL vL)
