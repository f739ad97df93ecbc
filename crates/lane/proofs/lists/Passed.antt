-- What is known after tests have been passed.
use mathlib.Core.Path.{◌≡◌, refl}
use mathlib.Core.Bool.{Bool, true, false, ◌&&◌, cond, false≢true}
use Prim.Native.Nat.{ℕ, suc}
use native.Mathlib.Omega.{arith}

pub both : (s t : Bool) → s && t ≡ true → (s ≡ true) × (t ≡ true)
both true t e = (refl, e)
both false t e = absurd (false≢true e)

-- a call whose number is 0 was not refused at this check, nor at a later one
pub passed : (t : Bool) (number later : ℕ) → cond t (suc number) later ≡ 0 → (t ≡ false) × (later ≡ 0)
passed true number later e = absurd (omega arith)
passed false number later e = (refl, e)
