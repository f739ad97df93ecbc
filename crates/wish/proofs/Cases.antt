-- The marked accelerations are what the definitions give, proved as one table; each of its rows again by name, so that none can be left out.
use mathlib.Core.Path.{◌≡◌, refl}
use mathlib.Core.List.{map}
use Prim.Native.Nat.{ℕ}
use lib.IntN.{ℤ, pos, neg_ℤ}
use lib.Ieee.{binary32, of_bits}
use Rattle.wish.specs.Units.{units_of}
use Rattle.wish.specs.Cases.{Case, acceleration_cases}
use Rattle.std.proofs.Common.{Option, Some, None}
use Rattle.wish.specs.declared.Wish.TheVariants.{Acceleration}

-- at whatever present speed
module _ (v : ℕ) where
  -- the units of an acceleration, by its bits
  abbrev pub units_of_bits : ℕ → Option ℤ
  units_of_bits bits = units_of (Acceleration (of_bits binary32 bits)) v

  pub acceleration_cases_is : map (λ (c : Case). units_of_bits c.bits) acceleration_cases ≡ map (λ (c : Case). c.gives) acceleration_cases
  unfolding acceleration_cases units_of of_bits
  acceleration_cases_is = refl

  pub acceleration_BD000000 : units_of_bits 0xBD00_0000 ≡ Some (pos 0)
  unfolding acceleration_cases
  acceleration_BD000000 = cc acceleration_cases_is

  pub acceleration_3D000000 : units_of_bits 0x3D00_0000 ≡ Some (pos 0)
  unfolding acceleration_cases
  acceleration_3D000000 = cc acceleration_cases_is

  pub acceleration_80000001 : units_of_bits 0x8000_0001 ≡ Some (pos 0)
  unfolding acceleration_cases
  acceleration_80000001 = cc acceleration_cases_is

  pub acceleration_41800000_accepted : units_of_bits 0x4180_0000 ≡ Some (pos 256)
  unfolding acceleration_cases
  acceleration_41800000_accepted = cc acceleration_cases_is

  pub acceleration_41800001_outside : units_of_bits 0x4180_0001 ≡ None
  unfolding acceleration_cases
  acceleration_41800001_outside = cc acceleration_cases_is

  pub acceleration_7FC00000_outside : units_of_bits 0x7FC0_0000 ≡ None
  unfolding acceleration_cases
  acceleration_7FC00000_outside = cc acceleration_cases_is

  pub acceleration_3DC00000 : units_of_bits 0x3DC0_0000 ≡ Some (pos 2)
  unfolding acceleration_cases
  acceleration_3DC00000 = cc acceleration_cases_is

  pub acceleration_BDC00000 : units_of_bits 0xBDC0_0000 ≡ Some (neg_ℤ (pos 2))
  unfolding acceleration_cases
  acceleration_BDC00000 = cc acceleration_cases_is
