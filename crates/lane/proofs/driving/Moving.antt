-- The carriers after a cycle: each keeps its number, its length and its own rate, and none is faster than the limit.
use mathlib.Core.Path.{◌≡◌, refl}
use mathlib.Core.Bool.{Bool, true, false, cond}
use mathlib.Core.List.{List, [], ◌∷◌}
use Prim.Native.Nat.{ℕ, ◌≤◌}
use native.Mathlib.Omega.{arith}
use borrow.Author.Tests.{le-ltb, ltb-false}
use lib.IntN.{ℤ}
use lib.ListN.{length}
use Rattle.headway.specs.Motion.{speed_after}
use Rattle.headway.specs.Stopping.{braking}
use Rattle.lane.specs.declared.Carrier.{Carrier}
use Rattle.lane.specs.declared.Drive.{Drive}
use Rattle.lane.specs.declared.Road.{Road}
use Rattle.lane.specs.declared.Row.{Row}
use Rattle.lane.specs.Safety.{Ahead, leader, guaranteed_rate, any_of, numbered, repeats}
use Rattle.lane.specs.Rules.{unlawful}
use Rattle.lane.specs.Wishes.{trimmed, stands, drive, drives, moved, all_moved}
use Rattle.lane.proofs.driving.Drives.{Leads, trimmed_leads, braking_leads}
use Rattle.lane.proofs.lists.Tests.{neither}
use Rattle.lane.proofs.checks.Soundness.{lawful_in}

pub moved_length : (cs : List Carrier) (ds : List Drive) → length (all_moved cs ds) ≤ length cs
unfolding all_moved
moved_length [] ds = omega arith
moved_length (c ∷ cs) [] = omega arith
moved_length (c ∷ cs) (d ∷ ds) = omega (arith, moved_length cs ds)

pub moved_numbers : (number : ℕ) (cs : List Carrier) (ds : List Drive) → any_of (numbered number) cs ≡ false → any_of (numbered number) (all_moved cs ds) ≡ false
unfolding any_of all_moved moved
moved_numbers number [] ds e = refl
moved_numbers number (c ∷ cs) [] e = refl
moved_numbers number (c ∷ cs) (d ∷ ds) e =
    let h = neither (numbered number c) (any_of (numbered number) cs) e in
    rw h.0 (moved_numbers number cs ds h.1)

pub moved_repeats : (cs : List Carrier) (ds : List Drive) → repeats cs ≡ false → repeats (all_moved cs ds) ≡ false
unfolding repeats all_moved moved
moved_repeats [] ds e = refl
moved_repeats (c ∷ cs) [] e = refl
moved_repeats (c ∷ cs) (d ∷ ds) e =
    let h = neither (any_of (numbered c.number) cs) (repeats cs) e in
    rw (moved_numbers c.number cs ds h.0) (moved_repeats cs ds h.1)

module _ (r : Row) (road : Road) where
  drive_leads : (ahead : Ahead) (c : Carrier) (z : ℤ) → c.speed ≤ road.limit
      → Leads c.speed (drive r road.limit ahead c z).acceleration road.limit
  unfolding drive
  drive_leads ahead c z h = by_test (stands r ahead c (trimmed r road.limit c z))
    where
      by_test : (t : Bool) → Leads c.speed (cond t (trimmed r road.limit c z) (braking (guaranteed_rate r c) c.speed)) road.limit
      by_test true = trimmed_leads r road.limit c z h
      by_test false = braking_leads (guaranteed_rate r c) c.speed road.limit h

  pub moved_lawful : (ahead : Ahead) (cs : List Carrier) (zs : List ℤ) → any_of (unlawful road) cs ≡ false
      → any_of (unlawful road) (all_moved cs (drives r road.limit ahead cs zs)) ≡ false
  unfolding any_of all_moved drives moved unlawful
  moved_lawful ahead [] zs e = refl
  moved_lawful ahead (c ∷ cs) [] e = refl
  moved_lawful ahead (c ∷ cs) (z ∷ zs) e =
      let h = neither (unlawful road c) (any_of (unlawful road) cs) e in
      let own = lawful_in road c h.0 in
      let a = (drive r road.limit ahead c z).acceleration in
      let slow = (drive_leads ahead c z (ltb-false road.limit c.speed own.1)).small in
      rw (own.0, le-ltb road.limit (speed_after c.speed a) slow, own.2, own.3) (moved_lawful (leader c) cs zs h.1)
