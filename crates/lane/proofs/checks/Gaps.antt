-- Two carriers, one behind the other: what the code requires of them, and who is ahead of a place of the first `count`, as an index finds it.
use mathlib.Core.Path.{◌≡◌, refl}
use mathlib.Core.List.{List}
use Prim.Native.Nat.{ℕ, ◌+◌, ◌-◌, ◌≤◌, ◌<◌}
use native.Mathlib.Omega.{arith}
use borrow.Author.Tests.{eq-eqb, ne_eqb}
use lib.ListN.{get_or, take}
use lib.Seq.{get_or-take}
use Rattle.lane.specs.declared.Carrier.{Carrier}
use Rattle.lane.specs.declared.Road.{Road}
use Rattle.lane.specs.Safety.{nobody, leader}
use Rattle.lane.specs.Calls.{none, ahead_of}
use Rattle.lane.proofs.checks.Soundness.{SoundRoad, Fit, fit_narrow}

-- what a function requires of the two
pub pair_narrow : (road : Road) (ahead c : Carrier) → SoundRoad road → Fit road ahead → Fit road c
    → (c.position + ahead.length < 4294967296) × ((c.speed < 4294967296) × ((ahead.position < 4294967296) × (ahead.speed < 4294967296)))
pair_narrow road ahead c r a b =
    let wide = fit_narrow road c r b in
    let wide-ahead = fit_narrow road ahead r a in
    (omega (arith, wide.position, wide-ahead.short), (wide.speed, (omega (arith, wide-ahead.position), wide-ahead.speed)))

module _ (l : List Carrier) (count place : ℕ) where
  pub ahead_is : 0 < place → place ≤ count → ahead_of place (take count l) ≡ leader (get_or l (place - 1) none)
  ahead_is p h = rw (ne_eqb place 0 (λ e. omega arith), get_or-take count l (place - 1) none (omega arith)) refl

  pub ahead_nobody : place ≤ 0 → ahead_of place (take count l) ≡ nobody
  ahead_nobody h = rw (eq-eqb place 0 (omega arith)) refl
