-- One carrier in a cycle: what it drives and where that leads.
use mathlib.Core.Path.{◌≡◌, refl, sym, ap, ◌∙◌}
use mathlib.Core.Bool.{Bool, true, false, cond}
use Prim.Native.Nat.{ℕ, ◌-◌, ◌≤◌}
use native.Mathlib.Omega.{arith}
use lib.IntN.{ℤ, pos, ◌+ℤ◌, ◌-ℤ◌}
use lib.Signed.{le_z}
use Rattle.headway.specs.Motion.{speed_after, position_after}
use Rattle.headway.specs.Stopping.{braking}
use Rattle.headway.specs.Totals.{passes_of}
use Rattle.headway.proofs.Laws.{braking_speed, speed_after_is, reached_after, passes_is}
use Rattle.wish.specs.Trimming.{trimmed_to}
use Rattle.wish.proofs.Laws.{new_speed}
use Rattle.lane.specs.declared.Carrier.{Carrier}
use Rattle.lane.specs.declared.Row.{Row}
use Rattle.lane.specs.Safety.{Ahead, nobody, leader, guaranteed_rate, reach_to}
use Rattle.lane.specs.Wishes.{trimmed, stands, drive, moved}

-- the acceleration a leads the speed v to a speed of at most `limit`
pub record Leads (v : ℕ) (a : ℤ) (limit : ℕ) : Type 0 where
  pub sum : pos v +ℤ a ≡ pos (speed_after v a)
  pub small : speed_after v a ≤ limit

leads : (v : ℕ) (a : ℤ) (u limit : ℕ) → pos v +ℤ a ≡ pos u → u ≤ limit → Leads v a limit
leads v a u limit e h =
    let f = speed_after_is v a u e in
    record { sum = e ∙ ap pos (sym f); small = omega arith }

pub trimmed_leads : (r : Row) (limit : ℕ) (c : Carrier) (z : ℤ) → c.speed ≤ limit → Leads c.speed (trimmed r limit c z) limit
unfolding trimmed
trimmed_leads r limit c z h =
    let n = new_speed z c.speed r.hardest r.most limit h in
    leads c.speed (trimmed_to z c.speed r.hardest r.most limit) n.speed limit n.is n.within_limit

pub braking_leads : (b v limit : ℕ) → v ≤ limit → Leads v (braking b v) limit
braking_leads b v limit h = leads v (braking b v) (v - b) limit (braking_speed b v) (omega arith)

-- ---- where an acceleration leads
pub moved_is : (c : Carrier) (a : ℤ) → Leads c.speed a 8192 → (x y : ℕ) → y ≡ speed_after c.speed a
    → x ≡ position_after c.position c.speed (pos y -ℤ pos c.speed)
    → record { number = c.number; position = x; speed = y; length = c.length; rate = c.rate } ≡ moved c a
unfolding moved
moved_is c a l x y q p =
    let there = ap (λ (u : ℕ). position_after c.position c.speed (pos u -ℤ pos c.speed)) q in
    rw (p ∙ there ∙ reached_after c.position c.speed a (speed_after c.speed a) l.sum, q) refl

-- ---- whether a trimmed wish stands
module _ (r : Row) (foremost : Bool) (ahead c : Carrier) (w : ℤ) where
  pub foremost_stands : foremost ≡ true → true ≡ stands r (cond foremost nobody (leader ahead)) c w
  unfolding stands
  foremost_stands e = rw e refl

  module _ (f : foremost ≡ false) where
    pub braking_stands : le_z w (braking (guaranteed_rate r c) c.speed) ≡ true → true ≡ stands r (cond foremost nobody (leader ahead)) c w
    unfolding stands
    braking_stands e = rw (f, e) refl

    pub test_stands : 1 ≤ guaranteed_rate r c → 1 ≤ r.hardest → Leads c.speed w 8192 → le_z w (braking (guaranteed_rate r c) c.speed) ≡ false
        → passes_of (guaranteed_rate r c) r.hardest (reach_to ahead c) c.speed w ahead.position ahead.speed
        ≡ stands r (cond foremost nobody (leader ahead)) c w
    unfolding stands
    test_stands hb hB l e =
        passes_is (guaranteed_rate r c) r.hardest (reach_to ahead c) c.speed w ahead.position ahead.speed (speed_after c.speed w) hb hB l.sum
        (omega (arith, l.small)) ∙ rw (f, e) refl

-- ---- what a carrier drives
module _ (r : Row) (limit : ℕ) (ahead : Ahead) (c : Carrier) (z a : ℤ) where
  pub drive_kept : stands r ahead c (trimmed r limit c z) ≡ true → a ≡ trimmed r limit c z
      → record { replaced = false; acceleration = a } ≡ drive r limit ahead c z
  unfolding drive
  drive_kept s f = rw (s, f) refl

  pub drive_replaced : stands r ahead c (trimmed r limit c z) ≡ false → a ≡ braking (guaranteed_rate r c) c.speed
      → record { replaced = true; acceleration = a } ≡ drive r limit ahead c z
  unfolding drive
  drive_replaced s f = rw (s, f) refl
