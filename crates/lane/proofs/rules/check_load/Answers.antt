-- The checks are made in the order of `load_no`, and a lane never started is not looked at by the first.
use mathlib.Core.Path.{◌≡◌, refl, sym, ◌∙◌}
use mathlib.Core.Bool.{true, false, ◌&&◌}
use mathlib.Core.List.{List}
use Prim.Native.Nat.{ℕ}
use Rattle.std.specs.Prelude.{Option, Some, None, Ok, Err, is_some}
use Rattle.std.specs.Option.{ok_or}
use Rattle.lane.specs.declared.refusal.Refusal.{Refusal}
use Rattle.lane.specs.declared.refusal.Refusal.TheVariants.{TableUnsound}
use native.Mathlib.Omega.{arith}
use Rattle.lane.specs.Layout.{state_of}
use Rattle.lane.specs.Rules.{broken}
use Rattle.lane.proofs.Refused.{passed_up}
use Rattle.lane.proofs.checks.Checks.{load_checks, passes_21, refuses_21}
use Rattle.lane.proofs.rules.check_load.Goals.{then-f+in_ok-check_sound, else-f, Joined-f}
use Rattle.lane.proofs.rules.check_load.Goals as goal

pub returns-in_err-check_sound-clause-number : goal.returns-in_err-check_sound-clause-number
returns-in_err-check_sound-clause-number c text e =
    let why = refuses_21 (state_of c.args.l.now) _ c.in_err-check_sound.ensures in
    rw (passed_up _ c.from_residual.ensures.1, load_checks _ _ c.figures_of-f.ensures.value text, c.if-f.true, why.0) why.1

-- past the first check
lawful : (j : Joined-f) → j.figures_of-f.result.started && broken (state_of j.args.l.now) ≡ false
lawful j =
    elim j.if-f.branch [
      | then-f+in_ok-check_sound w ↦ rw (w.if-f.true, passes_21 _ w.in_ok-check_sound.ensures) refl
      | else-f w ↦ rw w.if-f.false refl
    ]

-- no table is refused by 31
none_loaded : (loaded : Option (List (List ℕ))) {refusal : Refusal} → Err refusal ≡ ok_or loaded TableUnsound → (is_some loaded ≡ false) × (refusal ≡ TableUnsound)
none_loaded (Some table) e = let z : ◌≡◌ {A = ℕ} 0 1 = cc in absurd (omega arith)
none_loaded None e = (refl, cc)

one_loaded : (loaded : Option (List (List ℕ))) {table : List (List ℕ)} → Ok table ≡ ok_or {E = Refusal} loaded TableUnsound → is_some loaded ≡ true
one_loaded (Some table) e = refl
one_loaded None e = let z : ◌≡◌ {A = ℕ} 0 1 = cc in absurd (omega arith)

pub returns-in_err-table-clause-number : goal.returns-in_err-table-clause-number
returns-in_err-table-clause-number c text e =
    let none = none_loaded c.args.loaded (sym c.in_err-table.was ∙ c.ok_or.ensures.value) in
    rw (passed_up _ c.from_residual-in_err-table.ensures.1, none.1, load_checks _ _ c.figures_of-f.ensures.value text, lawful (goal.at.returns-in_err-table-clause-number c).Joined-f, e, none.0) refl

pub returns-then-f-2-clause-number : goal.returns-then-f-2-clause-number
returns-then-f-2-clause-number c text e =
    let one = one_loaded c.args.loaded (sym c.in_ok-table.was ∙ c.ok_or.ensures.value) in
    rw (load_checks _ _ c.figures_of-f.ensures.value text, lawful (goal.at.returns-then-f-2-clause-number c).Joined-f, e, one, c.if-f-2.true) refl

pub returns-clause-number : goal.returns-clause-number
returns-clause-number c text e =
    let one = one_loaded c.args.loaded (sym c.in_ok-table.was ∙ c.ok_or.ensures.value) in
    rw (load_checks _ _ c.figures_of-f.ensures.value text, lawful (goal.at.returns-clause-number c).Joined-f, e, one, c.if-f-2.false) refl
