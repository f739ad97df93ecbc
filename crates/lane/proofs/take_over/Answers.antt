-- A text that holds no lane is refused by 36, and any other by the number of its lane.
use mathlib.Core.Path.{◌≡◌, refl, sym, ap, ◌∙◌}
use Prim.Native.Nat.{ℕ}
use native.Mathlib.Omega.{arith}
use Rattle.lane.specs.Refusals.{outcome_no}
use Rattle.lane.specs.Handover.{take_over_no}
use Rattle.lane.proofs.Refused.{refused_number, accepted_zero}
use Rattle.lane.proofs.calls.Handing.{reads_none, reads_one, taken, refused}
use Rattle.lane.proofs.take_over.Goals.{in-Some, in-None, Joined-read}
use Rattle.lane.proofs.take_over.Goals as goal

-- the number of what is returned is that of the text
number : (j : Joined-read) → outcome_no j.match-read.taken ≡ take_over_no j.args.text.now
number j =
    elim j.match-read.branch [
      | in-Some w ↦ ap outcome_no w.taken-is ∙ w.check_lane-taken.ensures ∙ sym (reads_one _ _ w.in-Some.ensures)
      | in-None w ↦ ap outcome_no w.taken-is ∙ sym (reads_none _ w.in-None.ensures)
    ]

pub returns-then-is_err : goal.returns-then-is_err
returns-then-is_err c =
    refused c.args.text.now _ _ (number (goal.at.returns-then-is_err c).Joined-read) (refused_number c.match-read.taken (sym c.is_err.ensures.value ∙ c.if-is_err.true)) c.clear.ensures

pub returns-else-is_err : goal.returns-else-is_err
returns-else-is_err c =
    let zero = accepted_zero c.match-read.taken (sym c.is_err.ensures.value ∙ c.if-is_err.false) in
    rw zero
    (elim c.match-read.branch [
      | in-Some w ↦ taken c.args.text.now _ _ w.in-Some.ensures (sym w.check_lane-taken.ensures ∙ ap outcome_no (sym w.taken-is) ∙ zero) refl
      | in-None w ↦ let none : ◌≡◌ {A = ℕ} 36 0 = ap outcome_no (sym w.taken-is) ∙ zero in absurd (omega arith)
    ])
