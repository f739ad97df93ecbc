use mathlib.Core.Path.{◌≡◌, refl, sym, ap₂, ◌∙◌, subst}
use mathlib.Core.Bool.{false}
use Prim.Native.Nat.{◌≤◌, ◌<◌}
use native.Mathlib.Omega.{arith}
use borrow.Author.Tests.{lt-ltb, le-ltb}
use lib.ListN.{length}
use Rattle.lane.specs.declared.refusal.Refusal.TheVariants.{TextBufferTooShort}
use Rattle.lane.specs.Layout.{state_of}
use Rattle.lane.specs.Rules.{broken}
use Rattle.lane.specs.Handover.{handover_text, handover_no, handover_bytes}
use Rattle.lane.specs.Call.{handover_call, told, Answer, Gives}
use Rattle.lane.proofs.checks.Checks.{passes_21, refuses_21}
use Rattle.lane.proofs.checks.Soundness.{sound}
use Rattle.lane.proofs.calls.Writing.{writing_broken, writing_too_long, writing_fits, writing_put}
use Rattle.lane.proofs.Refused.{passed_up}
use Rattle.lane.proofs.calls.Answers.{gives_refusal, gives_accepted}
use Rattle.lane.proofs.handover.Goals.{In_ok-check_sound, Else-out-text_length}
use Rattle.lane.proofs.handover.Goals as goal

unbroken : (c : In_ok-check_sound) → broken (state_of c.args.l.now) ≡ false
unbroken c = passes_21 _ c.in_ok-check_sound.ensures

pub returns-in_err-check_sound : goal.returns-in_err-check_sound
unfolding handover_no
returns-in_err-check_sound c =
    let a = c.args in
    let s = state_of a.l.now in
    let why = refuses_21 s _ c.in_err-check_sound.ensures in
    let n = writing_broken s (handover_text s) a.out.now why.0 in
    rw (passed_up _ c.from_residual.ensures.1) (gives_refusal (handover_call a.out.now) a.l.now _ (why.1 ∙ sym n))

pub text_length-requires : goal.text_length-requires
text_length-requires c = (sound _ (unbroken (goal.at.text_length-requires c).In_ok-check_sound)).count

pub returns-then-out-text_length : goal.returns-then-out-text_length
unfolding handover_no
returns-then-out-text_length c =
    let a = c.args in
    let s = state_of a.l.now in
    let longer : length a.out.now < length (handover_text s) = omega (arith, c.text_length.ensures, c.if-out-text_length.true) in
    let n = writing_too_long s (handover_text s) a.out.now (unbroken (goal.at.returns-then-out-text_length c).In_ok-check_sound) (lt-ltb _ _ longer) in
    gives_refusal (handover_call a.out.now) a.l.now TextBufferTooShort (sym n)

-- and the text is not longer than the buffer
fitting : (c : Else-out-text_length) → let a = c.args in length (handover_text (state_of a.l.now)) ≤ length a.out.now
fitting c = omega (arith, c.text_length.ensures, c.if-out-text_length.false)

pub put_text-requires : goal.put_text-requires
put_text-requires c = ((sound _ (unbroken (goal.at.put_text-requires c).In_ok-check_sound)).count, fitting (goal.at.put_text-requires c).Else-out-text_length)

pub returns : goal.returns
unfolding handover_no handover_bytes
returns c =
    let a = c.args in
    let s = state_of a.l.now in
    let x = handover_call a.out.now in
    let bytes = c.put_text.ensures.out_after ∙ writing_put s (handover_text s) a.out.now (fitting (goal.at.returns c).Else-out-text_length) in
    subst (λ (t : Answer). Gives x a.l.now t a.l.now) (ap₂ (told 0) (sym c.put_text.ensures.value) (sym bytes))
    (gives_accepted x a.l.now a.l.now (writing_fits s (handover_text s) a.out.now (unbroken (goal.at.returns c).In_ok-check_sound) (le-ltb _ _ (fitting (goal.at.returns c).Else-out-text_length))) refl)
