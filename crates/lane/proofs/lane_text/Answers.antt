use mathlib.Core.Path.{◌≡◌, refl, sym, ◌∙◌, subst, ap₂}
use mathlib.Core.Bool.{false}
use native.Mathlib.Nat.{zero-add}
use borrow.Author.Tests.{ltb-false}
use lib.Dec.{ltb}
use lib.ListN.{length}
use Rattle.lane.specs.declared.refusal.Refusal.TheVariants.{TextBufferTooShort}
use Rattle.lane.specs.Layout.{state_of}
use Rattle.lane.specs.Rules.{broken}
use Rattle.lane.specs.Listing.{lane_text, text_no, text_bytes}
use Rattle.lane.specs.Call.{text_call, told, Answer, Gives}
use Rattle.lane.proofs.checks.Checks.{passes_21, refuses_21}
use Rattle.lane.proofs.checks.Soundness.{sound}
use Rattle.lane.proofs.calls.Writing.{writing_broken, writing_too_long, writing_fits, writing_put}
use Rattle.lane.proofs.Refused.{passed_up}
use Rattle.lane.proofs.calls.Answers.{gives_refusal, gives_accepted}
use Rattle.lane.proofs.lane_text.Goals.{In_ok-check_sound, Else-longer_than}
use Rattle.lane.proofs.lane_text.Goals as goal

unbroken : (c : In_ok-check_sound) → broken (state_of c.args.l.now) ≡ false
unbroken c = passes_21 _ c.in_ok-check_sound.ensures

pub returns-in_err-check_sound : goal.returns-in_err-check_sound
unfolding text_no
returns-in_err-check_sound c =
    let a = c.args in
    let s = state_of a.l.now in
    let why = refuses_21 s _ c.in_err-check_sound.ensures in
    let n = writing_broken s (lane_text s) a.out.now why.0 in
    rw (passed_up _ c.from_residual.ensures.1) (gives_refusal (text_call a.out.now) a.l.now _ (why.1 ∙ sym n))

pub longer_than-requires : goal.longer_than-requires
longer_than-requires c = unbroken (goal.at.longer_than-requires c).In_ok-check_sound

pub returns-then-longer_than : goal.returns-then-longer_than
unfolding text_no
returns-then-longer_than c =
    let a = c.args in
    let s = state_of a.l.now in
    let n = writing_too_long s (lane_text s) a.out.now (unbroken (goal.at.returns-then-longer_than c).In_ok-check_sound) (sym c.longer_than.ensures ∙ c.if-longer_than.true) in
    gives_refusal (text_call a.out.now) a.l.now TextBufferTooShort (sym n)

-- and the text is not longer than the buffer
fitting : (c : Else-longer_than)
    → let a = c.args in ltb (length a.out.now) (length (lane_text (state_of a.l.now))) ≡ false
fitting c = sym c.longer_than.ensures ∙ c.if-longer_than.false

pub put_text-requires : goal.put_text-requires
put_text-requires c = ((sound _ (unbroken (goal.at.put_text-requires c).In_ok-check_sound)).count, rw zero-add (ltb-false _ _ (fitting (goal.at.put_text-requires c).Else-longer_than)))

pub returns : goal.returns
unfolding text_no text_bytes
returns c =
    let a = c.args in
    let s = state_of a.l.now in
    let x = text_call a.out.now in
    let bytes = c.put_text.ensures.out_after ∙ writing_put s (lane_text s) a.out.now (ltb-false _ _ (fitting (goal.at.returns c).Else-longer_than)) in
    subst (λ (t : Answer). Gives x a.l.now t a.l.now) (ap₂ (told 0) (sym (rw zero-add at c.put_text.ensures.value)) (sym bytes))
    (gives_accepted x a.l.now a.l.now (writing_fits s (lane_text s) a.out.now (unbroken (goal.at.returns c).In_ok-check_sound) (fitting (goal.at.returns c).Else-longer_than)) refl)
