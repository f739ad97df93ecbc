-- A lane with which a list begins: every text has one number, and an accepted one is that of the lane and of no other.
use mathlib.Core.Path.{◌≡◌, sym, ap, ◌∙◌, subst}
use mathlib.Core.List.{List}
use mathlib.Core.Logic.{◌⊎◌, inl, inr, ⊎_elim}
use Prim.Native.Nat.{ℕ, ◌≤◌}
use lib.ListN.{length}
use Rattle.lane.specs.Limits.{longest_handover}
use Rattle.lane.specs.State.{State}
use Rattle.lane.specs.Layout.{Words, state_of}
use Rattle.lane.specs.Rules.{lane_no}
use Rattle.lane.specs.Handover.{handover_text, take_over_no, TakesOver, InForm}
use Rattle.lane.proofs.Laws.{carrier_lines}
use Rattle.lane.proofs.HandoverLaws.{accepted_form, written_again, taken_lane, one_or_none, one_lane, one_text, handover_lines, row_lines, row_by_row, lane_lines, front_to_back, handover_most}
use Rattle.lane.proofs.HandoverNumbers.{carrier_36, twice_36, road_36, nothing_else_36, unsafe_37, lane_numbers}
use Rattle.history.specs.Readings.{TextOf, NumberOf, Reading, Spelt}

number_of : (s : State) → NumberOf s (lane_no s)
number_of s =
    record {
      one_of = (lane_numbers s).0;
      passes = ((lane_numbers s).1, (lane_numbers s).2);
      road = road_36 s;
      carrier = carrier_36 s;
      twice = twice_36 s;
      nothing_else = nothing_else_36 s;
      unsafe = unsafe_37 s;
    }

module _ (text : List ℕ) (number : ℕ) (l : Words) (g : TakesOver text number l) where
  abbrev Which : Type 0
  Which = ((s : State) × InForm s × TextOf s text × NumberOf s number) ⊎ (((s : State) → InForm s → ¬ (TextOf s text)) × (number ≡ 36))

  which : Which
  which =
      ⊎_elim {C = Which}
      (λ w. inl (w.0, w.1, w.2 ∙ handover_lines w.0, subst (NumberOf w.0) (sym (g.number_is ∙ w.3)) (number_of w.0)))
      (λ w. inr (λ s f same. w.0 s f (same ∙ sym (handover_lines s)), g.number_is ∙ w.1))
      (one_or_none text)

  module _ (z : number ≡ 0) where
    zero : take_over_no text ≡ 0
    zero = sym g.number_is ∙ z

    text_is : text ≡ handover_text (state_of l)
    text_is = sym (written_again text zero).0 ∙ ap handover_text (sym g.state)

    longest : length (handover_text (state_of l)) ≤ longest_handover
    longest =
        let cycle = subst (λ (s : State). s.cycle ≤ 18446744073709551615) (sym g.state) (accepted_form text zero).cycle in
        handover_most l ((taken_lane text number l g).0 z).unbroken cycle

  pub readings : Reading text number l
  readings =
      record {
        which = which;
        one_lane = λ s t f h p q. one_lane s t f h (handover_lines s ∙ sym p ∙ q ∙ sym (handover_lines t));
        accepted = λ z. (text_is z ∙ handover_lines (state_of l), rw (ap length (text_is z)) (longest z));
        one_text = λ z other m h same. one_text other text (sym h.number_is) (zero z) (sym h.state ∙ same ∙ g.state);
        refused = (taken_lane text number l g).1;
      }

pub spelt : Spelt
spelt = record { row_lines = row_lines; row_by_row = row_by_row; lane_lines = lane_lines; front_to_back = front_to_back; carrier_lines = carrier_lines }
