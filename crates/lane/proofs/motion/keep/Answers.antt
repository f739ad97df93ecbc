-- `lane::motion::keep` meets its contract, by whether the carrier is gone.
use mathlib.Core.Path.{◌≡◌, refl, sym, ◌∙◌}
use mathlib.Core.Bool.{true, false}
use Rattle.lane.specs.Rules.{past_end}
use Rattle.lane.proofs.motion.keep.Goals as goal

pub returns-then-past_end : goal.returns-then-past_end
returns-then-past_end c =
    let gone : past_end c.args.road c.args.c ≡ true = sym c.past_end.ensures ∙ c.if-past_end.true in
    record { l_unchanged = (refl, refl); l_after = rw gone refl; value = rw gone refl }

pub returns : goal.returns
returns c =
    let stays : past_end c.args.road c.args.c ≡ false = sym c.past_end.ensures ∙ c.if-past_end.false in
    record { l_unchanged = c.put_carrier.ensures.l_unchanged; l_after = rw stays c.put_carrier.ensures.l_after; value = rw stays refl }
