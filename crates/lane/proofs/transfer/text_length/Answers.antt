-- The four parts are as long as they are one by one.
use mathlib.Core.Path.{◌≡◌, ap, ◌∙◌}
use mathlib.Core.List.{◌∷◌, []}
use native.Mathlib.Omega.{arith}
use lib.ListN.{length}
use Rattle.text.specs.Groups.{group_text}
use Rattle.lane.specs.declared.layout.Figures.{Figures}
use Rattle.lane.specs.Layout.{state_of}
use Rattle.lane.specs.Handover.{road_keys}
use Rattle.lane.proofs.calls.Handing.{handover_length}
use Rattle.lane.proofs.transfer.text_length.Goals as goal

pub returns : goal.returns
returns c =
    let long : c.road_length.result ≡ _ = c.road_length.ensures.0
    ∙ ap (λ (f : Figures). length (group_text road_keys (f.road.surface ∷ f.road.end ∷ f.road.limit ∷ f.cycle ∷ []))) c.figures_of-f.ensures.value in
    omega (arith, c.text_length.ensures.0, c.text_length-2.ensures.0, long, c.text_length-3.ensures.0, handover_length (state_of c.args.l.now))
