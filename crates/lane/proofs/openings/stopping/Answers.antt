use mathlib.Core.Path.{ap, ◌∙◌}
use Prim.Native.Nat.{ℕ}
use Rattle.headway.specs.Totals.{rest_of}
use Rattle.headway.proofs.Laws.{rest_from_start}
use Rattle.lane.proofs.openings.stopping.Goals as goal

pub returns : goal.returns
returns c =
    let a = c.args in
    c.rest.ensures ∙ ap (λ (v : ℕ). rest_of a.rate 0 v) c.narrow.ensures ∙ rest_from_start a.rate a.speed c.requires.0
