-- `headway::distance` meets its contract: the form in one product is the sum.
use mathlib.Core.Path.{sym}
use Rattle.headway.proofs.Stopping.{in_one_product}
use Rattle.headway.proofs.distance.Goals as goal

pub returns : goal.returns
returns c = sym (in_one_product c.args.rate c.args.speed c.requires)
