-- Document 01, "Units", and document 02, T-01: what a lane holds.
use Rattle.std.specs.Prelude.{ℕ, Bool, List}
use Rattle.lane.specs.declared.Carrier.{Carrier}
use Rattle.lane.specs.declared.Road.{Road}
use Rattle.lane.specs.Surface.{Tables}

-- surface, end and limit are the road's; the carriers stand front to back
pub record State : Type 0 where
  pub started : Bool
  pub road : Road
  pub tables : Tables
  pub cycle : ℕ
  pub count : ℕ
  pub carriers : List Carrier
