-- `lane::listing::longer_than` meets its contract: a buffer of the longest text holds every text of a lane that breaks no rule.
use mathlib.Core.Path.{sym, ap}
use native.Mathlib.Omega.{arith}
use borrow.Author.Tests.{le-ltb}
use lib.Dec.{ltb}
use lib.ListN.{length}
use Rattle.lane.specs.Layout.{state_of}
use Rattle.lane.specs.Listing.{lane_text}
use Rattle.lane.proofs.checks.Soundness.{sound}
use Rattle.lane.proofs.calls.Texts.{text_most}
use Rattle.lane.proofs.listing.longer_than.Goals as goal

pub returns-then-size-ge-LONGEST_TEXT : goal.returns-then-size-ge-LONGEST_TEXT
returns-then-size-ge-LONGEST_TEXT c =
    let lane = c.args.l.now in
    sym (le-ltb c.args.size (length (lane_text (state_of lane))) (omega (arith, text_most lane c.requires, c.if-size-ge-LONGEST_TEXT.true)))

pub text_length-requires : goal.text_length-requires
text_length-requires c = (sound _ c.requires).count

pub returns : goal.returns
returns c = ap (ltb c.args.size) c.text_length.ensures.0
