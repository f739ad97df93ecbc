-- The length so far and that of the carriers still to see make up the whole's.
use borrow.Author.Rules.{rules}
use mathlib.Core.Path.{◌≡◌, refl, ap, ◌∙◌}
use Prim.Native.Nat.{◌≤◌}
use native.Mathlib.Omega.{arith}
use lib.ListN.{length, length-append}
use Rattle.text.proofs.Laws.{length_line}
use Rattle.lane.specs.declared.Carrier.{Carrier}
use Rattle.lane.specs.declared.layout.Figures.{Figures}
use Rattle.lane.specs.Layout.{tables_in, records_in, state_with}
use Rattle.lane.specs.Calls.{none}
use Rattle.lane.specs.Listing.{carrier_text, lane_text}
use Rattle.lane.proofs.calls.Texts.{digits_64, carriers_past, length_next}
use Rattle.lane.proofs.listing.text_length.Goals.{After-figures_of-f}
use Rattle.lane.proofs.listing.text_length.Goals as goal

-- the count that the code reads is the state's
few : (c : After-figures_of-f) → c.figures_of-f.result.count ≤ 64
few c = rw c.figures_of-f.ensures.value c.requires

pub overflow_add-n : goal.overflow_add-n
overflow_add-n c = omega (arith, digits_64 c.figures_of-f.result.count (search rules))

pub loop-i-init : goal.loop-i-init
loop-i-init c = (omega (arith, digits_64 c.figures_of-f.result.count (search rules)), refl)

pub loop-i-preserved : goal.loop-i-preserved
loop-i-preserved c =
    let count : c.figures_of-f.result.count ≤ 64 = few (goal.at.loop-i-preserved c).After-figures_of-f in
    let next = length_next none (records_in c.args.l.now) c.loop-i.i c.figures_of-f.result.count (omega arith) (omega (arith, c.figures_of-f.ensures.l_len)) in
    let here = ap (λ (x : Carrier). length (carrier_text x)) c.carrier_at.ensures in
    (omega (arith, c.carrier_length-n.ensures), omega (arith, c.carrier_length-n.ensures))

pub returns : goal.returns
unfolding lane_text
returns c =
    let f = c.figures_of-f.result in
    let count : f.count ≤ 64 = few (goal.at.returns c).After-figures_of-f in
    let records = records_in c.args.l.now in
    let tables = tables_in c.args.l.now in
    let past = ap length (carriers_past records c.loop-i.i f.count (omega arith)) in
    let whole : c.loop-i.n ≡ length (lane_text (state_with f tables records)) = rw (length-append, length_line) (omega arith) in
    (whole ∙ ap (λ (x : Figures). length (lane_text (state_with x tables records))) c.figures_of-f.ensures.value, omega arith)
