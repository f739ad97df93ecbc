-- The carriers still to see, put after those seen, give the whole text.
use mathlib.Core.Path.{◌≡◌, ap}
use mathlib.Core.List.{List}
use Prim.Native.Nat.{◌+◌, ◌≤◌}
use native.Mathlib.Omega.{arith}
use lib.ListN.{length}
use Rattle.text.specs.Lines.{line}
use Rattle.text.specs.Numbers.{decimal}
use Rattle.text.proofs.Laws.{Put, putting_next}
use Rattle.lane.specs.declared.Carrier.{Carrier}
use Rattle.lane.specs.declared.layout.Figures.{Figures}
use Rattle.lane.specs.Surface.{Tables}
use Rattle.lane.specs.Layout.{tables_in, records_in, state_with, state_of}
use Rattle.lane.specs.Calls.{none}
use Rattle.lane.specs.Listing.{cars_key, lane_text}
use Rattle.lane.proofs.calls.Texts.{carriers_next, length_next, writing_start, writing_end}
use Rattle.lane.proofs.listing.put_text.Goals.{After-put_decimal_line-place}
use Rattle.lane.proofs.listing.put_text.Goals as goal

-- what is known once the first line is put
module _ (c : After-put_decimal_line-place) where
  abbrev f : Figures
  f = c.figures_of-f.result

  abbrev tables : Tables
  tables = tables_in c.args.l.now

  abbrev records : List Carrier
  records = records_in c.args.l.now

  few : f.count ≤ 64
  few = rw c.figures_of-f.ensures.value c.requires.0

  -- the figures that the code reads are the state's
  shows : lane_text (state_with f tables records) ≡ lane_text (state_of c.args.l.now)
  shows = ap (λ (x : Figures). lane_text (state_with x tables records)) c.figures_of-f.ensures.value

  room : c.args.at + length (lane_text (state_with f tables records)) ≤ length c.args.out.now
  room = omega (arith, ap length shows, c.requires.1)

  put : Put c.args.at (line cars_key.name (decimal f.count)) c.args.out.now c.put_decimal_line-place.new.out c.put_decimal_line-place.result
  put = (c.put_decimal_line-place.ensures.out_after, c.put_decimal_line-place.ensures.value)

pub loop-i-init : goal.loop-i-init
loop-i-init c =
    let k = (goal.at.loop-i-init c).After-put_decimal_line-place in
    writing_start (f k) (tables k) (records k) c.args.out.now c.args.at (room k) (put k)

pub put_carrier-place-requires : goal.put_carrier-place-requires
put_carrier-place-requires c =
    let k = (goal.at.put_carrier-place-requires c).After-put_decimal_line-place in
    let next = length_next none (records k) c.loop-i.i (f k).count (omega arith) (omega (arith, few k, c.figures_of-f.ensures.l_len)) in
    rw c.carrier_at.ensures (omega (arith, c.loop-i.invariant.room))

pub loop-i-preserved : goal.loop-i-preserved
loop-i-preserved c =
    let k = (goal.at.loop-i-preserved c).After-put_decimal_line-place in
    let here = c.carrier_at.ensures in
    let next = carriers_next none (records k) c.loop-i.i (f k).count (omega arith) (omega (arith, few k, c.figures_of-f.ensures.l_len)) in
    putting_next c.loop-i.invariant _ _ next (rw here at c.put_carrier-place.ensures.out_after) (rw here at c.put_carrier-place.ensures.value)

pub returns : goal.returns
returns c =
    let k = (goal.at.returns c).After-put_decimal_line-place in
    let end = rw (shows k) at (writing_end (f k) (tables k) (records k) c.args.out.now c.args.at (room k) (put k) c.loop-i.invariant c.loop-i-test.false) in
    record { out_after = end.0; value = end.1 }
