-- `text::lines::put_bytes` meets its contract: the bytes that are left, written into the buffer as it is, give what all of them give at first.
use mathlib.Core.Path.{◌≡◌, refl, sym, ◌∙◌}
use mathlib.Core.List.{List, [], ◌∷◌}
use Prim.Native.Nat.{ℕ, suc, ◌+◌, ◌≤◌, ◌<◌}
use native.Mathlib.Nat.{add-zero, add_assoc}
use native.Mathlib.Numerals.{add-one}
use native.Mathlib.Omega.{arith}
use lib.ListN.{length, get_or, set, drop, length-set, length-drop}
use lib.Seq.{drop-cons, drop-length}
use Rattle.text.specs.Lines.{written}
use Rattle.text.proofs.Laws.{place_fits, nothing_put, written_nothing, written_then, written_one}
use Rattle.text.proofs.lines.put_bytes.Goals as goal

-- the next byte stored, and then those after it
next_first : (at : ℕ) (bytes buffer : List ℕ) (i : ℕ) → i < length bytes → at + length bytes ≤ length buffer
    → written (at + (i + 1)) (drop (i + 1) bytes) (set buffer (at + i) (get_or bytes i 0)) ≡ written (at + i) (drop i bytes) buffer
next_first at bytes buffer i h room =
    let b : ℕ = get_or bytes i 0 in
    rw (← written_one (at + i) b buffer (omega arith), drop-cons bytes i 0 h, ← add_assoc at i 1, add-one i)
    (written_then (at + i) (b ∷ []) (drop (suc i) bytes) buffer (omega (arith, length-drop (suc i) bytes)))

pub returns-then-out-at : goal.returns-then-out-at
returns-then-out-at c =
    let none = nothing_put _ _ _ (omega arith) in
    record { out_after = none.0; value = none.1 }

pub overflow_sub-out : goal.overflow_sub-out
overflow_sub-out c = omega arith

pub returns-then-out-at-2 : goal.returns-then-out-at-2
returns-then-out-at-2 c =
    let none = nothing_put _ _ _ (omega arith) in
    record { out_after = none.0; value = none.1 }

pub loop-i-init : goal.loop-i-init
loop-i-init c = (refl, rw add-zero refl)

pub bounds-bytes-i : goal.bounds-bytes-i
bounds-bytes-i c = omega arith

pub overflow_add-out : goal.overflow_add-out
overflow_add-out c = omega arith

pub bounds-out-at : goal.bounds-out-at
bounds-out-at c = omega arith

pub loop-i-preserved : goal.loop-i-preserved
loop-i-preserved c =
    let now = c.loop-i in
    let args = c.args in (
      length-set now.out (args.at + now.i) (get_or args.bytes.now now.i 0) ∙ now.invariant.0,
      next_first args.at args.bytes.now now.out now.i (omega arith) (omega arith) ∙ now.invariant.1,
    )

pub overflow_add-result : goal.overflow_add-result
overflow_add-result c = omega arith

pub returns : goal.returns
returns c =
    let now = c.loop-i in
    let args = c.args in
    let e : length args.bytes.now ≡ now.i = omega arith in
    let none : drop now.i args.bytes.now ≡ [] = rw e at (drop-length args.bytes.now) in
    record { out_after = sym (written_nothing (args.at + now.i) now.out) ∙ (rw none at now.invariant.1); value = sym (place_fits args.at args.bytes.now args.out.now (omega arith)) }
