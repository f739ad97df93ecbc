-- At rates of at least 1 where the two rest decides, once the positions do not. The one ahead rests past its position, and so past its length.
use mathlib.Core.Path.{◌≡◌, refl, sym, ap, ◌∙◌}
use mathlib.Core.Bool.{◌&&◌}
use Prim.Native.Nat.{ℕ, ◌+◌, ◌≤◌}
use native.Mathlib.Omega.{arith}
use borrow.Author.Tests.{lt-ltb, le-ltb}
use lib.Dec.{ltb}
use Rattle.headway.proofs.Laws.{safe_by_rests, rest_moved}
use Rattle.headway.specs.Totals.{rest_of}
use Rattle.lane.specs.Safety.{leader, reach_to, safe_with}
use Rattle.lane.proofs.lists.Tests.{less_ltb}
use Rattle.lane.proofs.rules.safe_at.Goals.{After-rest, Start}
use Rattle.lane.proofs.rules.safe_at.Goals as goal

-- the rule, by the follower's rest as it is handed in
by_rests : (s : Start) → let a = s.args in
    safe_with a.row (leader a.ahead) a.c
    ≡ ltb (reach_to a.ahead a.c) a.ahead.position && ltb (a.stop + a.ahead.length) (rest_of a.row.hardest a.ahead.position a.ahead.speed)
unfolding safe_with
by_rests s =
    let a = s.args in
    rw (s.requires.bound.1, ← rest_moved _ a.c.position a.ahead.length a.c.speed s.requires.bound.0.0)
    (safe_by_rests _ _ _ _ _ _ s.requires.bound.0.0 s.requires.bound.0.1)

pub returns-then-narrow-reach_to : goal.returns-then-narrow-reach_to
returns-then-narrow-reach_to c =
    sym (by_rests (goal.at.returns-then-narrow-reach_to c).Start ∙ rw (le-ltb (reach_to c.args.ahead c.args.c) c.args.ahead.position (omega (arith, c.reach_to.ensures, c.narrow.ensures))) refl)

-- past the first test the one ahead rests past its own length
past_length : (c : After-rest) → c.args.ahead.length ≤ c.rest.result
past_length c =
    let a = c.args in
    let rests : c.rest.result ≡ rest_of a.row.hardest 0 a.ahead.speed + a.ahead.position =
    c.rest.ensures ∙ ap (λ (p : ℕ). rest_of a.row.hardest p a.ahead.speed) (from_none a.ahead.position) ∙ rest_moved a.row.hardest 0 a.ahead.position a.ahead.speed c.requires.bound.0.1 in
    omega (arith, rests, c.reach_to.ensures, c.narrow.ensures)
  where
    from_none : (n : ℕ) → n ≡ 0 + n
    from_none n = omega arith

pub overflow_sub-result : goal.overflow_sub-result
overflow_sub-result c = omega (arith, past_length (goal.at.overflow_sub-result c).After-rest)

pub returns : goal.returns
returns c =
    let a = c.args in
    less_ltb a.stop c.rest.result a.ahead.length (past_length (goal.at.returns c).After-rest)
    ∙ sym (by_rests (goal.at.returns c).Start ∙ rw (lt-ltb (reach_to a.ahead a.c) a.ahead.position (omega (arith, c.reach_to.ensures, c.narrow.ensures)), c.rest.ensures) refl)
