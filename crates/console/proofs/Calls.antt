-- A step is a call of the lane, or none: so the steps of a text, among other calls too, are a part of the lane's history.
use mathlib.Core.Path.{◌≡◌, refl, subst}
use mathlib.Core.Bool.{Bool, true, false, cond, ◌||◌}
use mathlib.Core.List.{List, [], ◌∷◌, ◌++◌}
use Prim.Native.Nat.{ℕ, zero, suc, ◌-◌, ◌≤◌, ◌<◌}
use native.Mathlib.Omega.{arith}
use borrow.Author.Tests.{lt-ltb}
use lib.Dec.{eqb, leb}
use lib.ListN.{length, drop, replicate, length-append, length-replicate}
use Rattle.std.specs.Prelude.{Option, Some, None}
use Rattle.text.specs.Ascii.{ascii}
use Rattle.text.specs.Fields.{line_length, line_value, field_in, is_number, value_in}
use Rattle.wish.specs.declared.Wish.{Wish}
use Rattle.wish.specs.declared.Wish.TheVariants.{Hold}
use Rattle.lane.specs.Limits.{most_carriers}
use Rattle.lane.specs.Layout.{Words, state_of}
use Rattle.lane.specs.Call.{Call, Answer, meaning, call_answer}
use Rattle.history.specs.Claims.{kind_of}
use Rattle.history.specs.History.{Event, Wished, Chain, chain_next}
use Rattle.console.specs.declared.Stepped.{Stepped}
use Rattle.console.specs.Limits.{answer_space}
use Rattle.console.specs.Blocks as Blocks
use Rattle.console.specs.Blocks.{Kind, Start, Enter, Leave, Cycle, Show, Surface, Parsed, parsed, malformed, past, after_line, field, is_wish, wish_of, want_in, want, wants, sixty_four, start_lines, enter_lines, leave_lines, surface_lines, cycle_lines, show_call, lines_of, block_in}
use Rattle.console.specs.Output.{keeps_lane}
use Rattle.console.specs.Program.{halted, without_room, ran, step_of, step_into, StepGives}
use Rattle.console.specs.History.{block_at, block_run, events_of}

-- ---- a cycle block has as many wishes as it counts

data WishedIn : Parsed → Type 0 where
  wished : {x : Call} {used : ℕ} → Wished (kind_of x) → WishedIn (parsed x used)
  no_block : WishedIn malformed

past_wished : (k : ℕ) {p : Parsed} → WishedIn p → WishedIn (past k p)
past_wished k (wished w) = wished w
past_wished k no_block = no_block

-- what a line comes before
line_wished : (t : List ℕ) (next : List ℕ → Parsed) → ((u : List ℕ) → WishedIn (next u)) → WishedIn (after_line t next)
unfolding after_line
line_wished t next w = past_wished (suc (line_length t)) (w (drop (suc (line_length t)) t))

if_wished : (b : Bool) {p : Parsed} → WishedIn p → WishedIn (cond b p malformed)
if_wished true w = w
if_wished false w = no_block

field_wished : (key : List ℕ) (most : ℕ) (t : List ℕ) (next : ℕ → List ℕ → Parsed) → ((n : ℕ) (u : List ℕ) → WishedIn (next n u))
    → WishedIn (field key most t next)
unfolding field
field_wished key most t next w = if_wished (is_number (field_in key most t)) (line_wished t (next (value_in (field_in key most t))) (w (value_in (field_in key most t))))

wants_wished : (n : ℕ) (t : List ℕ) (next : List Wish → List ℕ → Parsed) → ((ws : List Wish) (u : List ℕ) → WishedIn (next ws u))
    → WishedIn (wants n t next)
unfolding wants want
wants_wished zero t next w = w [] t
wants_wished (suc n) t next w =
    if_wished (is_wish (want_in t))
    (line_wished t _ λ u. wants_wished n u (λ ws. next (wish_of (want_in t) ∷ ws)) λ ws. w (wish_of (want_in t) ∷ ws))

sixty_four_is : (ws : List Wish) → 64 ≤ length (sixty_four ws)
unfolding sixty_four
sixty_four_is ws =
    omega (arith, length-append ws (replicate (most_carriers - length ws) Hold), length-replicate (most_carriers - length ws) Hold)

lines_wished : (k : Option Kind) (t : List ℕ) → WishedIn (lines_of k t)
unfolding start_lines enter_lines leave_lines surface_lines cycle_lines show_call
lines_wished (Some Start) t =
    field_wished _ _ t _ λ surface t. field_wished _ _ t _ λ end t. field_wished _ _ t _ λ limit t. field_wished _ _ t _ λ first t. wished tt
lines_wished (Some Enter) t =
    field_wished _ _ t _ λ car t. field_wished _ _ t _ λ at t. field_wished _ _ t _ λ speed t. field_wished _ _ t _ λ length t.
    field_wished _ _ t _ λ brake t. wished tt
lines_wished (Some Leave) t = field_wished _ _ t _ λ car t. wished tt
lines_wished (Some Cycle) t = field_wished _ _ t _ λ cars t. wants_wished cars t _ λ ws t. wished λ h. omega (arith, sixty_four_is ws)
lines_wished (Some Show) t = wished tt
lines_wished (Some Surface) t = field_wished _ _ t _ λ surface t. wished tt
lines_wished None t = no_block

block_wished : (t : List ℕ) → WishedIn (block_in t)
unfolding block_in
block_wished t = line_wished t _ (lines_wished (Blocks.kind_of (line_value (ascii "call=") t)))

-- ---- the step

-- a refused call leaves the very lane
keeps_refused : (x : Call) (a : Answer) → 0 < a.number → keeps_lane x a ≡ true
keeps_refused x a h = rw (lt-ltb 0 a.number h) (either (meaning x).reads)
  where
    either : (t : Bool) → t || true ≡ true
    either true = refl
    either false = refl

-- a step before a list of calls: the call of its block comes first, where it runs one; else it leaves the very lane
pub step_chain : (before after last : Words) (t : List ℕ) (es : List Event) {at : ℕ} {buffer left : List ℕ} {r : Stepped}
    → StepGives before (step_into buffer (state_of before) t) at buffer r after left → Chain after es last
    → Chain before (events_of (block_run buffer t) before after ++ es) last
unfolding step_into step_of block_run block_at
step_chain before after last t es {at} {buffer} {left} {r} g c = by_way (leb answer_space (length buffer)) (eqb (length t) 0) (block_wished t) g
  where
    by_way : (long ended : Bool) {p : Parsed} → WishedIn p
        → StepGives before (cond long (cond ended (halted (state_of before)) (ran (state_of before) p)) (without_room (state_of before))) at buffer r after left
        → Chain before (events_of (cond long (cond ended malformed p) malformed) before after ++ es) last
    by_way false ended w g = subst (λ (k : Words). Chain k es last) (g.kept refl) c
    by_way true true w g = subst (λ (k : Words). Chain k es last) (g.kept refl) c
    by_way true false (wished {x = x} w) g =
        chain_next (record { answer = refl; state = g.state; refused = λ h. g.kept (keeps_refused x (call_answer x (state_of before)) h) }) w c
    by_way true false no_block g = subst (λ (k : Words). Chain k es last) (g.kept refl) c
