-- The road and its surface rows along a history, in plain words: what a load brings serves from the next start on, and a change of surface from itself
-- on.
use mathlib.Core.Path.{◌≡◌, refl, sym, ap, ap₂, ◌∙◌, subst}
use mathlib.Core.Bool.{Bool, true, false, ◌&&◌, ◌||◌, true≢false}
use mathlib.Core.List.{List, [], ◌∷◌, ◌++◌}
use Prim.Native.Nat.{ℕ}
use borrow.Author.Tests.{eqb-true, eqb-false}
use lib.Dec.{eqb}
use Rattle.lane.specs.declared.Road.{Road}
use Rattle.lane.specs.declared.Row.{Row}
use Rattle.lane.specs.Surface.{house_rows, row_of, Tables}
use Rattle.lane.specs.State.{State}
use Rattle.lane.specs.Layout.{Words, state_of, empty_words}
use Rattle.lane.specs.Table.{table_in, rows_loaded}
use Rattle.lane.specs.Call.{Call, start_call, load_call, enter_call, leave_call, surface_call, cycle_call, read_call, opening_call, text_call, handover_call, Answer, call_no, call_state, Gives}
use Rattle.lane.proofs.CallLaws.{refused_changes_nothing, answer_number, empty_state, start_accepted, load_accepted, enter_accepted, leave_accepted, surface_accepted, read_accepted, opening_accepted, text_accepted, handover_accepted}
use Rattle.lane.proofs.CycleLaws.{cycle_accepted}
use Rattle.history.specs.Claims.{Kind, begins, loads, surfaces, runs, other, kind_of}
use Rattle.history.specs.History.{Event, lane_after, Ran, Chain, chain_end, chain_next, is_start, is_load, is_surface, starts_lane, loads_rows, NoneOf, LoadedRowsServe, SurfaceServes}
use Rattle.history.proofs.History.{ran_gives}

-- ---- one call

-- what the calls leave of the carriers' ground: the road and the tables
pub record Ground : Type 0 where
  pub road : Road
  pub tables : Tables

abbrev pub ground_of : State → Ground
ground_of s = record { road = s.road; tables = s.tables }

-- after an accepted call of a kind
abbrev pub ground_after : {x : Call} → Kind x → Ground → Ground
ground_after (begins road first) g = record { road = road; tables = record { in_force = g.tables.next; next = g.tables.next } }
ground_after (loads text) g = record { road = g.road; tables = record { in_force = g.tables.in_force; next = rows_loaded (table_in text) } }
ground_after (surfaces code) g = record { road = record { surface = code; end = g.road.end; limit = g.road.limit }; tables = g.tables }
ground_after (runs count wishes) g = g
ground_after (other x) g = g

pub accepted_ground : (x : Call) (s : State) → call_no x s ≡ 0 → ground_of (call_state x s) ≡ ground_after (kind_of x) (ground_of s)
accepted_ground (start_call road first) s z = ap ground_of (start_accepted s road first z)
accepted_ground (load_call text) s z = ap ground_of (load_accepted s text z)
accepted_ground (enter_call c) s z = ap ground_of (enter_accepted s c z)
accepted_ground (leave_call number) s z = ap ground_of (leave_accepted s number z)
accepted_ground (surface_call code) s z = ap ground_of (surface_accepted s code z)
accepted_ground (cycle_call count wishes) s z = ap ground_of (cycle_accepted s count wishes z)
accepted_ground (read_call number) s z = ap ground_of (read_accepted s number)
accepted_ground (opening_call g n) s z = ap ground_of (opening_accepted s g n)
accepted_ground (text_call buffer) s z = ap ground_of (text_accepted s buffer)
accepted_ground (handover_call buffer) s z = ap ground_of (handover_accepted s buffer)

-- what holds of the ground and is kept by every kind of call but some holds after a list with no accepted call of those
module _ (P : Ground → Type 0) (touches : (x : Call) → Kind x → Bool)
    (keeps : (x : Call) (k : Kind x) (g : Ground) → touches x k ≡ false → P g → P (ground_after k g)) where
  event_keeps : (e : Event) (l : Words) → Gives e.call l e.answer e.left → touches e.call (kind_of e.call) && eqb e.answer.number 0 ≡ false
      → P (ground_of (state_of l)) → P (ground_of (state_of e.left))
  event_keeps e l g h p = by_test (eqb (call_no x s) 0) refl
    where
      x : Call
      x = e.call

      s : State
      s = state_of l

      number : e.answer.number ≡ call_no x s
      number = ap (λ (a : Answer). a.number) g.answer ∙ answer_number x s

      untouched : (t u : Bool) → u ≡ true → t && u ≡ false → t ≡ false
      untouched true u p q = absurd (true≢false (sym p ∙ q))
      untouched false u p q = refl

      by_test : (t : Bool) → eqb (call_no x s) 0 ≡ t → P (ground_of (state_of e.left))
      by_test true f =
          subst P (sym (ap ground_of g.state ∙ accepted_ground x s (eqb-true (call_no x s) 0 f)))
          (keeps x (kind_of x) (ground_of s) (untouched (touches x (kind_of x)) (eqb e.answer.number 0) (ap (λ (n : ℕ). eqb n 0) number ∙ f) h) p)
      by_test false f = subst (λ (t : State). P (ground_of t)) (sym (g.state ∙ refused_changes_nothing x s (eqb-false (call_no x s) 0 f))) p

  along : {l d : Words} {es : List Event} → Chain l es d → NoneOf (λ e. touches e.call (kind_of e.call) && eqb e.answer.number 0) es
      → P (ground_of (state_of l)) → P (ground_of (state_of d))
  along chain_end n p = p
  along {l} (chain_next {e = e} g w r) n p = along r n.1 (event_keeps e l g n.0 p)

-- ---- lists

-- without a load the rows for the next start stay
chain_next_rows : {l d : Words} {es : List Event} → Chain l es d → NoneOf loads_rows es → (state_of d).tables.next ≡ (state_of l).tables.next
chain_next_rows {l} c n = along (λ g. g.tables.next ≡ (state_of l).tables.next) (λ x k. is_load k) kept c n refl
  where
    kept : (x : Call) (k : Kind x) (g : Ground) → is_load k ≡ false → g.tables.next ≡ (state_of l).tables.next → (ground_after k g).tables.next ≡ (state_of l).tables.next
    kept x (begins road first) g e p = p
    kept x (loads text) g e p = absurd (true≢false e)
    kept x (surfaces code) g e p = p
    kept x (runs count wishes) g e p = p
    kept x (other y) g e p = p

pub next_rows_stay : (l : Words) (es : List Event) (d : Words) → Ran l es d → NoneOf loads_rows es → (state_of d).tables.next ≡ (state_of l).tables.next
next_rows_stay l es d r n = chain_next_rows (ran_gives r) n

-- without a start those in force
chain_rows_in_force : {l d : Words} {es : List Event} → Chain l es d → NoneOf starts_lane es → (state_of d).tables.in_force ≡ (state_of l).tables.in_force
chain_rows_in_force {l} c n = along (λ g. g.tables.in_force ≡ (state_of l).tables.in_force) (λ x k. is_start k) kept c n refl
  where
    kept : (x : Call) (k : Kind x) (g : Ground) → is_start k ≡ false → g.tables.in_force ≡ (state_of l).tables.in_force → (ground_after k g).tables.in_force ≡ (state_of l).tables.in_force
    kept x (begins road first) g e p = absurd (true≢false e)
    kept x (loads text) g e p = p
    kept x (surfaces code) g e p = p
    kept x (runs count wishes) g e p = p
    kept x (other y) g e p = p

pub rows_in_force_stay : (l : Words) (es : List Event) (d : Words) → Ran l es d → NoneOf starts_lane es → (state_of d).tables.in_force ≡ (state_of l).tables.in_force
rows_in_force_stay l es d r n = chain_rows_in_force (ran_gives r) n

-- T-01: "the house rows serve until a table is loaded"
pub house_rows_serve : (es : List Event) (d : Words) → Ran empty_words es d → NoneOf loads_rows es
    → (state_of d).tables ≡ record { in_force = house_rows; next = house_rows }
house_rows_serve es d r n =
    along (λ g. g.tables ≡ record { in_force = house_rows; next = house_rows }) (λ x k. is_load k) kept (ran_gives r) n (ap (λ (s : State). s.tables) empty_state)
  where
    kept : (x : Call) (k : Kind x) (g : Ground) → is_load k ≡ false → g.tables ≡ record { in_force = house_rows; next = house_rows }
        → (ground_after k g).tables ≡ record { in_force = house_rows; next = house_rows }
    kept x (begins road first) g e p = ap (λ (u : Tables). record { in_force = u.next; next = u.next }) p
    kept x (loads text) g e p = absurd (true≢false e)
    kept x (surfaces code) g e p = p
    kept x (runs count wishes) g e p = p
    kept x (other y) g e p = p

-- a list in two parts
pub parts : (es : List Event) {rest : List Event} {l d : Words} → Chain l (es ++ rest) d → Chain l es (lane_after l es) × Chain (lane_after l es) rest d
parts [] c = (chain_end, c)
parts (e ∷ es) (chain_next g w r) = let p = parts es r in (chain_next g w p.0, p.1)

-- an accepted call at the head of a list, by what it leaves
accepted_first : {e : Event} {rest : List Event} {l d : Words} → Chain l (e ∷ rest) d → (x : Call) → e.call ≡ x → e.answer.number ≡ 0
    → (ground_of (state_of e.left) ≡ ground_after (kind_of x) (ground_of (state_of l))) × Chain e.left rest d
accepted_first {e} {l = l} (chain_next g w r) x is accepted =
    let number : call_no x (state_of l) ≡ 0 =
    ap (λ (y : Call). call_no y (state_of l)) (sym is) ∙ sym (ap (λ (a : Answer). a.number) g.answer ∙ answer_number e.call (state_of l)) ∙ accepted
    in
    (ap ground_of (g.state ∙ ap (λ (y : Call). call_state y (state_of l)) is) ∙ accepted_ground x (state_of l) number, r)

-- what a load brings serves from the next start on
pub chain_loaded_rows_serve : {l d : Words} {es : List Event} → Chain l es d → LoadedRowsServe es
chain_loaded_rows_serve {l} {d} c before load between start serving later text road first is is-load loaded no-load is-start started no_start =
    let loads-first = accepted_first (parts before (subst (λ (es : List Event). Chain l es d) is c)).1 (load_call text) is-load loaded in
    let to_start = parts between loads-first.1 in
    let starts_first = accepted_first to_start.1 (start_call road first) is-start started in
    chain_rows_in_force (parts serving starts_first.1).0 no_start
    ∙ ap (λ (g : Ground). g.tables.in_force) starts_first.0
    ∙ chain_next_rows to_start.0 no-load
    ∙ ap (λ (g : Ground). g.tables.next) loads-first.0

pub loaded_rows_serve : (l : Words) (es : List Event) (d : Words) → Ran l es d → LoadedRowsServe es
loaded_rows_serve l es d r = chain_loaded_rows_serve (ran_gives r)

-- what a change of surface puts serves until another one or a start
pub chain_surface_serves : {l d : Words} {es : List Event} → Chain l es d → SurfaceServes l es
chain_surface_serves {l} {d} c before change serving later code is is-change accepted none =
    let changed = accepted_first (parts before (subst (λ (es : List Event). Chain l es d) is c)).1 (surface_call code) is-change accepted in
    let rows = (state_of (lane_after l before)).tables.in_force in
    let now = along (λ g. (g.road.surface ≡ code) × (g.tables.in_force ≡ rows)) (λ x k. is_start k || is_surface k) (kept code rows) (parts serving changed.1).0 none
    (ap (λ (g : Ground). g.road.surface) changed.0, ap (λ (g : Ground). g.tables.in_force) changed.0) in
    (now.0, ap₂ row_of now.1 now.0)
  where
    kept : (code : ℕ) (rows : List Row) (x : Call) (k : Kind x) (g : Ground) → is_start k || is_surface k ≡ false → (g.road.surface ≡ code) × (g.tables.in_force ≡ rows)
        → ((ground_after k g).road.surface ≡ code) × ((ground_after k g).tables.in_force ≡ rows)
    kept code rows x (begins road first) g e p = absurd (true≢false e)
    kept code rows x (loads text) g e p = p
    kept code rows x (surfaces next) g e p = absurd (true≢false e)
    kept code rows x (runs count wishes) g e p = p
    kept code rows x (other y) g e p = p
