-- Demand 3, whole: `history`, one theorem over every list of calls. Its words are those of `specs`; a call's answer is what the called
-- function's own contract says of it.
use Prim.Native.Nat.{ℕ}
use native.Mathlib.Omega.{arith}
use mathlib.Core.Path.{◌≡◌, sym, ap, subst}
use mathlib.Core.List.{List}
use Rattle.lane.specs.Layout.{Words, state_of}
use Rattle.lane.specs.Call.{Call, start_call, load_call, enter_call, leave_call, surface_call, cycle_call, read_call, opening_call, text_call, handover_call, Answer, Gives}
use Rattle.history.specs.Book.{Book, booked}
use Rattle.history.specs.Begins.{Begins}
use Rattle.history.specs.Claims.{kind_of, Claims}
use Rattle.history.specs.History.{Event, seen, book_on, Did, Ran, none_yet, then, Wished, Chain, chain_end, chain_next, Throughout}
use Rattle.history.proofs.Agreement.{Agree, in_order, begins_agree, step}

-- ---- a contract says what the call gives

module _ {x : Call} where
  pub given_of : {k l m : Words} {a b : Answer} → k ≡ l → a ≡ b → Gives x k b m → Gives x l a m
  given_of {k} {m = m} {a} e f g = subst (λ (l : Words). Gives x l a m) e (subst (λ (c : Answer). Gives x k c m) (sym f) g)

  -- of a call that only reads
  pub read_of : {k l m : Words} {a b : Answer} → m ≡ l → k ≡ l → a ≡ b → Gives x k b k → Gives x l a m
  read_of {k} {l} {a = a} same e f g =
      subst (λ (m : Words). Gives x l a m) (sym same) (subst (λ (l : Words). Gives x l a l) e (subst (λ (c : Answer). Gives x k c k) (sym f) g))

gives : (x : Call) (l : Words) (a : Answer) (m : Words) → Did x l a m → Gives x l a m × Wished (kind_of x)
gives (start_call road first) l a m d = (given_of d.before d.says.1 d.says.2, tt)
gives (load_call text) l a m d =
    (subst (λ (t : List ℕ). Gives (load_call t) l a m) d.lent (given_of d.before d.says.1 d.says.2), tt)
gives (enter_call c) l a m d = (given_of d.before d.says.1 d.says.2, tt)
gives (leave_call number) l a m d = (given_of d.before d.says.1 d.says.2, tt)
gives (surface_call code) l a m d = (given_of d.before d.says.1 d.says.2.0, tt)
gives (cycle_call count wishes) l a m d = (given_of d.1.before d.1.says.1 d.1.says.2, λ h. omega (arith, d.0))
gives (read_call number) l a m d = (read_of d.0 d.1.before d.1.says.1 d.1.says.2.0, tt)
gives (opening_call g n) l a m d = (read_of d.0 d.1.before d.1.says.1 d.1.says.2, tt)
gives (text_call buffer) l a m d =
    let g = d.1.says.2 in
    (subst (λ (b : List ℕ). Gives (text_call b) l a m) d.1.lent (read_of d.0 d.1.before d.1.says.1 g), tt)
gives (handover_call buffer) l a m d =
    let g = d.1.says.2 in
    (subst (λ (b : List ℕ). Gives (handover_call b) l a m) d.1.lent (read_of d.0 d.1.before d.1.says.1 g), tt)

pub ran_gives : {l d : Words} {es : List Event} → Ran l es d → Chain l es d
ran_gives none_yet = chain_end
ran_gives {l} (then {e = e} h r) = let g = gives e.call l e.answer e.left h in chain_next g.0 g.1 (ran_gives r)

-- ---- and so what is claimed of it

one_call : (e : Event) (l : Words) (b : Book) → Gives e.call l e.answer e.left → Wished (kind_of e.call) → Agree (state_of l) b
    → Agree (state_of e.left) (booked (seen e) b) × Claims e.left (seen e) b
one_call e l b g w h =
    let s = step e.call (state_of l) b w h in
    let agree : Agree (state_of e.left) (booked (seen e) b) = rw (g.state, g.answer) s.agree in (
      agree,
      record {
        carriers = ap (λ (c : Book). c.carriers) agree.same;
        road = ap (λ (c : Book). c.road) agree.same;
        tables = ap (λ (c : Book). c.tables) agree.same;
        order = in_order _ _ agree;
        cycle_run = rw g.answer s.claims;
      },
    )

-- the lane and the book after a list
pub agrees_after : {l d : Words} {es : List Event} (b : Book) → Agree (state_of l) b → Chain l es d → Agree (state_of d) (book_on b es)
agrees_after b h chain_end = h
agrees_after {l} b h (chain_next {e = e} g w r) = agrees_after (booked (seen e) b) (one_call e l b g w h).0 r

pub throughout : {l d : Words} {es : List Event} (b : Book) → Agree (state_of l) b → Chain l es d → Throughout b es
throughout b h chain_end = tt
throughout {l} b h (chain_next {e = e} g w r) =
    let c = one_call e l b g w h in
    (c.1, throughout (booked (seen e) b) c.0 r)

-- the theorem, of calls that give what the lane's do
pub chain_history : (l : Words) (b : Book) → Begins l b → (es : List Event) (d : Words) → Chain l es d → Throughout b es
chain_history l b how es d r = throughout b (begins_agree how) r

-- THE THEOREM: "For every list of calls from an empty lane, started or not, refused calls included, each working on the lane that the
-- last one left", whatever the empty lane's other words are; document 02, T-08: or from what a reading gave. How a list begins is `Begins`.
pub history : (l : Words) (b : Book) → Begins l b → (es : List Event) (d : Words) → Ran l es d → Throughout b es
history l b how es d r = chain_history l b how es d (ran_gives r)
