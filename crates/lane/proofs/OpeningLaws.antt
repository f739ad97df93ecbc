-- Document 02, T-07, in numbers: which positions lie between the two that are answered, and that an entry there, and nowhere else in the gap, is let in.
use mathlib.Core.Path.{◌≡◌, refl, sym, ap, ◌∙◌}
use mathlib.Core.Bool.{Bool, true, false, ◌||◌, cond}
use mathlib.Core.List.{List, [], ◌∷◌}
use Prim.Native.Nat.{ℕ, zero, suc, ◌+◌, ◌-◌, ◌≤◌, ◌<◌, min}
use native.Mathlib.Omega.{arith}
use borrow.Author.Tests.{eq-eqb, ne_eqb, eqb-true, eqb-false}
use lib.Dec.{ltb}
use lib.ListN.{length, get_or}
use Rattle.headway.specs.Stopping.{stopping_distance}
use Rattle.lane.specs.declared.Carrier.{Carrier}
use Rattle.lane.specs.declared.Gap.{Gap}
use Rattle.lane.specs.declared.Gap.TheVariants.{Behind, AheadOfAll}
use Rattle.lane.specs.declared.Newcomer.{Newcomer}
use Rattle.lane.specs.declared.Row.{Row}
use Rattle.lane.specs.Surface.{row_in}
use Rattle.lane.specs.State.{State}
use Rattle.lane.specs.Safety.{Ahead, nobody, leader, safe_with, any_of, first_place, numbered, repeats}
use Rattle.lane.specs.Rules.{bad_number, broken}
use Rattle.lane.specs.Calls.{none, if_accepted, ahead_of, gap_no, named_no, place_of}
use Rattle.lane.specs.Opening.{newcomer_at, gap_place, opens, span_of, opening_in, gap_named_no, opening_no}
use Rattle.lane.specs.Call.{enter_call, opening_call, Answer, call_no, call_answer}
use Rattle.lane.proofs.Newcomers.{Newcomer as InRange, values_are}
use Rattle.lane.proofs.EntryLaws.{entry_by_gap}
use Rattle.lane.proofs.lists.Search.{place_passes}
use Rattle.lane.proofs.lists.Tests.{neither, none_at}
use Rattle.lane.proofs.checks.Spans.{between_passes, passes_between, span_ends}
use Rattle.lane.proofs.checks.Soundness.{sound_holds}
use Rattle.lane.proofs.calls.Answers.{Asks, refused_answers, accepted_answers, opening_tells, enter_tells}
use Rattle.lane.proofs.calls.Openings.{opens_at, opens_there, opens_formula, opens_where, opens_says}

-- a carrier's speed, length and own rate
abbrev values_of : Carrier → Newcomer
values_of c = record { speed = c.speed; length = c.length; rate = c.rate }

-- ---- the checks in order: "After 21 come 4 and 24 for a named carrier, then 6, 33 and 35"; who breaks several is told the first
pub opening_in_order : (s : State) (number : ℕ) (n : Newcomer) →
    let values : ℕ = cond (ltb s.road.limit n.speed) 6 (cond (ltb 65535 n.length) 33 (cond (ltb n.rate 1 || ltb 255 n.rate) 35 0)) in
    (call_no (opening_call (Behind number) n) s
    ≡ cond (broken s) 21 (cond (ltb number 1 || ltb 65535 number) 4 (cond (any_of (numbered number) s.carriers) values 24)))
    × (call_no (opening_call AheadOfAll n) s ≡ cond (broken s) 21 values)
unfolding opening_no gap_named_no named_no
opening_in_order s number n = (behind (broken s) (bad_number number) (any_of (numbered number) s.carriers) _, ahead (broken s) _)
  where
    behind : (b bad there : Bool) (values : ℕ)
        → if_accepted (cond b 21 (cond bad 4 (cond there 0 24))) values (cond b 21 (cond bad 4 (cond there 0 24))) ≡ cond b 21 (cond bad 4 (cond there values 24))
    behind true bad there values = refl
    behind false true there values = refl
    behind false false true values = refl
    behind false false false values = refl

    ahead : (b : Bool) (values : ℕ) → if_accepted (cond b 21 0) values (cond b 21 0) ≡ cond b 21 values
    ahead true values = refl
    ahead false values = refl

-- ---- the gap that is asked for

-- ahead of all is place 0
pub gap_ahead_of_all : (cs : List Carrier) → gap_place AheadOfAll cs ≡ 0
unfolding gap_place
gap_ahead_of_all cs = refl

-- behind a carrier is the place after its own, which no other carrier's number is
first_numbered : (cs : List Carrier) → repeats cs ≡ false → (i : ℕ) → i < length cs → first_place (numbered (get_or cs i none).number) cs ≡ i
unfolding repeats first_place
first_numbered [] e i h = absurd (omega arith)
first_numbered (c ∷ cs) e zero h = rw (eq-eqb c.number c.number refl) refl
first_numbered (c ∷ cs) e (suc i) h =
    let t = neither (any_of (numbered c.number) cs) (repeats cs) e in
    let d = get_or cs i none in
    let other = eqb-false d.number c.number (none_at (numbered c.number) cs i none t.0 (omega arith)) in
    rw (ne_eqb c.number d.number (λ q. other (sym q))) (ap suc (first_numbered cs t.1 i (omega arith)))

pub gap_behind : (s : State) (number : ℕ) (n : Newcomer) → call_no (opening_call (Behind number) n) s ≡ 0 → (place : ℕ) → 0 < place → place ≤ length s.carriers
    → (get_or s.carriers (place - 1) none).number ≡ number → gap_place (Behind number) s.carriers ≡ place
unfolding gap_place
gap_behind s number n e place least most named =
    let first = first_numbered s.carriers (opening_tells s (Behind number) n e).sound.carriers.distinct (place - 1) (omega arith) in
    rw (← named) (omega (arith, first))

-- and that it is there
pub gap_there : (s : State) (number : ℕ) (n : Newcomer) → call_no (opening_call (Behind number) n) s ≡ 0 →
    let place = gap_place (Behind number) s.carriers in
    (0 < place) × (place ≤ length s.carriers) × ((get_or s.carriers (place - 1) none).number ≡ number)
unfolding gap_place
gap_there s number n e =
    let within = (opening_tells s (Behind number) n e).within in
    let there = place_passes (numbered number) s.carriers none within in
    let before : suc (place_of number s.carriers) - 1 ≡ place_of number s.carriers = omega arith in
    (omega arith, within, rw before (eqb-true _ number there))

-- ---- the positions that are answered
module _ (s : State) (g : Gap) (n : Newcomer) (e : call_no (opening_call g n) s ≡ 0) where
  abbrev told : Asks s g n
  told = opening_tells s g n e

  abbrev place : ℕ
  place = gap_place g s.carriers

  span_is : (call_answer (opening_call g n) s).span ≡ span_of (opens s place n)
  unfolding opening_in
  span_is = ap (λ (a : Answer). a.span) (accepted_answers (opening_call g n) s e)

  module _ (p : ℕ) where
    between_opens : let a = (call_answer (opening_call g n) s).span in a.exists ≡ true → a.lowest ≤ p → p ≤ a.highest → opens s place n p ≡ true
    between_opens =
        let f = opens_formula s place n told.sound.carriers.safe told.within in
        rw span_is (between_passes (opens s place n) f.0 f.1 (omega (arith, f.2, told.sound.road.end_most)) f.3 p)

    opens_between : opens s place n p ≡ true → let a = (call_answer (opening_call g n) s).span in (a.exists ≡ true) × (a.lowest ≤ p) × (p ≤ a.highest)
    opens_between =
        let f = opens_formula s place n told.sound.carriers.safe told.within in
        rw span_is (passes_between (opens s place n) f.0 f.1 (omega (arith, f.2, told.sound.road.end_most)) f.3 p)

-- "the lowest and highest position, in the gap directly behind the one named (or ahead of all), at which 5, 25 and 26 wouldn't be given", on every
-- lane, full ones too: between the two, and nowhere else, the front is before the end, safe behind the one ahead, and the one behind is safe
pub opening_numbers : (s : State) (g : Gap) (n : Newcomer) (p : ℕ) → call_no (opening_call g n) s ≡ 0 →
    let cs = s.carriers in
    let r = row_in s.tables s.road in
    let place = gap_place g cs in
    let a = (call_answer (opening_call g n) s).span in
    let c : Carrier = record { number = 0; position = p; speed = n.speed; length = n.length; rate = n.rate } in
    let Safe : (ahead d : Carrier) → Type 0 = λ a d.
    (d.position + a.length < a.position)
    × (d.position + a.length + stopping_distance (min d.rate r.guaranteed) d.speed < a.position + stopping_distance r.hardest a.speed)
    in
    ((a.exists ≡ true) × (a.lowest ≤ p) × (p ≤ a.highest)
    → (p < s.road.end) × (0 < place → Safe (get_or cs (place - 1) none) c) × (place < length cs → Safe c (get_or cs place none)))
    × (p < s.road.end → (0 < place → Safe (get_or cs (place - 1) none) c) → (place < length cs → Safe c (get_or cs place none))
    → (a.exists ≡ true) × (a.lowest ≤ p) × (p ≤ a.highest))
opening_numbers s g n p e =
    let h = told s g n e in (
      λ b. let o = opens_says s (place s g n e) n h.sound.carriers.safe h.within p (between_opens s g n e p b.0 b.1 b.2) in (o.0, o.1, o.2),
      λ before front back. opens_between s g n e p (opens_where s (place s g n e) n h.sound.carriers.safe h.within p before front back),
    )

-- the gap does not depend on the newcomer's number
unnumbered : (r : Row) (ahead : Ahead) (c : Carrier) → safe_with r ahead c ≡ safe_with r ahead (newcomer_at (values_of c) c.position)
unfolding safe_with
unnumbered r nobody c = refl
unnumbered r (leader a) c = refl

gap_unnumbered : (r : Row) (place : ℕ) (c : Carrier) (cs : List Carrier) → gap_no r place c cs ≡ gap_no r place (newcomer_at (values_of c) c.position) cs
unfolding gap_no safe_with
gap_unnumbered r place c cs = rw (unnumbered r (ahead_of place cs) c) refl

-- where there is one the lowest is at most the highest; where there is none, and after a refusal, both are 0
pub opening_ends : (s : State) (g : Gap) (n : Newcomer) →
    let x = opening_call g n in
    let a = (call_answer x s).span in
    (call_no x s ≡ 0 → a.exists ≡ true → a.lowest ≤ a.highest)
    × (call_no x s ≡ 0 → a.exists ≡ false → (a.lowest ≡ 0) × (a.highest ≡ 0))
    × (¬ (call_no x s ≡ 0) → (a.exists ≡ false) × (a.lowest ≡ 0) × (a.highest ≡ 0))
opening_ends s g n = (λ e. (ends e).0, λ e. (ends e).1, λ h. rw (refused_answers (opening_call g n) s h) (refl, refl, refl))
  where
    ends : call_no (opening_call g n) s ≡ 0 → let a = (call_answer (opening_call g n) s).span in
        (a.exists ≡ true → a.lowest ≤ a.highest) × (a.exists ≡ false → (a.lowest ≡ 0) × (a.highest ≡ 0))
    ends e =
        let h = told s g n e in
        let f = opens_formula s (place s g n e) n h.sound.carriers.safe h.within in
        rw (span_is s g n e) (span_ends (opens s (place s g n e) n) f.0 f.1 (omega (arith, f.2, h.sound.road.end_most)) f.3)

-- so an entry of these values, with a free number and a free place, is let in at the place asked for exactly where its position is between the two
pub opening_entry : (s : State) (g : Gap) (c : Carrier) →
    let cs = s.carriers in
    let x = opening_call g (record { speed = c.speed; length = c.length; rate = c.rate }) in
    let a = (call_answer x s).span in
    call_no x s ≡ 0 → 1 ≤ c.number → c.number ≤ 65535 → s.count < 64 → ((i : ℕ) → i < length cs → ¬ ((get_or cs i none).number ≡ c.number))
    → ((a.exists ≡ true) × (a.lowest ≤ c.position) × (c.position ≤ a.highest)
    → (call_no (enter_call c) s ≡ 0) × ((call_answer (enter_call c) s).place ≡ gap_place g cs))
    × (call_no (enter_call c) s ≡ 0 → (call_answer (enter_call c) s).place ≡ gap_place g cs
    → (a.exists ≡ true) × (a.lowest ≤ c.position) × (c.position ≤ a.highest))
opening_entry s g c e least most room new = (forth, back)
  where
    h : Asks s g (values_of c)
    h = opening_tells s g (values_of c) e

    r : Row
    r = row_in s.tables s.road

    forth : let a = (call_answer (opening_call g (values_of c)) s).span in (a.exists ≡ true) × (a.lowest ≤ c.position) × (c.position ≤ a.highest)
        → (call_no (enter_call c) s ≡ 0) × ((call_answer (enter_call c) s).place ≡ gap_place g s.carriers)
    forth b =
        let o = opens_at s (gap_place g s.carriers) (values_of c) c.position (between_opens s g (values_of c) e c.position b.0 b.1 b.2) in
        let v = values_are s.road (newcomer_at (values_of c) 0) h.values in
        let own : InRange s.road c = record { number_least = least; number_most_is = most; front_before_end = o.1; slow = v.0; short = v.1; rate_least = v.2; rate_most = v.3 } in
        let z =
        entry_by_gap s c (sound_holds s h.sound) own room new ∙ ap (λ (i : ℕ). gap_no r i c s.carriers) o.0
        ∙ gap_unnumbered r (gap_place g s.carriers) c s.carriers ∙ o.2 in
        (z, ap (λ (a : Answer). a.place) (accepted_answers (enter_call c) s z) ∙ o.0)

    back : call_no (enter_call c) s ≡ 0 → (call_answer (enter_call c) s).place ≡ gap_place g s.carriers
        → let a = (call_answer (opening_call g (values_of c)) s).span in (a.exists ≡ true) × (a.lowest ≤ c.position) × (c.position ≤ a.highest)
    back z there =
        let t = enter_tells s c z in
        let walks = sym (ap (λ (a : Answer). a.place) (accepted_answers (enter_call c) s z)) ∙ there in
        opens_between s g (values_of c) e c.position
        (opens_there s (gap_place g s.carriers) (values_of c) c.position walks t.own.front_before_end
        (sym (gap_unnumbered r (gap_place g s.carriers) c s.carriers) ∙ ap (λ (i : ℕ). gap_no r i c s.carriers) (sym walks) ∙ t.gap))
