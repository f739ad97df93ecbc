-- The `want=` lines of a cycle, read one after the other into an array of 64 wishes.
use mathlib.Core.Path.{◌≡◌, refl, sym, ap, ◌∙◌, subst}
use mathlib.Core.Bool.{true, false}
use mathlib.Core.List.{List, [], ◌∷◌, ◌++◌, append_assoc, append-nil}
use Prim.Native.Nat.{ℕ, suc, ◌+◌, ◌-◌, ◌≤◌, ◌<◌}
use native.Mathlib.Numerals.{add-one}
use native.Mathlib.Omega.{arith}
use lib.ListN.{length, take, drop, set, replicate, take-append-drop, length-set}
use lib.Seq.{length-take-le, take-suc-set, drop-set-lt, drop-drop}
use Rattle.text.specs.Ascii.{ascii}
use Rattle.text.specs.Groups.{got, missing, value_line}
use Rattle.text.proofs.ReadLaws.{starts_too_short, other_length}
use Rattle.text.proofs.GroupLaws.{value_told, value_missing}
use Rattle.std.specs.Prelude.{Option, Some, None, MatchOption, IsSomeAnd, ℤ, Float}
use Rattle.std.specs.Float.{binary32}
use Rattle.std.specs.Float.Ieee.{of_bits}
use Rattle.wish.specs.Units.{units_of}
use Rattle.wish.specs.declared.Wish.{Wish}
use Rattle.wish.specs.declared.Wish.TheVariants.{Units, Hold}
use Rattle.lane.specs.Limits.{most_carriers}
use Rattle.lane.specs.Layout.{Words, state_of}
use Rattle.lane.specs.Call.{cycle_call}
use Rattle.lane.proofs.Alike.{Alike, nothing, first, alike_same, alike_append, alike_length, cycle_alike}
use Rattle.console.specs.Blocks.{Parsed, parsed, malformed, after_line, units_wanted, float_wanted, wish_wanted, want_in, is_wish, wish_of, WantedAs, WantRead, want, wants, sixty_four}
use Rattle.console.specs.Output.{printed}
use Rattle.console.specs.Program.{CallGives}
use Rattle.console.proofs.Lines.{Reads, none_read_yet, line_read, none_read}

-- the wish itself asks for the same
pub wanted_as_is : {w r : Option Wish} → r ≡ w → WantedAs w r
wanted_as_is e = record { ok = ap is_wish e; units = λ v. ap (λ (x : Option Wish). units_of (wish_of x) v) e }

-- an empty value asks for nothing, so that no line does either
pub want_missing : (t : List ℕ) → value_line (ascii "want=") t ≡ missing → want_in t ≡ None
unfolding wish_wanted want_in
want_missing t e =
    rw (
      value_missing (ascii "want=") t e,
      other_length (ascii "hold") [] (λ q. omega arith),
      starts_too_short (ascii "units:") [] (omega arith),
      starts_too_short (ascii "accel:") [] (omega arith),
      starts_too_short (ascii "speed:") [] (omega arith),
    )
    refl

pub want_told : (t : List ℕ) {value rest : List ℕ} → value_line (ascii "want=") t ≡ got value rest → {r : Option Wish} → WantedAs (wish_wanted value) r
    → WantRead t r rest
unfolding want_in
want_told t e a =
    let told = value_told (ascii "want=") t e in
    record { asks = rw (← told.value_is) a; rest_is = λ w. told.rest_is; within = λ w. told.within }

-- what is still to be read of a cycle of `count` carriers, with the wishes in hand
abbrev onward : (count left : ℕ) → (hand : List Wish) → List ℕ → Parsed
onward count left hand t = wants left t (λ ws t. parsed (cycle_call count (sixty_four (hand ++ ws))) 0)

-- a loop has read the lines of the first i wishes of a cycle, `hand`, has put wishes that ask for the same into the array, and the others are hold
pub record Asking (t left : List ℕ) (count : ℕ) (wishes : List Wish) (i : ℕ) : Type 0 where
  pub few : i ≤ count
  pub most : count ≤ most_carriers
  pub long : length wishes ≡ most_carriers
  pub free : drop i wishes ≡ replicate (most_carriers - i) Hold
  pub hand : List Wish
  pub alike : Alike (take i wishes) hand
  pub reads : Reads t left (onward count count [] t) (onward count (count - i) hand)

pub asking_start : (count : ℕ) (t : List ℕ) → count ≤ most_carriers → Asking t t count (replicate most_carriers Hold) 0
asking_start count t h =
    let e : count - 0 ≡ count = omega arith in
    record { few = omega arith; most = h; long = refl; free = refl; hand = []; alike = nothing; reads = rw e (none_read_yet t (onward count count [])) }

module _ {t left : List ℕ} {count i : ℕ} {wishes : List Wish} (a : Asking t left count wishes i) where
  module _ (more : i < count) {r : Option Wish} {rest : List ℕ} (told : WantRead left r rest) where
    one_more : Reads t left (onward count count [] t) (onward count (suc (count - (i + 1))) a.hand)
    one_more = let e : count - i ≡ suc (count - (i + 1)) = omega arith in rw e at a.reads

    pub asking_missing : r ≡ None → onward count count [] t ≡ malformed
    unfolding want wants
    asking_missing e =
        let none : is_wish (want_in left) ≡ false = sym told.asks.ok ∙ ap is_wish e in
        none_read one_more (rw none refl)

    pub asking_next : {w : Wish} → r ≡ Some w → Asking t rest count (set wishes i w) (i + 1)
    unfolding want wants after_line
    asking_next {w} e =
        let there : is_wish r ≡ true = ap is_wish e in
        let wanted : is_wish (want_in left) ≡ true = sym told.asks.ok ∙ there in
        let asked = wish_of (want_in left) in
        let held : take (i + 1) (set wishes i w) ≡ take i wishes ++ (w ∷ []) =
        rw add-one (take-suc-set wishes i w (omega (arith, a.long, a.most))) in
        let free : most_carriers - i ≡ suc (most_carriers - (i + 1)) = omega (arith, a.most) in
        record {
          few = omega arith;
          most = a.most;
          long = length-set wishes i w ∙ a.long;
          free = drop-set-lt (i + 1) wishes i w (omega arith) ∙ sym (drop-drop 1 i wishes) ∙ ap (drop 1) (a.free ∙ ap (λ (n : ℕ). replicate n Hold) free);
          hand = a.hand ++ (asked ∷ []);
          alike = rw held (alike_append a.alike (first (λ v. sym (ap (λ (x : Option Wish). units_of (wish_of x) v) e) ∙ told.asks.units v) nothing));
          reads = line_read one_more (onward count (count - (i + 1)) (a.hand ++ (asked ∷ []))) (rw wanted (simp append_assoc)) (told.rest_is there) (told.within there);
        }

  -- the array asks for what the wishes in hand do, and hold after them
  pub array_alike : Alike wishes (sixty_four a.hand)
  unfolding sixty_four
  array_alike =
      let long : length a.hand ≡ i = sym (alike_length a.alike) ∙ length-take-le i wishes (omega (arith, a.long, a.most, a.few)) in
      subst (λ (ws : List Wish). Alike ws (sixty_four a.hand)) (take-append-drop i wishes)
      (rw (long, a.free) (alike_append a.alike (alike_same (replicate (most_carriers - i) Hold))))

  pub asking_end : count ≤ i → Reads t left (onward count count [] t) (λ u. parsed (cycle_call count (sixty_four a.hand)) 0)
  unfolding wants
  asking_end h =
      let none : count - i ≡ 0 = omega arith in
      let done : Reads t left (onward count count [] t) (λ u. parsed (cycle_call count (sixty_four (a.hand ++ []))) 0) = rw none at a.reads in
      rw (append-nil a.hand) at done

-- ---- a cycle run with wishes that ask for the same

pub cycle_gives : {before after : Words} {count : ℕ} {ws xs : List Wish} {buffer out : List ℕ} {w : ℕ} → Alike ws xs
    → CallGives before (cycle_call count ws) buffer w after out → CallGives before (cycle_call count xs) buffer w after out
unfolding printed
cycle_gives {before} {count = count} a g =
    let e = cycle_alike count (state_of before) a in
    record { state = rw e.1 at g.state; kept = rw e.0 at g.kept; puts = rw e.0 at g.puts }

-- ---- a wish read of a value

-- units, or none
pub units_map : (s : Option ℤ) {r : Option Wish} → MatchOption s (r ≡ None) (λ x. IsSomeAnd r (λ w. w ≡ Units x)) → r ≡ units_wanted s
units_map (Some x) {r = Some w} e = ap Some e
units_map (Some x) {r = None} e = absurd e
units_map None e = e

-- a float that asks for what the bits do, or none
pub float_map : (f : Float → Wish) (s : Option ℕ) {r : Option Wish}
    → MatchOption s (r ≡ None) (λ x. IsSomeAnd r (λ w. (v : ℕ) → units_of w v ≡ units_of (f (of_bits binary32 x)) v)) → WantedAs (float_wanted f s) r
float_map f (Some x) {r = Some w} e = record { ok = refl; units = e }
float_map f (Some x) {r = None} e = absurd e
float_map f None e = wanted_as_is e
