-- The laws of groups of numbers, all that the crates above use of how `specs/Groups` reads: what was written is read again, whatever is read is
-- what would be written, and what functions tell of it, that read field after field and group after group or put line after line.
use mathlib.Core.Path.{◌≡◌, refl, sym, ap, subst, ◌∙◌}
use mathlib.Core.Bool.{Bool, true, false, not, ◌&&◌, cond}
use mathlib.Core.List.{List, [], ◌∷◌, ◌++◌, append_assoc, append-nil}
use Prim.Native.Nat.{ℕ, zero, suc, ◌+◌, ◌-◌, ◌≤◌, ◌<◌}
use native.Mathlib.Omega.{arith}
use lib.Dec.{leb, eqb}
use lib.ListN.{length, get_or, take, drop, length-append}
use lib.Seq.{drop-append_seam}
use borrow.Author.Tests.{leb-true, eqb-false, not-true}
use Rattle.text.specs.Numbers.{decimal}
use Rattle.text.specs.Lines.{line, written}
use Rattle.text.specs.Fields.{line_length, has_line, line_value, number_in, field_in, is_number, value_in}
use Rattle.text.specs.Groups.{Key, group_text, groups_text, Got, got, missing, and_then, whole, value_line, number_line, group_in, groups_in}
use Rattle.std.specs.Prelude.{Option, Some, None}
use Rattle.text.proofs.Laws.{decimal_at_most, length_line, place_fits, Put, put_both}
use Rattle.text.proofs.Reading.{both}
use Rattle.text.proofs.ReadLaws.{line_within, number_is, number_value, no_number, no_bytes, no_newline, decimal_no_newline, length_of_line, field_read, field_put, field_whole}

-- the key of a group's line, from 0 on
abbrev pub key_at : List Key → ℕ → Key
key_at ks i = get_or ks i (record { name = []; most = 0 })

-- ---- keys and numbers that can be written

-- no byte is a newline
abbrev pub clean : List ℕ → Bool
clean [] = true
clean (b ∷ l) = not (eqb b 10) && clean l

-- its line has at most 64 bytes: 40, the 20 digits of a number of 64 bits, the newline
abbrev pub fit_key : Key → Bool
fit_key k = clean k.name && leb (length k.name) 40 && leb k.most 18446744073709551615

abbrev pub fit_keys : List Key → Bool
fit_keys [] = true
fit_keys (k ∷ ks) = fit_key k && fit_keys ks

-- a number for each key, which its field can hold
abbrev pub Held : List Key → List ℕ → Type 0
Held [] [] = Unit {0}
Held [] (n ∷ ns) = ⊥
Held (k ∷ ks) [] = ⊥
Held (k ∷ ks) (n ∷ ns) = (n ≤ k.most) × Held ks ns

abbrev pub AllHeld : List Key → List (List ℕ) → Type 0
AllHeld ks [] = Unit {0}
AllHeld ks (g ∷ gs) = Held ks g × AllHeld ks gs

-- ---- what was written is read again

clean_line : (l : List ℕ) → clean l ≡ true → line_length l ≡ length l
clean_line [] e = no_bytes
clean_line (b ∷ l) e =
    let f = both (not (eqb b 10)) (clean l) e in
    no_newline b l (eqb-false b 10 (not-true (eqb b 10) f.0)) (clean_line l f.1)

pub line_again : (k : Key) (n : ℕ) (rest : List ℕ) → fit_key k ≡ true → n ≤ k.most → number_line k (line k.name (decimal n) ++ rest) ≡ got n rest
unfolding number_line
line_again k n rest fit h =
    let f = both (clean k.name && leb (length k.name) 40) (leb k.most 18446744073709551615) fit in
    let g = both (clean k.name) (leb (length k.name) 40) f.0 in
    let key : line_length k.name ≡ length k.name = clean_line k.name g.0 in
    let short : length k.name ≤ 40 = leb-true (length k.name) 40 g.1 in
    let digits : length (decimal n) ≤ 20 = decimal_at_most 20 n (omega arith) (omega (arith, leb-true k.most 18446744073709551615 f.1)) in
    let ends : suc (line_length (line k.name (decimal n) ++ rest)) ≡ length (line k.name (decimal n)) =
    omega (arith, length_of_line k.name (decimal n) rest key (decimal_no_newline n), length_line k.name (decimal n))
    in
    rw (field_read k.name rest k.most n key (omega arith) h, number_is n, number_value n, ends)
    (ap (got n) (drop-append_seam (line k.name (decimal n)) rest))

pub group_again : (ks : List Key) (ns rest : List ℕ) → fit_keys ks ≡ true → Held ks ns → group_in ks (group_text ks ns ++ rest) ≡ got ns rest
unfolding group_in
group_again [] [] rest fit h = refl
group_again [] (n ∷ ns) rest fit h = absurd h
group_again (k ∷ ks) [] rest fit h = absurd h
group_again (k ∷ ks) (n ∷ ns) rest fit h =
    let f = both (fit_key k) (fit_keys ks) fit in
    rw (append_assoc, line_again k n (group_text ks ns ++ rest) f.0 h.0, group_again ks ns rest f.1 h.1) refl

pub groups_again : (ks : List Key) (gs : List (List ℕ)) (rest : List ℕ) → fit_keys ks ≡ true → AllHeld ks gs
    → groups_in ks (length gs) (groups_text ks gs ++ rest) ≡ got gs rest
unfolding groups_in
groups_again ks [] rest fit h = refl
groups_again ks (g ∷ gs) rest fit h =
    rw (append_assoc, group_again ks g (groups_text ks gs ++ rest) fit h.0, groups_again ks gs rest fit h.1) refl

-- ---- whatever is read is what would be written

pub got_injective : {A : Type 0} {a b : A} {t u : List ℕ} → got a t ≡ got b u → (a ≡ b) × (t ≡ u)
got_injective e = (cc, cc)

pub got≢missing : {A : Type 0} {a : A} {t : List ℕ} → got a t ≡ missing → ⊥
got≢missing e = let z : ◌≡◌ {A = ℕ} 0 1 = cc in absurd (omega arith)

-- what holds of one thing before others, where each is there, holds of what is there of both
one_taken : {A : Type 0} (x : Got A) (more : List ℕ → Got (List A)) (all : List A) (rest : List ℕ) (P : List A → Type 0)
    → and_then x (λ a t. and_then (more t) (λ bs t. got (a ∷ bs) t)) ≡ got all rest
    → ((a : A) (t : List ℕ) (bs : List A) → x ≡ got a t → more t ≡ got bs rest → P (a ∷ bs)) → P all
one_taken {A} (got a t) more all rest P e f = by_more (more t) refl e
  where
    by_more : (y : Got (List A)) → more t ≡ y → and_then y (λ bs t. got (a ∷ bs) t) ≡ got all rest → P all
    by_more (got bs u) q e = let g = got_injective e in subst P g.0 (f a t bs refl (q ∙ ap (got bs) g.1))
    by_more missing q e = absurd (got≢missing (sym e))
one_taken missing more all rest P e f = absurd (got≢missing (sym e))

pub line_taken : (k : Key) (t : List ℕ) (n : ℕ) (rest : List ℕ) → number_line k t ≡ got n rest → (t ≡ line k.name (decimal n) ++ rest) × (n ≤ k.most)
unfolding number_line
line_taken k t n rest e = by_number (field_in k.name k.most t) refl e
  where
    by_number : (m : Option ℕ) → field_in k.name k.most t ≡ m → cond (is_number m) (got (value_in m) (drop (suc (line_length t)) t)) missing ≡ got n rest
        → (t ≡ line k.name (decimal n) ++ rest) × (n ≤ k.most)
    by_number (Some m) f e =
        let g = got_injective (rw (number_is m, number_value m) at e) in
        rw (sym g.0, sym g.1) (field_whole k.name k.most t m f, (field_put k.name k.most t m f).2)
    by_number None f e = absurd (got≢missing (sym (rw no_number at e)))

pub group_taken : (ks : List Key) (t ns rest : List ℕ) → group_in ks t ≡ got ns rest → (t ≡ group_text ks ns ++ rest) × Held ks ns
unfolding group_in
group_taken [] t ns rest e = let g = got_injective e in rw (sym g.0, sym g.1) (refl, tt)
group_taken (k ∷ ks) t ns rest e =
    one_taken (number_line k t) (group_in ks) ns rest (λ ns. (t ≡ group_text (k ∷ ks) ns ++ rest) × Held (k ∷ ks) ns) e
    (λ n u ms first others.
    let l = line_taken k t n u first in
    let m = group_taken ks u ms rest others in
    (l.0 ∙ rw (m.0, append_assoc) refl, (l.1, m.1)))

pub groups_taken : (ks : List Key) (count : ℕ) (t : List ℕ) (gs : List (List ℕ)) (rest : List ℕ) → groups_in ks count t ≡ got gs rest
    → (t ≡ groups_text ks gs ++ rest) × (length gs ≡ count) × AllHeld ks gs
unfolding groups_in
groups_taken ks zero t gs rest e = let g = got_injective e in rw (sym g.0, sym g.1) (refl, refl, tt)
groups_taken ks (suc n) t gs rest e =
    one_taken (group_in ks t) (groups_in ks n) gs rest (λ gs. (t ≡ groups_text ks gs ++ rest) × (length gs ≡ suc n) × AllHeld ks gs) e
    (λ g u hs first others.
    let l = group_taken ks t g u first in
    let m = groups_taken ks n u hs rest others in
    (l.0 ∙ rw (m.0, append_assoc) refl, ap suc m.1, (l.1, m.2)))

-- ---- parts of what is read

-- some before others that are there
abbrev before : {A : Type 0} → List A → Got (List A) → Got (List A)
before some x = and_then x (λ others t. got (some ++ others) t)

before_none : {A : Type 0} (x : Got (List A)) → before [] x ≡ x
before_none (got bs t) = refl
before_none missing = refl

before_both : {A : Type 0} (some others : List A) (x : Got (List A)) → before some (before others x) ≡ before (some ++ others) x
before_both some others (got bs t) = ap (λ (l : List _). got l t) (sym (append_assoc some others bs))
before_both some others missing = refl

-- ---- what is told of a line

-- a line with a value that is there
pub record ValueTold (key t value rest : List ℕ) : Type 0 where
  pub there : has_line key t ≡ true
  pub value_is : value ≡ line_value key t
  pub rest_is : rest ≡ drop (suc (line_length t)) t
  pub within : suc (line_length t) ≤ length t

pub value_told : (key t : List ℕ) {value rest : List ℕ} → value_line key t ≡ got value rest → ValueTold key t value rest
unfolding value_line
value_told key t {value} {rest} e = by_test (has_line key t) refl e
  where
    by_test : (b : Bool) → has_line key t ≡ b → cond b (got (line_value key t) (drop (suc (line_length t)) t)) missing ≡ got value rest → ValueTold key t value rest
    by_test true h f =
        let g = got_injective f in
        record { there = h; value_is = sym g.0; rest_is = sym g.1; within = line_within key t h }
    by_test false h f = absurd (got≢missing (sym f))

-- where there is none, the value is empty
pub value_missing : (key t : List ℕ) → value_line key t ≡ missing → line_value key t ≡ []
unfolding value_line line_value
value_missing key t e = by_test (has_line key t) refl e
  where
    by_test : (b : Bool) → has_line key t ≡ b → cond b (got (line_value key t) (drop (suc (line_length t)) t)) missing ≡ missing
        → cond (has_line key t) (drop (length key) (take (line_length t) t)) [] ≡ []
    by_test true h f = absurd (got≢missing f)
    by_test false h f = rw h refl

-- a line with a number that is there
pub record NumberTold (k : Key) (t : List ℕ) (n : ℕ) (rest : List ℕ) : Type 0 where
  pub field_is : field_in k.name k.most t ≡ Some n
  pub rest_is : rest ≡ drop (suc (line_length t)) t
  pub within : suc (line_length t) ≤ length t

pub number_told : (k : Key) (t : List ℕ) {n : ℕ} {rest : List ℕ} → number_line k t ≡ got n rest → NumberTold k t n rest
unfolding number_line
number_told k t {n} {rest} e = by_number (field_in k.name k.most t) refl e
  where
    by_number : (m : Option ℕ) → field_in k.name k.most t ≡ m → cond (is_number m) (got (value_in m) (drop (suc (line_length t)) t)) missing ≡ got n rest
        → NumberTold k t n rest
    by_number (Some m) f e =
        let g = got_injective (rw (number_is m, number_value m) at e) in
        record { field_is = f ∙ ap Some g.0; rest_is = sym g.1; within = line_within k.name t (field_put k.name k.most t m f).0 }
    by_number None f e = absurd (got≢missing (sym (rw no_number at e)))

pub number_missing : (k : Key) (t : List ℕ) → number_line k t ≡ missing → field_in k.name k.most t ≡ None
unfolding number_line
number_missing k t e = by_number (field_in k.name k.most t) refl e
  where
    by_number : (m : Option ℕ) → field_in k.name k.most t ≡ m → cond (is_number m) (got (value_in m) (drop (suc (line_length t)) t)) missing ≡ missing
        → field_in k.name k.most t ≡ None
    by_number (Some m) f e = absurd (got≢missing (rw (number_is m, number_value m) at e))
    by_number None f e = f

-- the value of a line decides the number
abbrev pub number_as : Option ℕ → List ℕ → Got ℕ
number_as (Some n) rest = got n rest
number_as None rest = missing

pub number_of_none : (k : Key) (t : List ℕ) → value_line k.name t ≡ missing → number_line k t ≡ missing
unfolding value_line number_line field_in
number_of_none k t e = by_test (has_line k.name t) refl e
  where
    by_test : (b : Bool) → has_line k.name t ≡ b → cond b (got (line_value k.name t) (drop (suc (line_length t)) t)) missing ≡ missing
        → cond (is_number (cond (has_line k.name t) (number_in k.most (line_value k.name t)) None))
        (got (value_in (cond (has_line k.name t) (number_in k.most (line_value k.name t)) None)) (drop (suc (line_length t)) t)) missing ≡ missing
    by_test true h f = absurd (got≢missing f)
    by_test false h f = rw (h, no_number) refl

pub number_of_value : (k : Key) (t : List ℕ) {value rest : List ℕ} {m : Option ℕ} → value_line k.name t ≡ got value rest → number_in k.most value ≡ m
    → number_line k t ≡ number_as m rest
unfolding number_line field_in
number_of_value k t {value} {rest} {m} e f =
    let told = value_told k.name t e in
    rw (told.there, ← told.value_is, f) (by_number m)
  where
    by_number : (m : Option ℕ) → cond (is_number m) (got (value_in m) (drop (suc (line_length t)) t)) missing ≡ number_as m rest
    by_number (Some n) = rw (number_is n, number_value n) (ap (got n) (sym (value_told k.name t e).rest_is))
    by_number None = rw no_number refl

-- ---- field after field

-- what comes after it, where it is told whether it is there
then_told : {A B : Type 0} (ok : Bool) (a : A) (t : List ℕ) (next : A → List ℕ → Got B) → and_then (cond ok (got a t) missing) next ≡ cond ok (next a t) missing
then_told true a t next = refl
then_told false a t next = refl

-- the first keys of a group are read, whatever the others are
pub record GroupRead (t : List ℕ) (ks : List Key) (ok : Bool) (ns left : List ℕ) : Type 0 where
  pub rest : (more : List Key) → group_in (ks ++ more) t ≡ cond ok (before ns (group_in more left)) missing

pub group_first : (k : Key) (t : List ℕ) (ok : Bool) (n : ℕ) (left : List ℕ) → number_line k t ≡ cond ok (got n left) missing → GroupRead t (k ∷ []) ok (n ∷ []) left
unfolding group_in
group_first k t ok n left e = record { rest = λ more. rw e (then_told ok n left _) }

pub group_next : {t : List ℕ} {ks : List Key} {ok : Bool} {ns left : List ℕ} → GroupRead t ks ok ns left
    → (k : Key) (there : Bool) (n : ℕ) (next : List ℕ) → number_line k left ≡ cond there (got n next) missing
    → GroupRead t (ks ++ (k ∷ [])) (ok && there) (ns ++ (n ∷ [])) next
group_next {t} {ks} {ok} {ns} {left} first k there n next e =
    record { rest = λ more. rw (append_assoc, first.rest (k ∷ more), (group_first k left there n next e).rest more) (by_tests ok there (group_in more next)) }
  where
    by_tests : (s u : Bool) (x : Got (List ℕ)) → cond s (before ns (cond u (before (n ∷ []) x) missing)) missing ≡ cond (s && u) (before (ns ++ (n ∷ [])) x) missing
    by_tests true true x = before_both ns (n ∷ []) x
    by_tests true false x = refl
    by_tests false u x = refl

pub group_read : {t : List ℕ} {ks : List Key} {ok : Bool} {ns left : List ℕ} → GroupRead t ks ok ns left → group_in ks t ≡ cond ok (got ns left) missing
unfolding group_in
group_read {ks = ks} {ns = ns} first = rw (append-nil ks, append-nil ns) at (first.rest [])

pub group_end : (t : List ℕ) → group_in [] t ≡ got [] t
unfolding group_in
group_end t = refl

module _ (k : Key) (ks : List Key) (t : List ℕ) where
  pub group_stop : number_line k t ≡ missing → group_in (k ∷ ks) t ≡ missing
  unfolding group_in
  group_stop e = rw e refl

  -- a field that is there, and the others behind it
  module _ {n : ℕ} {rest : List ℕ} (e : number_line k t ≡ got n rest) where
    pub group_on : {ns left : List ℕ} → group_in ks rest ≡ got ns left → group_in (k ∷ ks) t ≡ got (n ∷ ns) left
    unfolding group_in
    group_on f = rw (e, f) refl

    pub group_past : group_in ks rest ≡ missing → group_in (k ∷ ks) t ≡ missing
    unfolding group_in
    group_past f = rw (e, f) refl

-- ---- line after line

-- a line more
one_more : (ks : List Key) (ns : List ℕ) (k : Key) (n : ℕ) → length ns ≡ length ks
    → group_text (ks ++ (k ∷ [])) (ns ++ (n ∷ [])) ≡ group_text ks ns ++ line k.name (decimal n)
one_more [] [] k n e = append-nil (line k.name (decimal n))
one_more [] (m ∷ ns) k n e = absurd (omega arith)
one_more (j ∷ ks) [] k n e = absurd (omega arith)
one_more (j ∷ ks) (m ∷ ns) k n e =
    ap (λ (t : List ℕ). line j.name (decimal m) ++ t) (one_more ks ns k n (omega arith))
    ∙ sym (append_assoc (line j.name (decimal m)) (group_text ks ns) (line k.name (decimal n)))

-- the first keys of a group are put, with these numbers, from a place of a buffer on, where they fit
pub record GroupPut (at : ℕ) (ks : List Key) (ns buffer out : List ℕ) (place : ℕ) : Type 0 where
  pub as_many : length ns ≡ length ks
  pub put : at + length (group_text ks ns) ≤ length buffer → Put at (group_text ks ns) buffer out place

pub put_first : (k : Key) (n at : ℕ) (buffer out : List ℕ) (place : ℕ) → Put at (line k.name (decimal n)) buffer out place
    → GroupPut at (k ∷ []) (n ∷ []) buffer out place
put_first k n at buffer out place p = record { as_many = refl; put = λ room. rw (append-nil (line k.name (decimal n))) p }

pub put_next : {at : ℕ} {ks : List Key} {ns buffer middle : List ℕ} {next : ℕ} → GroupPut at ks ns buffer middle next
    → (k : Key) (n : ℕ) (out : List ℕ) (place : ℕ) → Put next (line k.name (decimal n)) middle out place
    → GroupPut at (ks ++ (k ∷ [])) (ns ++ (n ∷ [])) buffer out place
put_next {at} {ks} {ns} {buffer} first k n out place p =
    let more = one_more ks ns k n first.as_many in
    let l = line k.name (decimal n) in
    record {
      as_many = rw (length-append ns (n ∷ []), length-append ks (k ∷ [])) (omega (arith, first.as_many));
      put = λ room.
          let all : at + length (group_text ks ns ++ l) ≤ length buffer = rw more at room in
          rw more (put_both at (group_text ks ns) l buffer all (first.put (omega (arith, length-append (group_text ks ns) l))) p);
    }

-- so all of it is put
pub group_put : {at : ℕ} {ks : List Key} {ns buffer out : List ℕ} {place : ℕ} → GroupPut at ks ns buffer out place → at + length (group_text ks ns) ≤ length buffer
    → (out ≡ written at (group_text ks ns) buffer) × (place ≡ at + length (group_text ks ns))
group_put {at} {ks} {ns} {buffer} g room = let p = g.put room in (p.0, p.1 ∙ place_fits at (group_text ks ns) buffer room)

-- ---- group after group

-- the first `done` groups are read, and the others are still in what is left of the text
pub record GroupsRead (ks : List Key) (count : ℕ) (t : List ℕ) (done : ℕ) (gs : List (List ℕ)) (left : List ℕ) : Type 0 where
  pub within : done ≤ count
  pub rest : groups_in ks count t ≡ before gs (groups_in ks (count - done) left)

pub groups_start : (ks : List Key) (count : ℕ) (t : List ℕ) → GroupsRead ks count t 0 [] t
groups_start ks count t =
    let all : count - 0 ≡ count = omega arith in
    record { within = omega arith; rest = rw all (sym (before_none (groups_in ks count t))) }

module _ {ks : List Key} {count : ℕ} {t : List ℕ} {done : ℕ} {gs : List (List ℕ)} {left : List ℕ} (m : GroupsRead ks count t done gs left) where
  -- one group more
  module _ (h : done < count) where
    next_first : groups_in ks count t ≡ before gs (and_then (group_in ks left) (λ g t. before (g ∷ []) (groups_in ks (count - (done + 1)) t)))
    unfolding groups_in
    next_first = let more : count - done ≡ suc (count - (done + 1)) = omega arith in m.rest ∙ rw more refl

    pub groups_on : {g rest : List ℕ} → group_in ks left ≡ got g rest → GroupsRead ks count t (done + 1) (gs ++ (g ∷ [])) rest
    groups_on {g} {rest} e =
        record { within = omega arith; rest = next_first ∙ rw e (before_both gs (g ∷ []) (groups_in ks (count - (done + 1)) rest)) }

    pub groups_stop : group_in ks left ≡ missing → groups_in ks count t ≡ missing
    groups_stop e = next_first ∙ rw e refl

  pub groups_end : count ≤ done → groups_in ks count t ≡ got gs left
  unfolding groups_in
  groups_end h =
      let none : count - done ≡ 0 = omega arith in
      m.rest ∙ rw (none, append-nil gs) refl

-- ---- all of a text

pub whole_end : {A : Type 0} (a : A) (rest : List ℕ) → length rest ≡ 0 → whole (got a rest) ≡ got a []
whole_end a [] h = refl
whole_end a (b ∷ rest) h = absurd (omega arith)

pub whole_more : {A : Type 0} (a : A) (rest : List ℕ) → 1 ≤ length rest → whole (got a rest) ≡ missing
whole_more a [] h = absurd (omega arith)
whole_more a (b ∷ rest) h = refl

pub whole_taken : {A : Type 0} (x : Got A) (a : A) (rest : List ℕ) → whole x ≡ got a rest → (x ≡ got a []) × (rest ≡ [])
whole_taken (got b []) a rest e = let g = got_injective e in (rw g.0 refl, sym g.1)
whole_taken (got b (c ∷ t)) a rest e = absurd (got≢missing (sym e))
whole_taken missing a rest e = absurd (got≢missing (sym e))
