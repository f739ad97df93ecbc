-- A block's lines, read one after the other: what of the text is left, and what is still to be read of the block.
use mathlib.Core.Path.{◌≡◌, refl, sym, ap, subst, ◌∙◌}
use mathlib.Core.Bool.{Bool, false}
use mathlib.Core.List.{List, [], ◌∷◌}
use Prim.Native.Nat.{ℕ, suc, ◌+◌, ◌≤◌}
use native.Mathlib.Nat.{add_assoc, zero-add}
use native.Mathlib.Omega.{arith}
use lib.Dec.{eqb}
use lib.Pointwise.{pointwise}
use lib.ListN.{length, drop, length-drop}
use lib.Seq.{drop-drop}
use Rattle.std.specs.Prelude.{Option, Some, None}
use Rattle.text.specs.Ascii.{ascii}
use Rattle.text.specs.Fields.{line_length, line_value, is_word, value_in}
use Rattle.text.specs.Groups.{Key, got, missing, value_line, number_line}
use Rattle.text.proofs.ReadLaws.{other_length, word_pointwise, number_is, number_value, no_number, field_at_most}
use Rattle.text.proofs.GroupLaws.{value_told, value_missing, number_told, number_missing}
use Rattle.lane.specs.Layout.{Words}
use Rattle.lane.specs.Call.{Call}
use Rattle.console.specs.Blocks.{Parsed, parsed, malformed, past, after_line, field, Kind, kind_of, lines_of, block_in}
use Rattle.console.specs.Program.{CallGives, BlockRun, BlockGives}

past_past : (j k : ℕ) (p : Parsed) → past j (past k p) ≡ past (j + k) p
past_past j k (parsed x used) = ap (parsed x) (sym (add_assoc j k used))
past_past j k malformed = refl

past_none : (p : Parsed) → p ≡ past 0 p
past_none (parsed x used) = ap (parsed x) (sym (zero-add used))
past_none malformed = refl

-- `whole` began at the start of `t`; what `rest` reads of what is left is still to come
pub record Reads (t left : List ℕ) (whole : Parsed) (rest : List ℕ → Parsed) : Type 0 where
  pub used : ℕ
  pub within : used ≤ length t
  pub left_is : left ≡ drop used t
  pub whole_is : whole ≡ past used (rest left)

pub none_read_yet : (t : List ℕ) (rest : List ℕ → Parsed) → Reads t t (rest t) rest
none_read_yet t rest = record { used = 0; within = omega arith; left_is = refl; whole_is = past_none (rest t) }

module _ {t left : List ℕ} {whole : Parsed} {rest : List ℕ → Parsed} (r : Reads t left whole rest) where
  -- a line is read
  pub line_read : (next : List ℕ → Parsed) {after : List ℕ} → rest left ≡ after_line left next → after ≡ drop (suc (line_length left)) left
      → suc (line_length left) ≤ length left → Reads t after whole next
  unfolding after_line
  line_read next {after} e f h =
      let k = suc (line_length left) in
      record {
        used = r.used + k;
        within = omega (arith, h, r.within, ap length r.left_is, length-drop r.used t);
        left_is = f ∙ ap (drop k) r.left_is ∙ drop-drop k r.used t;
        whole_is = r.whole_is ∙ ap (past r.used) (e ∙ ap (λ (l : List ℕ). past k (next l)) (sym f)) ∙ past_past r.used k (next after);
      }

  -- nothing can be read
  pub none_read : rest left ≡ malformed → whole ≡ malformed
  none_read e = r.whole_is ∙ ap (past r.used) e

-- a line of a key with a number
module _ (k : Key) (next : ℕ → List ℕ → Parsed) {t left : List ℕ} {whole : Parsed} (r : Reads t left whole (λ u. field k.name k.most u next)) where
  pub number_read : {n : ℕ} {after : List ℕ} → number_line k left ≡ got n after → Reads t after whole (next n)
  unfolding field
  number_read {n} e =
      let told = number_told k left e in
      line_read r (next n) (rw (told.field_is, number_is n, number_value n) refl) told.rest_is told.within

  pub number_unread : number_line k left ≡ missing → whole ≡ malformed
  unfolding field
  number_unread e = none_read r (rw (number_missing k left e, no_number) refl)

-- such lines, one after the other
unfoldable pub fields : List Key → (List ℕ → List ℕ → Parsed) → List ℕ → Parsed
fields [] next t = next [] t
fields (k ∷ ks) next t = field k.name k.most t (λ n u. fields ks (λ ns. next (n ∷ ns)) u)

module _ (k : Key) (ks : List Key) (next : List ℕ → List ℕ → Parsed) {t left : List ℕ} {whole : Parsed} (r : Reads t left whole (fields (k ∷ ks) next)) where
  pub fields_on : {n : ℕ} {rest : List ℕ} → number_line k left ≡ got n rest → Reads t rest whole (fields ks (λ ns. next (n ∷ ns)))
  unfolding fields
  fields_on e = number_read k (λ n u. fields ks (λ ns. next (n ∷ ns)) u) r e

  pub fields_stop : number_line k left ≡ missing → whole ≡ malformed
  unfolding fields
  fields_stop e = number_unread k (λ n u. fields ks (λ ns. next (n ∷ ns)) u) r e

pub fields_end : (next : List ℕ → List ℕ → Parsed) {t left : List ℕ} {whole : Parsed} → Reads t left whole (fields [] next) → Reads t left whole (next [])
unfolding fields
fields_end next r = r

-- a number that is read is in its field's range
pub number_most : (k : Key) (t : List ℕ) {n : ℕ} {rest : List ℕ} → number_line k t ≡ got n rest → n ≤ k.most
number_most k t {n} e = omega (arith, field_at_most k.name k.most t, ap value_in (number_told k t e).field_is, number_value n)

-- the block is read whole, and then run
pub all_read : {t left : List ℕ} {whole : Parsed} {x : Call} → Reads t left whole (λ u. parsed x 0) → {before after : Words} {buffer out : List ℕ} {w : ℕ}
    → CallGives before x buffer w after out → BlockRun before whole t buffer w after out left
all_read {x = x} r g =
    let e : r.used + 0 ≡ r.used = omega arith in
    record { call = x; used = r.used; block = r.whole_is ∙ ap (parsed x) e; within = r.within; rest_is = r.left_is; gives = g }

-- ---- the `call=` line

-- a word compared with a known one
pub word_test : (known word : List ℕ) {bytes : List ℕ} {r b : Bool} → bytes ≡ known → r ≡ pointwise eqb word bytes → r ≡ b → is_word known word ≡ b
word_test known word e p t = word_pointwise known word ∙ ap (pointwise eqb word) (sym e) ∙ sym p ∙ t

-- the lines after it, by the kind that its word names
pub call_read : (t : List ℕ) {word left : List ℕ} → value_line (ascii "call=") t ≡ got word left → Reads t left (block_in t) (lines_of (kind_of word))
unfolding block_in
call_read t {word} e =
    let told = value_told (ascii "call=") t e in
    line_read (none_read_yet t block_in) (lines_of (kind_of word)) (rw told.value_is refl) told.rest_is told.within

-- what those lines give, the block gives
pub block_gives : {t left : List ℕ} {whole : Parsed} {next : List ℕ → Parsed} → Reads t left whole next
    → (before after : Words) (buffer out rest : List ℕ) (o : Option ℕ) → BlockGives before (next left) left buffer o after out rest → BlockGives before whole t buffer o after out rest
block_gives {t} {left} k before after buffer out rest (Some w) g =
    record {
      call = g.call;
      used = k.used + g.used;
      block = k.whole_is ∙ ap (past k.used) g.block;
      within = omega (arith, k.within, g.within, ap length k.left_is, length-drop k.used t);
      rest_is = g.rest_is ∙ ap (drop g.used) k.left_is ∙ drop-drop g.used k.used t;
      gives = g.gives;
    }
block_gives k before after buffer out rest None g = (none_read k g.0, g.1, g.2)

pub kind_gives : (t : List ℕ) {word left : List ℕ} {k : Option Kind} → value_line (ascii "call=") t ≡ got word left → kind_of word ≡ k
    → (before after : Words) (buffer out rest : List ℕ) (o : Option ℕ) → BlockGives before (lines_of k left) left buffer o after out rest → BlockGives before (block_in t) t buffer o after out rest
kind_gives t {left = left} e f before after buffer out rest o g =
    block_gives (call_read t e) before after buffer out rest o (subst (λ (k : Option Kind). BlockGives before (lines_of k left) left buffer o after out rest) (sym f) g)

-- an empty word names none
no_word : (word known : List ℕ) → length word ≡ 0 → 1 ≤ length known → is_word known word ≡ false
no_word word known h k = other_length known word (λ e. omega arith)

pub no_block : (t : List ℕ) → value_line (ascii "call=") t ≡ missing → block_in t ≡ malformed
unfolding after_line kind_of block_in
no_block t m =
    let none = value_missing (ascii "call=") t m in
    let e : length (line_value (ascii "call=") t) ≡ 0 = ap length none in
    rw (
      no_word (line_value (ascii "call=") t) (ascii "start") e (omega arith),
      no_word (line_value (ascii "call=") t) (ascii "enter") e (omega arith),
      no_word (line_value (ascii "call=") t) (ascii "leave") e (omega arith),
      no_word (line_value (ascii "call=") t) (ascii "cycle") e (omega arith),
      no_word (line_value (ascii "call=") t) (ascii "show") e (omega arith),
      no_word (line_value (ascii "call=") t) (ascii "surface") e (omega arith),
    )
    refl
