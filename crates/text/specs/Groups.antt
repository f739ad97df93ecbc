-- Document 02, T-08: "`key=value` lines in a fixed order": groups of numbers, a line each, written and read by the same keys.
use Rattle.std.specs.Prelude.{ℕ, zero, suc, ◌≡◌, cond, Option, MatchOption, List, [], ◌∷◌, ◌++◌, drop}
use Rattle.text.specs.Numbers.{decimal}
use Rattle.text.specs.Lines.{line}
use Rattle.text.specs.declared.fields.Lines.{Lines}
use Rattle.text.specs.Fields.{line_length, has_line, line_value, field_in, is_number, value_in}

-- a line's key, which is written with its equals sign, and the most that its number is: "A number that its field's width can't hold is malformed"
pub record Key : Type 0 where
  pub name : List ℕ
  pub most : ℕ

-- ---- as they are written

-- one group: a number for each key
abbrev pub group_text : List Key → List ℕ → List ℕ
group_text [] ns = []
group_text (k ∷ ks) [] = []
group_text (k ∷ ks) (n ∷ ns) = line k.name (decimal n) ++ group_text ks ns

-- one after the other, all of the same keys
abbrev pub groups_text : List Key → List (List ℕ) → List ℕ
groups_text ks [] = []
groups_text ks (g ∷ gs) = group_text ks g ++ groups_text ks gs

-- ---- as they are read

-- what a text begins with, and what follows it; or it is missing there
pub data Got (A : Type 0) : Type 0 where
  got : A → (rest : List ℕ) → Got A
  missing : Got A

-- what comes after it
abbrev pub and_then : {A B : Type 0} → Got A → (A → List ℕ → Got B) → Got B
and_then (got a rest) next = next a rest
and_then missing next = missing

-- it is all of the text: nothing follows it
abbrev pub whole : {A : Type 0} → Got A → Got A
whole (got a []) = got a []
whole (got a (b ∷ rest)) = missing
whole missing = missing

-- a line with a value
unfoldable pub value_line : (key : List ℕ) → List ℕ → Got (List ℕ)
value_line key t = cond (has_line key t) (got (line_value key t) (drop (suc (line_length t)) t)) missing

-- a line with a number
unfoldable pub number_line : Key → List ℕ → Got ℕ
number_line k t =
    let n = field_in k.name k.most t in
    cond (is_number n) (got (value_in n) (drop (suc (line_length t)) t)) missing

-- what is told of a reading: the thing that the text begins with, and then what follows it is left; or it is missing, and nothing is read
abbrev pub Reads : {A : Type 0} → Got A → Option A → (before after : Lines) → Type 0
Reads g r before after = MatchOption r ((g ≡ missing) × (after ≡ before)) (λ a. g ≡ got a after.rest.now)

-- a group
unfoldable pub group_in : List Key → List ℕ → Got (List ℕ)
group_in [] t = got [] t
group_in (k ∷ ks) t = and_then (number_line k t) (λ n t. and_then (group_in ks t) (λ ns t. got (n ∷ ns) t))

-- so many of them
unfoldable pub groups_in : List Key → (count : ℕ) → List ℕ → Got (List (List ℕ))
groups_in ks zero t = got [] t
groups_in ks (suc n) t = and_then (group_in ks t) (λ g t. and_then (groups_in ks n t) (λ gs t. got (g ∷ gs) t))
