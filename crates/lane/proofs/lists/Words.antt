-- The word made of flags, place 0 in the lowest bit.
use mathlib.Core.Path.{◌≡◌, refl, ap, ap₂, ◌∙◌}
use mathlib.Core.Bool.{Bool, true, false}
use mathlib.Core.List.{List, [], ◌∷◌, ◌++◌}
use Prim.Native.Nat.{ℕ, zero, suc, ◌+◌, ◌*◌, ◌/◌, ◌%◌, ◌^◌, ◌<◌}
use native.Mathlib.Nat.{mod-eq_of_lt, pow-suc, div-one, zero-div, div-div-eq-div-mul, mul_comm}
use native.Mathlib.Omega.{arith}
use lib.Arith.{digits_div, digits_mod}
use lib.Bits.{bit_or, or_shifted_r}
use lib.Count.{ones, ones_step}
use lib.ListN.{length, get_or}
use lib.Pow.{pow-lt}
use Rattle.lane.specs.Wishes.{bit, word_of, count_of}

bit_lt : (t : Bool) → bit t < 2
bit_lt true = omega arith
bit_lt false = omega arith

pub word_none : ◌≡◌ {A = ℕ} 0 (word_of [])
unfolding word_of
word_none = refl

pub word_lt : (ts : List Bool) → word_of ts < 2 ^ length ts
unfolding word_of
word_lt [] = omega arith
word_lt (t ∷ ts) = omega (arith, word_lt ts, bit_lt t, pow-suc 2 (length ts))

-- one flag more sets one bit more
pub word_snoc : (ts : List Bool) (t : Bool) → word_of (ts ++ (t ∷ [])) ≡ word_of ts + bit t * 2 ^ length ts
unfolding word_of
word_snoc [] t = omega arith
word_snoc (s ∷ ts) t = rw (pow-suc 2 (length ts)) (omega (arith, word_snoc ts t))

-- what `|` and a shift make of it
pub bit_set_is : (word i : ℕ) → i < 64 → word < 2 ^ i → bit_or word (1 * 2 ^ i % 2 ^ 64) ≡ word + bit true * 2 ^ i
bit_set_is word i h k =
    let small : 1 * 2 ^ i % 2 ^ 64 ≡ 1 * 2 ^ i = mod-eq_of_lt (omega (arith, pow-lt {i = i} {j = 64} h)) in
    rw (small, or_shifted_r 1 i word k) (omega arith)

-- the lowest bit, and the rest
pub low : (t : Bool) (w : ℕ) → (bit t + 2 * w) % 2 ≡ bit t
low t w = ap (λ (n : ℕ). n % 2) (omega arith) ∙ digits_mod w (bit_lt t)

pub rest : (t : Bool) (w : ℕ) → (bit t + 2 * w) / 2 ≡ w
rest t w = ap (λ (n : ℕ). n / 2) (omega arith) ∙ digits_div w (bit_lt t)

-- bit i of the word is flag i; past the flags no bit is set
pub word_bit : (ts : List Bool) (i : ℕ) → word_of ts / 2 ^ i % 2 ≡ bit (get_or ts i false)
unfolding word_of
word_bit [] i = rw (zero-div (2 ^ i)) refl
word_bit (t ∷ ts) zero = rw (div-one (bit t + 2 * word_of ts)) (low t (word_of ts))
word_bit (t ∷ ts) (suc i) =
    rw (pow-suc 2 i, mul_comm (2 ^ i) 2, ← div-div-eq-div-mul (bit t + 2 * word_of ts) 2 (2 ^ i), rest t (word_of ts)) (word_bit ts i)

-- the word has as many ones as there are flags set
pub word_ones : (ts : List Bool) → ones (word_of ts) ≡ count_of ts
unfolding word_of count_of ones
word_ones [] = refl
word_ones (t ∷ ts) =
    ones_step (bit t + 2 * word_of ts) ∙ ap₂ ◌+◌ (low t (word_of ts)) (ap ones (rest t (word_of ts)) ∙ word_ones ts)
