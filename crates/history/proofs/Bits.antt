-- A word of which no bit from n on is set is below 2 to the n.
use mathlib.Core.Path.{◌≡◌, ap, ◌∙◌}
use mathlib.Core.Bool.{false}
use Prim.Native.Nat.{ℕ, zero, suc, ◌/◌, ◌%◌, ◌^◌, ◌≤◌, ◌<◌}
use native.Mathlib.Nat.{pow-suc, div-one, div-div-eq-div-mul, mul_comm}
use native.Mathlib.Omega.{arith}
use borrow.Author.Tests.{eqb-false}
use Rattle.history.specs.Claims.{is_replaced}

-- the bits of half a word are those from the second on
halved : (word i : ℕ) → is_replaced (word / 2) i ≡ is_replaced word (suc i)
halved word i = rw (pow-suc 2 i, mul_comm (2 ^ i) 2, ← div-div-eq-div-mul word 2 (2 ^ i))

lowest_unset : (word : ℕ) → is_replaced word 0 ≡ false → ¬ (word % 2 ≡ 1)
lowest_unset word e f = eqb-false (word / 1 % 2) 1 e (ap (λ (w : ℕ). w % 2) (div-one word) ∙ f)

none_set : (most word : ℕ) → word ≤ most → ((i : ℕ) → is_replaced word i ≡ false) → word ≡ 0
none_set zero word h e = omega arith
none_set (suc most) word h e =
    let half : word / 2 ≡ 0 = none_set most (word / 2) (omega arith) (λ i. halved word i ∙ e (suc i)) in
    omega (arith, lowest_unset word (e 0))

pub below_power : (n word : ℕ) → ((i : ℕ) → n ≤ i → is_replaced word i ≡ false) → word < 2 ^ n
below_power zero word e = rw (none_set word word (omega arith) (λ i. e i (omega arith))) (omega arith)
below_power (suc n) word e =
    let half : word / 2 < 2 ^ n = below_power n (word / 2) (λ i h. halved word i ∙ e (suc i) (omega arith)) in
    rw (pow-suc 2 n) (omega arith)
