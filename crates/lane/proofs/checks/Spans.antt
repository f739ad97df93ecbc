-- The lowest and the highest number that pass a test, where those that do are all from one number up to another.
use mathlib.Core.Path.{◌≡◌, refl, sym, ap, ◌∙◌}
use mathlib.Core.Bool.{Bool, true, false, ◌&&◌, cond, true≢false, false≢true}
use mathlib.Core.Logic.{by_cases}
use Prim.Native.Nat.{ℕ, zero, suc, ◌-◌, ◌≤◌, ◌<◌}
use native.Mathlib.Decide.{dec_lt}
use native.Mathlib.Omega.{arith}
use borrow.Author.Tests.{le-leb, lt-leb, lt-ltb, le-ltb, leb-true, ltb-true, eqb-true, eqb-false}
use lib.Dec.{eqb, leb, ltb}
use Rattle.lane.specs.Limits.{positions}
use Rattle.lane.proofs.lists.Passed.{both}
use Rattle.lane.specs.Opening.{lowest_below, highest_below, nowhere, span_of}

-- the first that passes is the lowest,
pub lowest_first : (bound : ℕ) (test : ℕ → Bool) (m : ℕ) → m < bound → test m ≡ true → ((n : ℕ) → n < m → test n ≡ false) → lowest_below bound test ≡ m
unfolding lowest_below
lowest_first zero test m h e before = absurd (omega arith)
lowest_first (suc bound) test zero h e before = rw e refl
lowest_first (suc bound) test (suc m) h e before =
    rw (before 0 (omega arith)) (ap suc (lowest_first bound (λ n. test (suc n)) m (omega arith) e (λ n p. before (suc n) (omega arith))))

-- the last one the highest,
pub highest_last : (bound : ℕ) (test : ℕ → Bool) (m : ℕ) → m < bound → test m ≡ true → ((n : ℕ) → m < n → n < bound → test n ≡ false)
    → highest_below bound test ≡ m
unfolding highest_below
highest_last zero test m h e after = absurd (omega arith)
highest_last (suc bound) test m h e after = by_test (eqb m bound) refl (λ k. highest_last bound test m k e (λ n p q. after n p (omega arith)))
  where
    by_test : (t : Bool) → eqb m bound ≡ t → (m < bound → highest_below bound test ≡ m) → cond (test bound) bound (highest_below bound test) ≡ m
    by_test true q lower = let same = eqb-true m bound q in rw (← same, e) refl
    by_test false q lower =
        let other = eqb-false m bound q in
        rw (after bound (omega (arith, other)) (omega arith)) (lower (omega (arith, other)))

-- and where none passes there is no lowest
pub lowest_none : (bound : ℕ) (test : ℕ → Bool) → ((n : ℕ) → n < bound → test n ≡ false) → lowest_below bound test ≡ bound
unfolding lowest_below
lowest_none zero test none = refl
lowest_none (suc bound) test none = rw (none 0 (omega arith)) (ap suc (lowest_none bound (λ n. test (suc n)) (λ n p. none (suc n) (omega arith))))

-- so where those that pass are the numbers from `low` on that are below `end`, the span is theirs
module _ (test : ℕ → Bool) (low end : ℕ) (h : end ≤ positions) (passes : (p : ℕ) → test p ≡ leb low p && ltb p end) where
  pub span_some : low < end → span_of test ≡ record { exists = true; lowest = low; highest = end - 1 }
  unfolding span_of
  span_some k =
      let first =
      lowest_first positions test low (omega arith) (passes low ∙ rw (le-leb low low (omega arith), lt-ltb low end k) refl)
      (λ n p. passes n ∙ rw (lt-leb low n p) refl) in
      let last =
      highest_last positions test (end - 1) (omega arith) (passes (end - 1) ∙ rw (le-leb low (end - 1) (omega arith), lt-ltb (end - 1) end (omega arith)) refl)
      (λ n p q. passes n ∙ rw (le-leb low n (omega arith), le-ltb n end (omega arith)) refl) in
      rw (first, last, lt-ltb low positions (omega arith)) refl

  pub span_none : end ≤ low → span_of test ≡ nowhere
  unfolding span_of
  span_none k = rw (lowest_none positions test (λ n p. passes n ∙ never n), le-ltb positions positions (omega arith)) refl
    where
      never : (n : ℕ) → leb low n && ltb n end ≡ false
      never n = by_test (leb low n) refl
        where
          by_test : (t : Bool) → leb low n ≡ t → t && ltb n end ≡ false
          by_test true e = le-ltb n end (omega (arith, leb-true low n e))
          by_test false e = refl

  -- between its ends is who passes, and nobody else
  module _ (p : ℕ) where
    passing : test p ≡ true → (low ≤ p) × (p < end)
    passing e = let h = both (leb low p) (ltb p end) (sym (passes p) ∙ e) in (leb-true low p h.0, ltb-true p end h.1)

    pub between_passes : (span_of test).exists ≡ true → (span_of test).lowest ≤ p → p ≤ (span_of test).highest → test p ≡ true
    between_passes there least most =
        by_cases (dec_lt low end)
        (λ k.
        let is = span_some k in
        passes p ∙ rw (le-leb low p (rw is at least), lt-ltb p end (let m = rw is at most in omega (arith, m))) refl)
        (λ k. absurd (false≢true (rw (span_none (omega arith)) at there)))

    pub passes_between : test p ≡ true → ((span_of test).exists ≡ true) × ((span_of test).lowest ≤ p) × (p ≤ (span_of test).highest)
    passes_between e = let h = passing e in rw (span_some (omega (arith, h.0, h.1))) (refl, h.0, omega (arith, h.1))

-- a span is of some numbers, or of none with both ends 0
pub span_ends : (test : ℕ → Bool) (low end : ℕ) → end ≤ positions → ((p : ℕ) → test p ≡ leb low p && ltb p end)
    → ((span_of test).exists ≡ true → (span_of test).lowest ≤ (span_of test).highest)
    × ((span_of test).exists ≡ false → ((span_of test).lowest ≡ 0) × ((span_of test).highest ≡ 0))
span_ends test low end h passes =
    by_cases (dec_lt low end)
    (λ k. rw (span_some test low end h passes k) (λ e. omega arith, λ e. absurd (true≢false e)))
    (λ k. rw (span_none test low end h passes (omega arith)) (λ e. absurd (false≢true e), λ e. (refl, refl)))
