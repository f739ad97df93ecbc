-- A table of the lane as a loop puts it, row by row, and one that was read as rows.
use mathlib.Core.Path.{◌≡◌, refl, ap, ◌∙◌}
use mathlib.Core.Bool.{Bool, true, false}
use mathlib.Core.List.{List, [], map}
use Prim.Native.Nat.{ℕ, ◌+◌, ◌≤◌, ◌<◌}
use native.Mathlib.Omega.{arith}
use borrow.Author.Tests.{eqb-true, eqb-false}
use lib.Dec.{eqb}
use lib.ListN.{length, get_or, set, length-set, get_or-map}
use lib.Seq.{get_or-set_same, get_or-set_other}
use Rattle.lane.specs.declared.Row.{Row}
use Rattle.lane.specs.Surface.{row_of}
use Rattle.lane.specs.Layout.{Words, surface_in, codes, table_from, figures_in, records_in}
use Rattle.lane.proofs.checks.Records.{figures_kept, records_kept, table_kept, alike_codes}

-- the row of a code in a table that was read
pub row_read : (table : List (List ℕ)) (code : ℕ) → row_of (map surface_in table) code ≡ surface_in (get_or table code [])
unfolding row_of
row_read table code = get_or-map surface_in table code []

-- The lane l₀ has come to l: of the table from row `first` on, the rows of the codes below `code` are those of the source; the other table, from
-- row `other` on, is as it was.
pub record Put (first other : ℕ) (source : ℕ → Row) (l₀ l : Words) (code : ℕ) : Type 0 where
  pub long : length l ≡ 89
  pub within : code ≤ 8
  pub figures : figures_in l ≡ figures_in l₀
  pub records : records_in l ≡ records_in l₀
  pub other_table : table_from other l ≡ table_from other l₀
  pub put : (k : ℕ) → k < code → surface_in (get_or l (first + k) []) ≡ source k

pub put_start : (first other : ℕ) (source : ℕ → Row) (l₀ : Words) → length l₀ ≡ 89 → Put first other source l₀ l₀ 0
put_start first other source l₀ long =
    record { long = long; within = omega arith; figures = refl; records = refl; other_table = refl; put = λ k h. absurd (omega arith) }

module _ {first other : ℕ} {source : ℕ → Row} {l₀ l : Words} {code : ℕ} (p : Put first other source l₀ l code) where
  pub put_next : code < 8 → 0 < first → first + 8 ≤ 25 → ((k : ℕ) → k < 8 → ¬ (other + k ≡ first + code)) → (m : Words) (w : List ℕ)
      → m ≡ set l (first + code) w → surface_in w ≡ source code → Put first other source l₀ m (code + 1)
  put_next h low high apart m w stored e =
      rw stored
      (record {
        long = length-set l (first + code) w ∙ p.long;
        within = omega arith;
        figures = figures_kept l (first + code) w (omega arith) ∙ p.figures;
        records = records_kept l (first + code) w (omega arith) ∙ p.records;
        other_table = table_kept l (first + code) w other apart ∙ p.other_table;
        put = λ k below. by_place k below (eqb k code) refl;
      })
    where
      by_place : (k : ℕ) → k < code + 1 → (b : Bool) → eqb k code ≡ b → surface_in (get_or (set l (first + code) w) (first + k) []) ≡ source k
      by_place k below true q =
          rw (eqb-true k code q) (ap surface_in (get_or-set_same l (first + code) w [] (omega (arith, p.long))) ∙ e)
      by_place k below false q =
          let other_place : ¬ (first + k ≡ first + code) = λ z. eqb-false k code q (omega arith) in
          ap surface_in (get_or-set_other l (first + code) (first + k) w [] other_place) ∙ p.put k (omega (arith, eqb-false k code q))

  pub put_all : 8 ≤ code → table_from first l ≡ map source codes
  unfolding table_from
  put_all h = alike_codes _ source λ k below. p.put k (omega (arith, below, p.within))
