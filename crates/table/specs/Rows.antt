-- A lent table: row i, point p, basis f stands at i + D(p + P·f). Assumes nothing.
use Rattle.std.specs.Prelude.{ℕ, ◌+◌, ◌*◌, ◌<◌, ◌≤◌, List, length, get_or, Float}
use Rattle.std.specs.Float.{nan}
use Rattle.lists.specs.Places.{in_table}

-- row i of basis b at point p, of a table with D rows and P points
abbrev pub table_row : List Float → ℕ → ℕ → ℕ → ℕ → ℕ → Float
table_row table D P p b i = get_or table (i + D * (p + P * b)) nan

-- p is one of P points, and the table reaches past basis b
pub record Reach (D P p b : ℕ) (table : List Float) : Type 0 where
  pub point : p < P
  pub rows : 1 ≤ D
  pub reach : D * (P * (b + 1)) ≤ length table

-- where a row is read
pub reach_place : {D P p b : ℕ} {table : List Float} → Reach D P p b table
    → (P * b ≤ length table) × (p + P * b ≤ length table) × (D * (p + P * b) + D ≤ length table)
reach_place {D} {P} {p} {b} h = in_table b h.point h.rows h.reach
