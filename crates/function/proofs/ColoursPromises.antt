-- What is promised of the colours of a mesh. Assumes nothing.
use Rattle.std.specs.Prelude.{ℕ, ◌<◌, ◌≤◌, Bool, true, false, cond, ◌≡◌, length, get_or, ltb, eqb}
use Rattle.std.proofs.Common.{arith, sym, eqb-true, eq-eqb}
use Rattle.std.proofs.Math.Logic.{⊎_elim}
use Rattle.lists.specs.Bounded.{lt_or_le}
use Rattle.grid.specs.Cells.{own, part, share_in}
use Rattle.function.specs.Elements.{Space}
use Rattle.function.specs.Colours.{leading, sharing, colour_list, colour_count}
use Rattle.grid.specs.CellsFacts.{share_turned}
use Rattle.function.specs.ColoursFacts.{length_colours, colour_le, colours_differ, count_le}

pub sharing_sym : (s : Space) (i j : ℕ) → sharing s i j ≡ true → sharing s j i ≡ true
sharing_sym s i j h = go (ltb 0 (leading s).a) (ltb 0 (leading s).b) h
  where
    go : (p q : Bool) → cond p (share_in s.kinds s.cell_vertices) (cond q (share_in s.kinds s.cell_edges) eqb) i j ≡ true → cond p (share_in s.kinds s.cell_vertices) (cond q (share_in s.kinds s.cell_edges) eqb) j i ≡ true
    go true q e = share_turned (part own s.kinds s.cell_vertices i) (part own s.kinds s.cell_vertices j) e
    go false true e = share_turned (part own s.kinds s.cell_edges i) (part own s.kinds s.cell_edges j) e
    go false false e = eq-eqb j i (sym (eqb-true i j e))

module _ (s : Space) (C : ℕ) where
  -- one colour a cell
  pub colours_long : length (colour_list s C) ≡ C
  unfolding colour_list
  colours_long = length_colours (sharing s) C

  -- a cell's colour is at most its number
  pub colour_at_most : (i : ℕ) → i < C → get_or (colour_list s C) i 0 ≤ i
  unfolding colour_list
  colour_at_most i h = colour_le (sharing s) C i h

  -- so it is below the number of cells
  pub colour_below : (i : ℕ) → i < C → get_or (colour_list s C) i 0 < C
  colour_below i h = omega (arith, colour_at_most i h)

  -- there are no more colours than cells
  pub count_at_most : colour_count (colour_list s C) ≤ C
  count_at_most = count_le (colour_list s C) C (λ i h. colour_below i (omega (arith, colours_long)))

  -- two different cells that share an entity of the dimension have different colours
  pub sharing_differ : (i j : ℕ) → i < C → j < C → (i ≡ j → ⊥) → sharing s i j ≡ true → get_or (colour_list s C) i 0 ≡ get_or (colour_list s C) j 0 → ⊥
  unfolding colour_list
  sharing_differ i j hi hj d t e =
      ⊎_elim (λ l. colours_differ (sharing s) C j i hj l (sharing_sym s i j t) (sym e))
      (λ l. colours_differ (sharing s) C i j hi (omega arith) t e)
      (lt_or_le i j)
