-- `triangle_patterns::place_of` meets its contract: each return has the tests that led there. Assumes nothing.
use native.Mathlib.Nat.{add-zero}
use borrow.Author.Tests.{eq-eqb, ne_eqb}
use Rattle.cell_pairs.specs.MatchesFacts.{first_of}
use Rattle.triangle_patterns.proofs.place_of.Goals as goal

pub returns-then-rows-at : goal.returns-then-rows-at
unfolding first_of
returns-then-rows-at c = simp (add-zero, eq-eqb _ _ c.if-rows-at.true)

pub returns-then-rows-at-2 : goal.returns-then-rows-at-2
unfolding first_of
returns-then-rows-at-2 c = simp (add-zero, ne_eqb _ _ c.if-rows-at.false, eq-eqb _ _ c.if-rows-at-2.true)

pub returns-then-rows-at-3 : goal.returns-then-rows-at-3
unfolding first_of
returns-then-rows-at-3 c = simp (add-zero, ne_eqb _ _ c.if-rows-at.false, ne_eqb _ _ c.if-rows-at-2.false, eq-eqb _ _ c.if-rows-at-3.true)

pub returns : goal.returns
unfolding first_of
returns c = simp (add-zero, ne_eqb _ _ c.if-rows-at.false, ne_eqb _ _ c.if-rows-at-2.false, ne_eqb _ _ c.if-rows-at-3.false)
