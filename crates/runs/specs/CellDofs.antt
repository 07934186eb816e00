-- The dim of a cell is that of its kind; and the DOFs of a cell in the DOF list of a planning that is accepted: as many as its dim, each below the count.
-- Assumes nothing.
use Rattle.std.specs.Prelude.{ℕ, ◌<◌, ◌≡◌, refl, true, false, List, eqb}
use Rattle.std.proofs.Common.{arith, ⊎_elim}
use Rattle.std.proofs.Math.ListN.{length, get_or}
use borrow.Author.Tests.{lt-ltb, eqb-true, ne_eqb}
use Rattle.lists.specs.Bool.{every_at}
use Rattle.lists.specs.Bounded.{all_of}
use Rattle.numbers.specs.Ranges.{all_below}
use Rattle.grid.specs.Mesh.{kind, cells_of, kinds_match}
use Rattle.grid.specs.KindsFacts.{Kinded, kinded, kind_present}
use Rattle.grid.specs.CellsFacts.{length_part, part_each}
use Rattle.function.specs.declared.Elements.{Elements}
use Rattle.function.specs.Elements.{cell_dim}
use Rattle.dof_numbering.specs.Numbering.{dof_list, dof_count}
use Rattle.plans.specs.declared.PlanNumbers.{PlanNumbers}
use Rattle.plans.specs.Planning.{Planning, Lists, space_on}
use Rattle.plans.specs.Accepted.{Accepted, Fits, dofs_long, dofs_below_holds}
use Rattle.runs.specs.Runs.{cell_dofs, kind_dim}

-- where the kind list matches the numbers, the kind of a cell has cells
pub kind_dim_lem : (n : PlanNumbers) (ks : List ℕ) → kinds_match n.cells n.triangles n.quads ks ≡ true → (i : ℕ) → i < n.cells → (es : Elements)
    → kind_dim n es (get_or ks i 0) ≡ cell_dim es (get_or ks i 0)
unfolding kinds_match
kind_dim_lem n ks match i below es =
    ⊎_elim (λ e. rw e (rw (some 3 (eqb-true n.triangles _ (every_at _ match 1)) e) refl)) (λ e. rw e (rw (some 4 (eqb-true n.quads _ (every_at _ match 2)) e) refl))
    (known.each i below)
  where
    known : Kinded n.cells ks
    known = kinded _ _ (every_at _ match 0)

    some : {count : ℕ} (k : ℕ) → count ≡ cells_of ks k → get_or ks i 0 ≡ k → eqb count 0 ≡ false
    some {count} k e here = ne_eqb count 0 (λ z. omega (arith, e, kind_present ks k i (omega (arith, known.long)) here))

module _ {x : Planning} {l : Lists} (ok : Accepted x l) (es : Elements) (fits : Fits x.mesh es) where
  abbrev C : ℕ
  C = x.mesh.cells

  abbrev list : List ℕ
  list = dof_list (space_on x.mesh es) C

  abbrev count : ℕ
  count = dof_count (space_on x.mesh es) C

  -- the DOFs of cell i
  abbrev dofs : ℕ → List ℕ
  dofs i = cell_dofs x.mesh.kinds es list i

  pub cell_long : (i : ℕ) → i < C → length (dofs i) ≡ cell_dim es (kind x.mesh i)
  cell_long i h = length_part (cell_dim es) x.mesh.kinds list C i (dofs_long ok es fits) h

  pub cell_below : (i : ℕ) → all_below (dofs i) count ≡ true
  unfolding all_below
  cell_below i = all_of (length (dofs i)) _ (λ k h. lt-ltb _ _ (part_each (λ n. n < count) (cell_dim es) x.mesh.kinds list below i k h))
    where
      below : (k : ℕ) → k < length list → get_or list k 0 < count
      below k h = dofs_below_holds ok es fits k (omega (arith, dofs_long ok es fits))
