-- What holds where planning turns nothing down. Assumes nothing.
use Rattle.std.specs.Prelude.{ℕ, zero, suc, ◌<◌, ◌≤◌, ◌≡◌, refl, length, get_or, true}
use Rattle.std.proofs.Common.{arith, sym, leb-true}
use Rattle.lists.specs.Bool.{and_left, and_right}
use Rattle.lists.specs.Refusals.{refusal_at, answers, accepted as all_pass, ◌then◌}
use Rattle.numbers.specs.Ranges.{within}
use Rattle.grid.specs.Mesh.{Mesh, kind, cells_of, cells_right, kinds_right, vertex_places, vertices_right, edges_right}
use Rattle.grid.specs.Facts.{Fine, fine}
use Rattle.grid.specs.KindsFacts.{Kinded, kinded}
use Rattle.function.specs.declared.Elements.{Elements}
use Rattle.function.specs.Elements.{cell_dim, most_dim, elements_right, dims_right}
use Rattle.function.specs.ElementsFacts.{dim_within, same_vertices_holds, same_edges}
use Rattle.dof_numbering.specs.Numbering.{dof_list, dof_count}
use Rattle.dof_numbering.specs.ByCell.{Filled, Matched}
use Rattle.dof_numbering.proofs.Promises.{dof_list_length, dof_count_le, dof_below}
use Rattle.function.specs.Colours.{colour_list}
use Rattle.function.proofs.ColoursPromises.{colours_long}
use Rattle.integrands.specs.Terms.{integrand_right}
use Rattle.cell_pairs.specs.Patterns.{patterns_right}
use Rattle.cell_pairs.specs.Counting.{Countable}
use Rattle.cell_pairs.proofs.Counting.{countable}
use Rattle.plans.specs.declared.PlanNumbers.{PlanNumbers}
use Rattle.plans.specs.Planning.{ready, Planning, Lists, batch_right, lengths_right, plan_checks, plan_refusal, plan_numbers, plan_answer, plan, places_on, elements_fit, space_on, test_space, trial_space}

pub record Accepted (x : Planning) (l : Lists) : Type 0 where
  pub cells : cells_right x.mesh ≡ true
  pub kinds : kinds_right x.mesh.cells x.mesh.kinds ≡ true
  pub places : vertex_places x.mesh ≡ true
  pub vertices : vertices_right x.mesh ≡ true
  pub edges : edges_right x.mesh ≡ true
  pub dims : elements_fit x ≡ true
  pub batch : batch_right x.batch ≡ true
  pub integrand : integrand_right x.integrand ≡ true
  pub patterns : patterns_right x.mesh ≡ true
  pub lengths : lengths_right x.mesh x.test x.trial l ≡ true

pub accepted : (x : Planning) (l : Lists) → plan_refusal x l ≡ 0 → Accepted x l
unfolding plan_refusal
accepted x l e =
    let passes = refusal_at (plan_checks x l) e refl in
    record {
      cells = passes 0;
      kinds = passes 1;
      places = passes 2;
      vertices = passes 3;
      edges = passes 4;
      dims = passes 5;
      batch = passes 6;
      integrand = passes 7;
      patterns = passes 8;
      lengths = passes 9;
    }

-- planning answers with numbers: nothing turns it down, and they are those of the mesh
pub record Ready (x : Planning) (l : Lists) (n : PlanNumbers) : Type 0 where
  pub none : plan_refusal x l ≡ 0
  pub numbers : n ≡ plan_numbers x

pub ready_is : {x : Planning} {l : Lists} {n : PlanNumbers} → plan x l ≡ ready n → Ready x l n
unfolding plan
ready_is {x} {l} {n} e = go (plan_refusal x l) refl e
  where
    go : (v : ℕ) → plan_refusal x l ≡ v → plan_answer v (plan_numbers x) ≡ ready n → Ready x l n
    go zero z e = record { none = z; numbers = sym (cc) }
    go (suc v) z e = absurd (let z : ◌≡◌ {A = ℕ} 0 1 = cc in omega arith)

-- the counting theorem's hypotheses
pub counted : {x : Planning} {l : Lists} → Accepted x l
    → Countable x.mesh x.batch (colour_list (test_space x) x.mesh.cells) (colour_list (trial_space x) x.mesh.cells)
unfolding batch_right
counted {x} ok =
    countable x.mesh x.batch _ _ ok.kinds ok.places ok.vertices ok.patterns (leb-true 1 x.batch (and_left _ _ ok.batch))
    (colours_long (test_space x) x.mesh.cells) (colours_long (trial_space x) x.mesh.cells)

-- checks 1 to 3 in numbers
pub mesh_fine : {x : Planning} {l : Lists} → Accepted x l → Fine x.mesh
mesh_fine {x} ok = fine x.mesh (sym (answers (ok.cells then ok.kinds then ok.places then ok.vertices then ok.edges then all_pass)))

-- check 4 of the test side and of the trial side
abbrev pub Fits : Mesh → Elements → Type 0
Fits m es = elements_right (cells_of m.kinds 3) (cells_of m.kinds 4) es ≡ true

pub test_fits : {x : Planning} {l : Lists} → Accepted x l → Fits x.mesh x.test
unfolding dims_right
test_fits ok = and_left _ _ ok.dims

pub trial_fits : {x : Planning} {l : Lists} → Accepted x l → Fits x.mesh x.trial
unfolding dims_right
trial_fits {x} ok = and_right (elements_right (cells_of x.mesh.kinds 3) (cells_of x.mesh.kinds 4) x.test) _ ok.dims

-- ---- the DOFs of elements that check 4 passes

module _ {x : Planning} {l : Lists} (ok : Accepted x l) (es : Elements) (right : Fits x.mesh es) where
  abbrev C : ℕ
  C = x.mesh.cells

  known : Kinded C x.mesh.kinds
  known = kinded C x.mesh.kinds ok.kinds

  -- the dim of each cell is from 1 to 10
  pub cell_dims : (i : ℕ) → i < C → within 1 most_dim (cell_dim es (kind x.mesh i)) ≡ true
  cell_dims = dim_within C x.mesh.kinds known es right

  pub filled : Filled (space_on x.mesh es) C
  filled = record { vertices_long = (mesh_fine ok).vertex_places; edges_long = (mesh_fine ok).edge_places }

  pub matched : Matched (space_on x.mesh es) C
  matched = record { vertices = same_vertices_holds C x.mesh.kinds known es right; edges = same_edges C x.mesh.kinds known es right }

  pub dofs_long : length (dof_list (space_on x.mesh es) C) ≡ places_on x.mesh es
  dofs_long = dof_list_length (space_on x.mesh es) C filled

  pub dofs_few : dof_count (space_on x.mesh es) C ≤ places_on x.mesh es
  dofs_few = dof_count_le (space_on x.mesh es) C filled

  pub dofs_below_holds : (k : ℕ) → k < places_on x.mesh es → get_or (dof_list (space_on x.mesh es) C) k 0 < dof_count (space_on x.mesh es) C
  dofs_below_holds k h = dof_below (space_on x.mesh es) C filled matched k h
