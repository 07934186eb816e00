-- What the calls of `write_plan` ask, from what planning's checks have found, and what they come to. Assumes nothing.
use Rattle.std.specs.Prelude.{ℕ, zero, suc, ◌*◌, ◌≤◌, ◌≡◌, true, List, ◌++◌, length, drop}
use Rattle.std.proofs.Common.{arith, ◌∙◌, eqb-true}
use Rattle.std.proofs.Math.Path.{refl}
use Rattle.lists.specs.Bool.{every_at}
use Rattle.numbers.specs.Ranges.{within_high}
use Rattle.grid.specs.Mesh.{most_cells, Mesh, corners, sizes_of, cells_of}
use Rattle.grid.specs.Facts.{vertices_shaped, edges_shaped}
use Rattle.function.specs.declared.Elements.{Elements}
use Rattle.function.specs.Elements.{Space}
use Rattle.dof_numbering.specs.Numbering.{dof_list, dof_count, owner_list}
use Rattle.dof_numbering.specs.Walk.{Sized}
use Rattle.function.specs.Colours.{colour_list, colour_count, Colourable}
use Rattle.function.proofs.ColoursPromises.{count_at_most}
use Rattle.cell_pairs.specs.Records.{flat}
use Rattle.cell_pairs.specs.WorkList.{most_batch, work_list}
use Rattle.plans.specs.declared.PlanNumbers.{PlanNumbers}
use Rattle.plans.specs.declared.KindPairs.{KindPairs}
use Rattle.plans.specs.Planning.{ready, refused, lists_of, plan_refusal, plan, plan_answer, plan_lists, unless_refused, Planning, Lists, places_on, space_on, test_space, trial_space, batch_right, lengths_right, plan_numbers, written_lists}
use Rattle.plans.specs.Accepted.{Accepted, counted, mesh_fine, Fits, cell_dims, filled}
use Rattle.planning.specs.Facts.{kinds_few, vertices_below, edges_below}
use Rattle.planning.specs.Work.{Ready as WorkReady, Written}

-- 8, by its parts
pub record Lengths (m : Mesh) (test trial : Elements) (l : Lists) : Type 0 where
  pub test_dofs : length l.test_dofs ≡ places_on m test
  pub trial_dofs : length l.trial_dofs ≡ places_on m trial
  pub test_colours : length l.test_colours ≡ m.cells
  pub trial_colours : length l.trial_colours ≡ m.cells
  pub test_owners : length l.test_owners ≡ 3 * places_on m test
  pub trial_owners : length l.trial_owners ≡ 3 * places_on m trial
  pub work : length l.work ≡ 3 * (m.cells * m.cells)

pub lengths : (m : Mesh) (test trial : Elements) (l : Lists) → lengths_right m test trial l ≡ true → Lengths m test trial l
unfolding lengths_right
lengths m test trial l h =
    record {
      test_dofs = eqb-true _ _ (every_at _ h 0);
      trial_dofs = eqb-true _ _ (every_at _ h 1);
      test_colours = eqb-true _ _ (every_at _ h 2);
      trial_colours = eqb-true _ _ (every_at _ h 3);
      test_owners = eqb-true _ _ (every_at _ h 4);
      trial_owners = eqb-true _ _ (every_at _ h 5);
      work = eqb-true _ _ (every_at _ h 6);
    }

-- the three lists of one side, the tail of the owner list past the last record as it was, and how many DOFs and colours there are
pub record SideWritten (s : Space) (C : ℕ) (before ds os cs : List ℕ) (n k : ℕ) : Type 0 where
  pub dofs : ds ≡ dof_list s C
  pub owners : os ≡ owner_list s C ++ drop (3 * dof_count s C) before
  pub colours : cs ≡ colour_list s C
  pub dof_total : n ≡ dof_count s C
  pub colour_total : k ≡ colour_count (colour_list s C)

module _ {x : Planning} {l : Lists} (ok : Accepted x l) where
  abbrev C : ℕ
  C = x.mesh.cells

  pub lens : Lengths x.mesh x.test x.trial l
  lens = lengths x.mesh x.test x.trial l ok.lengths

  -- what writing one side asks
  module _ (es : Elements) (right : Fits x.mesh es) where
    pub sized : Sized (space_on x.mesh es) C
    sized =
        let m = mesh_fine ok in
        record {
          few = m.few_cells;
          filled = filled ok es right;
          small = λ i h. within_high _ _ _ (cell_dims ok es right i h);
          vertices_below = λ p h. omega (arith, m.vertex_below p h, m.few_vertices);
          edges_below = λ p h. omega (arith, m.edge_below p h, m.few_edges);
        }

  pub colourable : (colours : List ℕ) → length colours ≡ C → Colourable (sizes_of C x.mesh.vertices x.mesh.edges) x.mesh.kinds x.mesh.cell_vertices x.mesh.cell_edges colours
  colourable colours e =
      let m = mesh_fine ok in
      record {
        cells = m.few_cells;
        few_vertices_holds = m.few_vertices;
        few_edges_holds = m.few_edges;
        kind_list = m.kinds_long;
        vertex_list_holds = vertices_shaped x.mesh m;
        edge_list_holds = edges_shaped x.mesh m;
        vertices_below = vertices_below m;
        edges_below = edges_below m;
        places = e;
      }

  -- what the work list asks
  pub work_ready : {B tn rn td rd : ℕ} {ts rs d d' o o' b b' : List ℕ} (work : List ℕ) → B ≡ x.batch → SideWritten (test_space x) C b d o ts td tn → SideWritten (trial_space x) C b' d' o' rs rd rn
      → length work ≡ 3 * (C * C) → WorkReady x.mesh B ts tn rs rn work
  unfolding batch_right corners
  work_ready work b t r long =
      let m = mesh_fine ok in
      rw (b, t.colours, r.colours)
      (record {
        counts = counted ok;
        shaped = vertices_shaped x.mesh m;
        long = m.kinds_long;
        below = m.vertex_below;
        apart = m.apart;
        patterns = ok.patterns;
        cells = m.few_cells;
        top = m.few_vertices;
        batch = omega (arith, within_high 1 most_batch x.batch ok.batch);
        test = t.colour_total;
        trial = r.colour_total;
        test_few_holds = omega (arith, t.colour_total, count_at_most (test_space x) C, m.few_cells);
        trial_few_holds = omega (arith, r.colour_total, count_at_most (trial_space x) C, m.few_cells);
        room = long;
      })

  -- the kinds, counted
  pub kind_counts : (length x.mesh.kinds ≤ most_cells) × (cells_of x.mesh.kinds 3 ≤ most_cells) × (cells_of x.mesh.kinds 4 ≤ most_cells)
  kind_counts = kinds_few x.mesh (mesh_fine ok)

  -- ---- with the numbers and lists that the code has in hand

  module _ {B distant touching : ℕ} {pairs : KindPairs} {ts rs work : List ℕ} (w : Written x.mesh B ts rs work distant touching pairs) where
    pub numbers_are : {triangles quads rows columns : ℕ} → triangles ≡ cells_of x.mesh.kinds 3 → quads ≡ cells_of x.mesh.kinds 4
        → rows ≡ dof_count (test_space x) C → columns ≡ dof_count (trial_space x) C
        → record {
          cells = C;
          vertices = x.mesh.vertices;
          edges = x.mesh.edges;
          triangles = triangles;
          quads = quads;
          touching = touching;
          distant = distant;
          pairs = pairs;
          rows = rows;
          columns = columns;
          test = x.test;
          trial = x.trial;
          integrand = x.integrand;
        } ≡ plan_numbers x
    unfolding plan_numbers
    numbers_are t q r k = rw (w.far, w.near, w.kinds, t, q, r, k)

    pub lists_are : {td rd to ro : List ℕ} {tn rn tc rc : ℕ} → B ≡ x.batch → SideWritten (test_space x) C l.test_owners td to ts tn tc
        → SideWritten (trial_space x) C l.trial_owners rd ro rs rn rc → lists_of td rd ts rs to ro work ≡ written_lists x l
    unfolding written_lists
    lists_are b t r =
        let work_is : work ≡ flat (work_list x.mesh x.batch (colour_list (test_space x) C) (colour_list (trial_space x) C)) =
        w.list ∙ rw (t.colours, r.colours, b) refl in
        rw (t.dofs, r.dofs, t.colours, r.colours, t.owners, r.owners, work_is)

-- ---- the two ways the call ends

pub plan_refused : (x : Planning) (l : Lists) (v : ℕ) → v ≡ plan_refusal x l → (v ≡ 0 → ⊥) → (refused v ≡ plan x l) × (l ≡ plan_lists x l)
unfolding plan plan_lists
plan_refused x l v e h = rw (← e) (go v h)
  where
    go : (v : ℕ) → (v ≡ 0 → ⊥) → (refused v ≡ plan_answer v (plan_numbers x)) × (l ≡ unless_refused v (written_lists x l) l)
    go zero h = absurd (h refl)
    go (suc v) h = (refl, refl)

pub plan_ready : (x : Planning) (l : Lists) {l' : Lists} {r : PlanNumbers} → 0 ≡ plan_refusal x l → r ≡ plan_numbers x → l' ≡ written_lists x l
    → (ready r ≡ plan x l) × (l' ≡ plan_lists x l)
unfolding plan plan_lists
plan_ready x l e n w = rw (← e, n, w) (refl, refl)
