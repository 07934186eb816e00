-- The proofs to `specs/Promises.antt`. Assumes nothing.
use Rattle.std.specs.Prelude.{ℕ, zero, suc, ◌+◌, ◌*◌, ◌<◌, ◌≡◌, refl, List, ◌++◌, length, get_or, drop}
use Rattle.std.proofs.Common.{arith, ap, ◌∙◌, drop_at}
use Rattle.std.proofs.Math.ListN.{get_or-append}
use Rattle.lists.specs.Total.{count}
use Rattle.grid.specs.Cells.{before, part, own}
use Rattle.grid.specs.Facts.{vertices_differ, edges_differ, sides_length}
use Rattle.grid.specs.KindsFacts.{kinded, kinds_sum}
use Rattle.function.specs.declared.Elements.{Elements}
use Rattle.function.specs.Elements.{Space}
use Rattle.dof_numbering.specs.Numbering.{visits, dofs_on, dof_list, dof_count, owner_list, kind, visits_in, visit_of, dof_place}
use Rattle.dof_numbering.specs.Promises.{Distinct}
use Rattle.dof_numbering.proofs.Promises.{dof_list_length, dof_below, dof_count_le, number_written, cell_numbers_differ, shared_numbers, number_below, owner_names, owner_list_length}
use Rattle.function.specs.Colours.{colour_list}
use Rattle.function.proofs.ColoursPromises.{colours_long, sharing_differ}
use Rattle.cell_pairs.specs.Records.{width, flat}
use Rattle.cell_pairs.specs.RecordsFacts.{length_flat, records_flat}
use Rattle.cell_pairs.specs.WorkList.{distant_pairs}
use Rattle.cell_pairs.specs.WorkRecords.{of_pair}
use Rattle.cell_pairs.proofs.Counting.{once, split, kinds_split, length_work, record_distant, record_touching}
use Rattle.grid.specs.Mesh.{corners, sides}
use Rattle.plans.specs.declared.PlanNumbers.{PlanNumbers}
use Rattle.plans.specs.Planning.{ready, refused, Planning, Lists, plan_refusal, plan_answer, unless_refused, space_on, work_records, plan_numbers, plan, plan_lists, written_lists}
use Rattle.plans.specs.Accepted.{Accepted, accepted, counted, mesh_fine, Fits, test_fits, trial_fits, filled, matched, ready_is}
use Rattle.plans.specs.Promises.{Listed, Promised, Spaced}

-- ---- proofs

module _ {x : Planning} {l : Lists} (ok : Accepted x l) where
  abbrev C : ℕ
  C = x.mesh.cells

  listed : Listed x.mesh (distant_pairs x.mesh) (flat (work_records x))
  listed =
      let h = counted ok in
      let long = length_work x.mesh x.batch _ _ h in
      record {
        long = length_flat (work_records x) ∙ ap (λ (n : ℕ). width * n) long;
        records_long = ap length (records_flat (work_records x)) ∙ long;
        each_once = λ i j hi hj. ap (count (of_pair i j)) (records_flat (work_records x)) ∙ once x.mesh x.batch _ _ h i j hi hj;
        distant = λ k b. rw (records_flat (work_records x)) (record_distant x.mesh x.batch _ _ h k b);
        touching = λ k a b. rw (records_flat (work_records x)) (record_touching x.mesh x.batch _ _ h k a b);
      }

  -- the vertices of a cell differ, and so do its edges
  corners_differ : (i : ℕ) → i < C → Distinct (part own x.mesh.kinds x.mesh.cell_vertices i)
  unfolding corners
  corners_differ i h = vertices_differ (corners x.mesh i) ((mesh_fine ok).apart i h)

  sides_differ : (i : ℕ) → i < C → Distinct (part own x.mesh.kinds x.mesh.cell_edges i)
  unfolding sides
  sides_differ i h p q hp hq =
      let m = mesh_fine ok in
      let n = sides_length x.mesh m i h in
      edges_differ x.mesh m i h p q (omega (arith, n)) (omega (arith, n))

  spaced : (e : Elements) (right : Fits x.mesh e) (before : List ℕ)
      → (let s = space_on x.mesh e in Spaced s C (dof_count s C) (dof_list s C) (colour_list s C) (owner_list s C ++ drop (3 * dof_count s C) before) before)
  spaced e right before =
      let s : Space = space_on x.mesh e in
      let f = filled ok e right in
      let m = matched ok e right in
      record {
        dofs_long = dof_list_length s C f;
        dofs_below_holds = dof_below s C f m;
        dofs_few = dof_count_le s C f;
        dofs_used = number_written s C f;
        dofs_differ = λ i a b hi ha hb. cell_numbers_differ s C i f m hi (corners_differ i hi) (sides_differ i hi) a b ha hb;
        dofs_shared = shared_numbers s C f m;
        owners_named = λ i p q d hi hp hq hd.
            get_or-append (owner_list s C) (drop (3 * dof_count s C) before) 0 (3 * get_or (dof_list s C) (dof_place s i p + q) 0 + d) (owner_inside e right i p q d hi hp hq hd)
            ∙ owner_names s C f i p q hi hp hq m d hd;
        owners_tail = drop_at (owner_list s C) (drop (3 * dof_count s C) before) (3 * dof_count s C) (owner_list_length s C);
        colours_long = colours_long s C;
        colours_differ = sharing_differ s C;
      }
    where
      owner_inside : (e : Elements) (right : Fits x.mesh e) (i p q d : ℕ) → (let s = space_on x.mesh e in i < C → p < visits_in (kind s i) → q < dofs_on (visits s C) (visit_of s i p) → d < 3
          → 3 * get_or (dof_list s C) (dof_place s i p + q) 0 + d < length (owner_list s C))
      owner_inside e right i p q d hi hp hq hd = let s : Space = space_on x.mesh e in omega (arith, owner_list_length s C, number_below s C (filled ok e right) i p q hi hp hq (matched ok e right))

-- so it is wherever planning answers with numbers
pub promised : (x : Planning) (l : Lists) (n : PlanNumbers) → plan x l ≡ ready n → Promised x l n
unfolding plan_lists written_lists plan_numbers
promised x l n e =
    let r = ready_is e in
    let ok : Accepted x l = accepted x l r.none in
    rw r.numbers
    (record {
      sizes = (refl, refl, refl);
      elements = (refl, refl);
      integrand = refl;
      triangles = refl;
      quads = refl;
      all_cells = kinds_sum x.mesh.cells x.mesh.kinds (kinded x.mesh.cells x.mesh.kinds ok.kinds);
      touching = refl;
      distant = refl;
      pairs = refl;
      pairs_sum = kinds_split x.mesh (kinded x.mesh.cells x.mesh.kinds ok.kinds);
      all_pairs = split x.mesh;
      order = rw r.none (records_flat (work_records x));
      work = rw r.none (listed ok);
      test = rw r.none (spaced ok x.test (test_fits ok) l.test_owners);
      trial = rw r.none (spaced ok x.trial (trial_fits ok) l.trial_owners);
    })

-- a refused planning changes nothing
pub refused_keeps : (x : Planning) (l : Lists) (n : ℕ) → plan x l ≡ refused n → plan_lists x l ≡ l
unfolding plan plan_lists
refused_keeps x l n e = go (plan_refusal x l) e
  where
    go : (v : ℕ) → plan_answer v (plan_numbers x) ≡ refused n → unless_refused v (written_lists x l) l ≡ l
    go zero e = absurd (let z : ◌≡◌ {A = ℕ} 0 1 = cc in omega arith)
    go (suc v) e = refl
