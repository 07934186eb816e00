-- The proofs to `specs/CasesProperty.antt`. Assumes nothing.
use Rattle.std.specs.Prelude.{ℕ, ◌≡◌, refl, true}
use Rattle.std.proofs.Common.{sym, ap, ◌∙◌}
use Rattle.grid.specs.Mesh.{Mesh, corners, vertex_places, vertices_right}
use Rattle.cell_pairs.specs.Matches.{matches, pattern_of}
use Rattle.cell_pairs.specs.Patterns.{pair_pattern}
use Rattle.cell_pairs.specs.Cases.{can_be, Triangle}
use Rattle.cell_pairs.proofs.CasesFacts.{case_number, case_can_be, case_formula, case_occurs, can_be_case, three_at, mesh_counts, mesh_can_be}
use Rattle.cell_pairs.proofs.TableFacts.{case_in_table}
use Rattle.cell_pairs.specs.CasesProperty.{CasesProperty}

-- the pattern of two triangles that share one or two vertices is the formula's number
formula_number_lem : (m : Mesh) → vertex_places m ≡ true → vertices_right m ≡ true → (i j : ℕ) → Triangle m i → Triangle m j → can_be (matches (corners m i) (corners m j)) ≡ true
    → pair_pattern m i j ≡ pattern_of (matches (corners m i) (corners m j))
formula_number_lem m p e i j hi hj c = rw (three_at m p e i j hi hj i hi, three_at m p e i j hi hj j hj) (case_in_table _ c)

pub cases_property : CasesProperty
cases_property =
    record {
      many = refl;
      numbers = case_number;
      all = λ ms e. let f = can_be_case ms e in (pattern_of ms, f.0, f.1);
      no_other = case_can_be;
      once = λ k l hk hl e. sym (case_formula k hk) ∙ ap pattern_of e ∙ case_formula l hl;
      formula = λ k h. case_number k h ∙ sym (case_formula k h);
      counted = mesh_counts;
      meshes = λ m p e i j hi hj s.
          let c = mesh_can_be m p e i j hi hj s in
          let f = can_be_case (matches (corners m i) (corners m j)) c in
          let n = formula_number_lem m p e i j hi hj c in
          (c, rw n f.0, rw n f.1, n);
      occurs = case_occurs;
    }
