-- M4, M5, M7 and M8 of the paper, as `worklist` prints them. Assumes nothing.
use Rattle.std.specs.Prelude.{ℕ, ◌/◌, ◌%◌, ◌≡◌, refl, length, take, replicate}
use Rattle.std.proofs.Common.{ap, ◌∙◌}
use mathlib.Core.List.{List, [], ◌∷◌, ◌++◌, flat_map}
use Rattle.lists.specs.Examples.{Example, example, Holds}
use Rattle.grid.specs.Mesh.{Mesh, triangles}
use Rattle.grid.specs.Examples.{mesh_m, m7_turned, m7_twice}
use Rattle.cell_pairs.specs.Examples.{m7_records_holds}
use Rattle.cell_pairs.proofs.WorkExamples.{m4_records_holds, m5_records_holds}
use Rattle.plans.specs.Planning.{work_records}
use Rattle.plans.specs.Examples.{opened_plans}
use Rattle.job.specs.Examples.{opened_job}
use Rattle.worklist_text.specs.Text.{digits, line_of, refused_line, job_planning, worklist_refusal, worklist}

-- opens the definitions of this crate and of those below it
unfoldable pub opened_worklist_text : Unit {0}
unfolding opened_plans opened_job digits line_of refused_line job_planning worklist_refusal worklist
opened_worklist_text = tt

-- a number as 2 bytes
abbrev bytes : ℕ → List ℕ
bytes n = n / 256 ∷ n % 256 ∷ []

-- the job of a mesh, both elements a = 1
abbrev job_of : Mesh → ℕ → List ℕ
job_of m B =
    let rest : List ℕ =
    1 ∷ bytes m.cells ++ bytes m.vertices ++ bytes m.edges
    ++ 1 ∷ 0 ∷ 0 ∷ 1 ∷ 0 ∷ 0 ∷ bytes B
    ++ flat_map bytes m.cell_vertices ++ flat_map bytes m.cell_edges in
    bytes (length rest / 65536) ++ bytes (length rest % 65536) ++ rest

-- lines of text, as bytes
abbrev 255·2·0 : List ℕ
255·2·0 = 50 ∷ 53 ∷ 53 ∷ 32 ∷ 50 ∷ 32 ∷ 48 ∷ 10 ∷ []

abbrev 255·0·2 : List ℕ
255·0·2 = 50 ∷ 53 ∷ 53 ∷ 32 ∷ 48 ∷ 32 ∷ 50 ∷ 10 ∷ []

abbrev 255·2·1 : List ℕ
255·2·1 = 50 ∷ 53 ∷ 53 ∷ 32 ∷ 50 ∷ 32 ∷ 49 ∷ 10 ∷ []

abbrev 255·1·2 : List ℕ
255·1·2 = 50 ∷ 53 ∷ 53 ∷ 32 ∷ 49 ∷ 32 ∷ 50 ∷ 10 ∷ []

abbrev 11·0·1 : List ℕ
11·0·1 = 49 ∷ 49 ∷ 32 ∷ 48 ∷ 32 ∷ 49 ∷ 10 ∷ []

abbrev 15·1·0 : List ℕ
15·1·0 = 49 ∷ 53 ∷ 32 ∷ 49 ∷ 32 ∷ 48 ∷ 10 ∷ []

abbrev 27·0·0 : List ℕ
27·0·0 = 50 ∷ 55 ∷ 32 ∷ 48 ∷ 32 ∷ 48 ∷ 10 ∷ []

abbrev 27·1·1 : List ℕ
27·1·1 = 50 ∷ 55 ∷ 32 ∷ 49 ∷ 32 ∷ 49 ∷ 10 ∷ []

abbrev 27·2·2 : List ℕ
27·2·2 = 50 ∷ 55 ∷ 32 ∷ 50 ∷ 32 ∷ 50 ∷ 10 ∷ []

abbrev 27·0·1 : List ℕ
27·0·1 = 50 ∷ 55 ∷ 32 ∷ 48 ∷ 32 ∷ 49 ∷ 10 ∷ []

abbrev 27·1·0 : List ℕ
27·1·0 = 50 ∷ 55 ∷ 32 ∷ 49 ∷ 32 ∷ 48 ∷ 10 ∷ []

abbrev refused·7 : List ℕ
refused·7 = 114 ∷ 101 ∷ 102 ∷ 117 ∷ 115 ∷ 101 ∷ 100 ∷ 32 ∷ 55 ∷ 10 ∷ []

abbrev refused·5 : List ℕ
refused·5 = 114 ∷ 101 ∷ 102 ∷ 117 ∷ 115 ∷ 101 ∷ 100 ∷ 32 ∷ 53 ∷ 10 ∷ []

abbrev refused·12 : List ℕ
refused·12 = 114 ∷ 101 ∷ 102 ∷ 117 ∷ 115 ∷ 101 ∷ 100 ∷ 32 ∷ 49 ∷ 50 ∷ 10 ∷ []

abbrev refused·13 : List ℕ
refused·13 = 114 ∷ 101 ∷ 102 ∷ 117 ∷ 115 ∷ 101 ∷ 100 ∷ 32 ∷ 49 ∷ 51 ∷ 10 ∷ []

-- where nothing turns the job down, the lines of its records
lines : (s : List ℕ) → worklist_refusal s ≡ 0 → worklist s ≡ flat_map line_of (work_records (job_planning s))
unfolding worklist
lines s e = rw e

-- M4: both elements a = 1, batch 2
abbrev pub m4 : Example
m4 = example (worklist (job_of mesh_m 2)) (255·2·0 ++ 255·0·2 ++ 255·2·1 ++ 255·1·2 ++ 11·0·1 ++ 15·1·0 ++ 27·0·0 ++ 27·1·1 ++ 27·2·2)

m4_passes : worklist_refusal (job_of mesh_m 2) ≡ 0
unfolding opened_worklist_text
m4_passes = refl

pub m4_holds : Holds m4
unfolding opened_worklist_text
m4_holds = lines (job_of mesh_m 2) m4_passes ∙ ap (flat_map line_of) m4_records_holds

-- M5: batch 1: the first two lines trade places
abbrev pub m5 : Example
m5 = example (worklist (job_of mesh_m 1)) (255·0·2 ++ 255·2·0 ++ 255·2·1 ++ 255·1·2 ++ 11·0·1 ++ 15·1·0 ++ 27·0·0 ++ 27·1·1 ++ 27·2·2)

m5_passes : worklist_refusal (job_of mesh_m 1) ≡ 0
unfolding opened_worklist_text
m5_passes = refl

pub m5_holds : Holds m5
unfolding opened_worklist_text
m5_holds = lines (job_of mesh_m 1) m5_passes ∙ ap (flat_map line_of) m5_records_holds

-- M7: cells (0,1,2) twice: four records of 27
abbrev pub m7_twice_text : Example
m7_twice_text = example (worklist (job_of m7_twice 1)) (27·0·0 ++ 27·0·1 ++ 27·1·0 ++ 27·1·1)

m7_twice_text_passes : worklist_refusal (job_of m7_twice 1) ≡ 0
unfolding opened_worklist_text
m7_twice_text_passes = refl

pub m7_twice_text_holds : Holds m7_twice_text
unfolding opened_worklist_text
m7_twice_text_holds = lines (job_of m7_twice 1) m7_twice_text_passes ∙ ap (flat_map line_of) m7_records_holds

-- M7: cells (0,1,2), (1,2,0), batch 1: 7. M8: M planned with batch 0: 5. Beside the paper's: the job of M4 one byte short, and one byte longer, is 12; a whole
-- job of 65 cells is 13
abbrev pub refused_texts : Example
refused_texts =
    example
    (worklist (job_of m7_turned 1)
    ∷ worklist (job_of mesh_m 0)
    ∷ worklist (take 54 (job_of mesh_m 2))
    ∷ worklist (job_of mesh_m 2 ++ 0 ∷ [])
    ∷ worklist (job_of (record { cells = 65; vertices = 3; edges = 3; kinds = triangles 65; cell_vertices = replicate 195 0; cell_edges = replicate 195 0 }) 1)
    ∷ [])
    (refused·7 ∷ refused·5 ∷ refused·12 ∷ refused·12 ∷ refused·13 ∷ [])

pub refused_texts_hold : Holds refused_texts
unfolding opened_worklist_text
refused_texts_hold = refl
