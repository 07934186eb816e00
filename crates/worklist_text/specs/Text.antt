-- What `worklist` prints for the bytes of standard input: one line a record, three decimal numbers parted by one blank; or `refused n`. As bytes.
-- Assumes nothing.
use Rattle.std.specs.Prelude.{ℕ, zero, suc, ◌+◌, ◌/◌, ◌%◌, Some, cond, ltb}
use mathlib.Core.List.{List, [], ◌∷◌, ◌++◌, flat_map}
use Rattle.lists.specs.Refusals.{refusal}
use Rattle.grid.specs.Mesh.{triangles}
use Rattle.function.specs.Elements.{alike}
use Rattle.cell_pairs.specs.declared.WorkRecord.{WorkRecord}
use Rattle.integrands.specs.declared.Integrand.{Integrand}
use Rattle.integrands.specs.declared.Term.TheVariants.{Bare}
use Rattle.plans.specs.Planning.{Planning, plan_checks, lists_for, work_records}
use Rattle.job.specs.declared.JobNumbers.{JobNumbers}
use Rattle.job.specs.Job.{job_numbers, job_vertices, job_edges, most_worklist_cells, job_checks}

-- the decimal digits of a number below 10^k, as bytes (0 is 48)
unfoldable pub digits : ℕ → ℕ → List ℕ
digits zero n = []
digits (suc k) n = cond (ltb n 10) [] (digits k (n / 10)) ++ ((48 + n % 10) ∷ [])

-- a u32 has at most ten digits
abbrev pub decimal : ℕ → List ℕ
decimal n = digits 10 n

-- a blank is 32, the end of a line 10
unfoldable pub line_of : WorkRecord → List ℕ
line_of r = decimal r.pattern ++ 32 ∷ decimal r.test ++ 32 ∷ decimal r.trial ++ 10 ∷ []

-- `refused n`
unfoldable pub refused_line : ℕ → List ℕ
refused_line n = 114 ∷ 101 ∷ 102 ∷ 117 ∷ 115 ∷ 101 ∷ 100 ∷ 32 ∷ decimal n ++ 10 ∷ []

-- one bare term of kind 0
abbrev pub bare_zero : Integrand
bare_zero = record { terms = 1; first = Bare 0; second = Bare 0 }

-- what planning is given: a job's numbers with its vertices and edges, whose cells are triangles, and that term
abbrev pub numbers_planning : JobNumbers → List ℕ → List ℕ → Planning
numbers_planning n cell_vertices cell_edges =
    record {
      mesh = record { cells = n.cells; vertices = n.vertices; edges = n.edges; kinds = triangles n.cells; cell_vertices = cell_vertices; cell_edges = cell_edges };
      test = alike n.test;
      trial = alike n.trial;
      batch = n.batch;
      integrand = bare_zero;
    }

unfoldable pub job_planning : List ℕ → Planning
job_planning s = numbers_planning (job_numbers s) (job_vertices s) (job_edges s)

-- `worklist` checks 12, 13 first, then plans with lists of the right lengths
unfoldable pub worklist_refusal : List ℕ → ℕ
worklist_refusal s = refusal (job_checks s (Some most_worklist_cells) ++ plan_checks (job_planning s) (lists_for (job_planning s)))

abbrev pub text_answer : ℕ → List ℕ → List ℕ
text_answer zero s = flat_map line_of (work_records (job_planning s))
text_answer (suc n) s = refused_line (suc n)

unfoldable pub worklist : List ℕ → List ℕ
worklist s = text_answer (worklist_refusal s) s
