-- The job of M4 as bytes, and what reading it answers and writes; beside the paper's examples. Assumes nothing.
use Rattle.std.specs.Prelude.{ℕ, refl, None, Some, List, [], ◌∷◌, ◌++◌, take, replicate}
use Rattle.lists.specs.Examples.{Example, example, Holds, opened_lists}
use Rattle.grid.specs.Examples.{mesh_m}
use Rattle.function.specs.Examples.{element}
use Rattle.job.specs.Job.{Whole, job_right, job_small, job_refusal, read_job, read_number, front, vertex_list_of, edge_list_of}

-- opens the definitions of this crate and of `lists`
unfoldable pub opened_job : Unit {0}
unfolding opened_lists job_right job_small job_refusal read_job front vertex_list_of edge_list_of
opened_job = tt

-- length 51, version 1, C = 3, V = 7, E = 8, both elements a = 1, batch 2; vertices; edges
abbrev m4_job : List ℕ
m4_job =
    0 ∷ 0 ∷ 0 ∷ 51 ∷ 1 ∷ 0 ∷ 3 ∷ 0 ∷ 7 ∷ 0 ∷ 8 ∷ 1 ∷ 0 ∷ 0 ∷ 1 ∷ 0 ∷ 0 ∷ 0 ∷ 2
    ∷ 0 ∷ 0 ∷ 0 ∷ 1 ∷ 0 ∷ 2 ∷ 0 ∷ 1 ∷ 0 ∷ 3 ∷ 0 ∷ 2 ∷ 0 ∷ 4 ∷ 0 ∷ 5 ∷ 0 ∷ 6
    ∷ 0 ∷ 0 ∷ 0 ∷ 1 ∷ 0 ∷ 2 ∷ 0 ∷ 3 ∷ 0 ∷ 0 ∷ 0 ∷ 4 ∷ 0 ∷ 5 ∷ 0 ∷ 6 ∷ 0 ∷ 7
    ∷ []

abbrev pub m4_read : Example
m4_read =
    example (read_job m4_job (Some 64))
    (Whole (record { cells = 3; vertices = 7; edges = 8; test = element 1 0 0; trial = element 1 0 0; batch = 2 }))

pub m4_read_holds : Holds m4_read
unfolding opened_job
m4_read_holds = refl

-- a list that is longer than 3C keeps its tail, one that is shorter gets as many as it has room for; where a byte is missing nothing is written
abbrev pub m4_lists : Example
m4_lists =
    example
    (vertex_list_of m4_job (Some 64) (replicate 11 99) ∷ edge_list_of m4_job (Some 64) (replicate 5 99) ∷ vertex_list_of (take 54 m4_job) None (replicate 9 99) ∷ [])
    ((mesh_m.cell_vertices ++ 99 ∷ 99 ∷ []) ∷ take 5 mesh_m.cell_edges ∷ replicate 9 99 ∷ [])

pub m4_lists_hold : Holds m4_lists
unfolding opened_job
m4_lists_hold = refl

-- M4 one byte short: 12. 65 cells: 13 where the job is limited to 64, and else no refusal
abbrev large : List ℕ
large = 0 ∷ 0 ∷ 3 ∷ 27 ∷ 1 ∷ 0 ∷ 65 ∷ replicate 792 0

abbrev pub read_numbers : Example
read_numbers = example (read_number (read_job (take 54 m4_job) None) ∷ read_number (read_job large (Some 64)) ∷ read_number (read_job large None) ∷ []) (12 ∷ 13 ∷ 0 ∷ [])

pub read_numbers_hold : Holds read_numbers
unfolding opened_job
read_numbers_hold = refl
