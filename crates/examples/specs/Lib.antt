-- M1 to M8 and F1 to F4 of the paper, one list, and one theorem: the definitions yield what the paper says of each. Each row stands, with its input and
-- what the paper says, in `specs/Examples.antt` of the crate of its layer, and antt computes it there. Assumes nothing.
use Rattle.std.specs.Prelude.{List, [], ◌∷◌}
use Rattle.lists.specs.Examples.{Example, Agree, no_more, ◌and_also◌}
use Rattle.function.specs.Examples.{m1_colours, m3_colours, m1_colours_holds, m3_colours_holds, by_edges, by_edges_holds, first_kind, first_kind_holds}
use Rattle.dof_numbering.specs.Examples.{m1_dofs, m2_dofs, m2_owners, m2_count, m1_dofs_holds, m2_dofs_holds, m2_owners_holds, m2_count_holds, two_an_edge, two_owners, two_an_edge_holds, two_owners_holds, quad_beside, quad_owners, quad_inside, inside_owners, quad_beside_holds, quad_owners_holds, quad_inside_holds, inside_owners_holds}
use Rattle.integrands.specs.Examples.{f3, f4, f3_holds, f4_holds, double, normals, factor, two, one, double_holds, normals_hold, factor_holds, two_holds, one_holds}
use Rattle.lent_numbers.specs.Examples.{f1, f2, f1_rounded, f2_rounded, f1_holds, f2_holds, f1_rounded_holds, f2_rounded_holds, two_points, four_pairs, point_order, two_points_hold, four_pairs_hold, point_order_holds}
use Rattle.scatter.specs.Examples.{added, rows_columns, values, added_holds, rows_columns_hold, values_hold}
use Rattle.cell_pairs.specs.Examples.{m4_records, m5_records, m7_records, m7_records_holds, patterns, patterns_hold, mixed_records, mixed_records_holds, quad_patterns, edge_shared_records, edge_shared_counts, diagonal_refused, quad_patterns_hold, edge_shared_records_hold, edge_shared_counts_hold, diagonal_refused_holds}
use Rattle.cell_pairs.proofs.WorkExamples.{m4_records_holds, m5_records_holds}
use Rattle.plans.specs.Examples.{m_planned, m_sizes, m6, m7, m7_work, m8, work_lists, first_fault, m_planned_holds, m_sizes_holds, m6_holds, m7_holds, m7_work_holds, m8_holds, first_fault_holds, quads_planned, kinds_refused, elements_refused, five_numbers, edge_shared_lists, quads_planned_hold, kinds_refused_hold, elements_refused_hold, five_numbers_hold, edge_shared_lists_hold}
use Rattle.plans.proofs.WorkListExamples.{work_lists_hold}
use Rattle.runs.specs.Examples.{first_look, looks_answered, adds_answered, first_look_holds, looks_answered_hold, adds_answered_hold, mixed_looked, mixed_places, mixed_entered, absent_unread, mixed_looked_holds, mixed_places_hold, mixed_entered_holds, absent_unread_holds}
use Rattle.job.specs.Examples.{m4_read, m4_lists, read_numbers, m4_read_holds, m4_lists_hold, read_numbers_hold}
use Rattle.worklist_text.specs.Examples.{m4, m5, m7_twice_text, refused_texts, m4_holds, m5_holds, m7_twice_text_holds, refused_texts_hold}

-- the paper's
abbrev pub examples : List Example
examples =
    -- M1: colours, DOFs; M2: DOFs; M3: colours
    m1_colours ∷ m1_dofs ∷ m2_dofs ∷ m3_colours
    -- M4 and M5: what `worklist` prints
    ∷ m4 ∷ m5
    -- M6: N, S, and their sum, of what planning hands back
    ∷ m6
    -- M7: turned, planning answers 7; twice, it accepts, with four records of 27
    ∷ m7 ∷ m7_work
    -- M8: batch 0; C = 2,049
    ∷ m8
    ∷ f1 ∷ f2 ∷ f3 ∷ f4
    ∷ []

pub theorem : Agree examples
theorem =
    m1_colours_holds
    and_also m1_dofs_holds
    and_also m2_dofs_holds
    and_also m3_colours_holds
    and_also m4_holds
    and_also m5_holds
    and_also m6_holds
    and_also m7_holds
    and_also m7_work_holds
    and_also m8_holds
    and_also f1_holds
    and_also f2_holds
    and_also f3_holds
    and_also f4_holds
    and_also no_more

-- and some beside them, for what these leave untouched: M4, M5 and M7 as records, M accepted, with its rows and columns, M7 and M8 as text, jobs cut short,
-- longer and too large, what reading a job answers and writes; owner records, a DOF count, colours by edges, two DOFs on an entity; numbers, owners, colours
-- and distant pairs of quads beside triangles; the plus 1 of a pattern and its i and j; patterns, touching records and touching pairs of quads beside
-- triangles, and two quads at a diagonal; kinds 1 and 4, a factor, two terms; sums in which rounding shows, and ones of several points and basis functions;
-- where local entries go, and in which order; work lists as planning leaves them, the first of several faults; meshes with quads, kind lists and elements of
-- both kinds, planned, with numbers and lists; record 0 looked at, and what look and the adds answer to runs and plans that no planning gave; a run over both
-- kinds: what look and the entries call answer, and where its entries stand
abbrev pub more : List Example
more =
    m4_records ∷ m5_records ∷ m7_records ∷ m_planned ∷ m_sizes ∷ m7_twice_text ∷ refused_texts ∷ m4_read ∷ m4_lists
    ∷ read_numbers ∷ m2_owners ∷ m2_count ∷ f1_rounded ∷ f2_rounded ∷ by_edges ∷ two_an_edge ∷ two_owners ∷ patterns
    ∷ first_kind ∷ quad_beside ∷ quad_owners ∷ quad_inside ∷ inside_owners ∷ mixed_records
    ∷ quad_patterns ∷ edge_shared_records ∷ edge_shared_counts ∷ diagonal_refused
    ∷ double ∷ normals ∷ factor ∷ two ∷ one ∷ two_points ∷ four_pairs ∷ point_order ∷ added
    ∷ rows_columns ∷ values ∷ work_lists ∷ first_fault
    ∷ quads_planned ∷ kinds_refused ∷ elements_refused ∷ five_numbers ∷ edge_shared_lists
    ∷ first_look ∷ looks_answered ∷ adds_answered ∷ mixed_looked ∷ mixed_places ∷ mixed_entered ∷ absent_unread ∷ []

pub more_hold : Agree more
more_hold =
    m4_records_holds
    and_also m5_records_holds
    and_also m7_records_holds
    and_also m_planned_holds
    and_also m_sizes_holds
    and_also m7_twice_text_holds
    and_also refused_texts_hold
    and_also m4_read_holds
    and_also m4_lists_hold
    and_also read_numbers_hold
    and_also m2_owners_holds
    and_also m2_count_holds
    and_also f1_rounded_holds
    and_also f2_rounded_holds
    and_also by_edges_holds
    and_also two_an_edge_holds
    and_also two_owners_holds
    and_also patterns_hold
    and_also first_kind_holds
    and_also quad_beside_holds
    and_also quad_owners_holds
    and_also quad_inside_holds
    and_also inside_owners_holds
    and_also mixed_records_holds
    and_also quad_patterns_hold
    and_also edge_shared_records_hold
    and_also edge_shared_counts_hold
    and_also diagonal_refused_holds
    and_also double_holds
    and_also normals_hold
    and_also factor_holds
    and_also two_holds
    and_also one_holds
    and_also two_points_hold
    and_also four_pairs_hold
    and_also point_order_holds
    and_also added_holds
    and_also rows_columns_hold
    and_also values_hold
    and_also work_lists_hold
    and_also first_fault_holds
    and_also quads_planned_hold
    and_also kinds_refused_hold
    and_also elements_refused_hold
    and_also five_numbers_hold
    and_also edge_shared_lists_hold
    and_also first_look_holds
    and_also looks_answered_hold
    and_also adds_answered_hold
    and_also mixed_looked_holds
    and_also mixed_places_hold
    and_also mixed_entered_holds
    and_also absent_unread_holds
    and_also no_more
