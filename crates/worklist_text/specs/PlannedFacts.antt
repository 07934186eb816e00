-- What the text of a planning rests on: its length, what planning leaves, and that the lists' lengths are the only thing of them that it reads.
-- Assumes nothing.
use Rattle.std.specs.Prelude.{ℕ, zero, suc, ◌*◌, ◌≤◌, ◌<◌, min, ◌≡◌, refl, Bool, true, false, List, [], ◌∷◌, ◌++◌, length, take, replicate}
use Rattle.std.proofs.Common.{mul-le-mul, zero-mul, le_refl, le_of_suc-le-suc, arith, sym, ap, ◌∙◌, eq-eqb}
use Rattle.std.proofs.lemmas.List.{length-replicate}
use Rattle.std.proofs.Math.Seq.{length-take-le}
use Rattle.lists.specs.Bool.{every_of, ◌also◌, end}
use Rattle.lists.specs.Range.{AllIn, all_in_append, all_in_weaken}
use Rattle.lists.specs.Refusals.{Check, check, unless, refusal}
use Rattle.numbers.specs.Ranges.{within_high}
use Rattle.grid.specs.declared.Sizes.{Sizes}
use Rattle.grid.specs.CellsFacts.{before_same}
use Rattle.grid.specs.Mesh.{mesh_with, mesh_of, triangles, cells_of, mesh_checks}
use Rattle.grid.specs.KindsFacts.{kind_present}
use Rattle.function.specs.declared.Elements.{Elements}
use Rattle.function.specs.Elements.{most_dim, dim, element_of, cell_dim, elements_right}
use Rattle.function.specs.ElementsFacts.{dim_three}
use Rattle.integrands.specs.Terms.{integrand_right}
use Rattle.cell_pairs.specs.Patterns.{patterns_right}
use Rattle.cell_pairs.specs.WorkList.{work_list}
use Rattle.cell_pairs.specs.WorkRecords.{Distant, Touching}
use Rattle.cell_pairs.proofs.WorkRecordsFacts.{distant_each, touching_each}
use Rattle.cell_pairs.proofs.Counting.{length_work}
use Rattle.plans.specs.Planning.{Planned, ready, refused, Planning, Lists, lists_for, lists_of, dof_places, places_on, elements_fit, batch_right, lengths_right, plan_refusal, plan_answer, plan, plan_lists, written_lists, work_records}
use Rattle.plans.specs.declared.PlanNumbers.{PlanNumbers}
use Rattle.plans.specs.Accepted.{accepted, counted, ready_is}
use Rattle.planning.specs.declared.Assembly.{Assembly}
use Rattle.planning.specs.Arguments.{planning_with}
use Rattle.planning.specs.Facts.{both_right}
use Rattle.job.specs.Job.{most_worklist_cells}
use Rattle.worklist_text.specs.Text.{refused_line}
use Rattle.worklist_text.specs.Lines.{lines_of}
use Rattle.worklist_text.specs.TextFacts.{Short, lines_short, lines_flat, refused_short}
use Rattle.worklist_text.specs.PlannedText.{answer_text, planned_text, right_text, most_text}

-- ---- refusals

-- checks that follow the same checks
refusal_after : (cs ds es : List Check) → refusal ds ≡ refusal es → refusal (cs ++ ds) ≡ refusal (cs ++ es)
unfolding refusal
refusal_after [] ds es e = e
refusal_after (c ∷ cs) ds es e = ap (unless c.passes c.number) (refusal_after cs ds es e)

-- checks 4 to 8, where check 8 says b
abbrev from_four : Planning → Bool → List Check
from_four x b =
    check 4 (elements_fit x)
    ∷ check 5 (batch_right x.batch)
    ∷ check 6 (integrand_right x.integrand)
    ∷ check 7 (patterns_right x.mesh)
    ∷ check 8 b
    ∷ []

-- whether the lists are as long as they should be
abbrev pub sized : Planning → Lists → Bool
sized x l = lengths_right x.mesh x.test x.trial l

-- of the lists planning reads the lengths alone, and those where the elements are right
pub same_refusal : (x : Planning) (l l' : Lists) → (elements_fit x ≡ true → sized x l ≡ sized x l') → plan_refusal x l ≡ plan_refusal x l'
unfolding plan_refusal refusal unless
same_refusal x l l' h =
    refusal_after (mesh_checks x.mesh) (from_four x (sized x l)) (from_four x (sized x l')) (go (elements_fit x) h)
  where
    later : Bool → ℕ
    later b =
        refusal
        (check 5 (batch_right x.batch)
        ∷ check 6 (integrand_right x.integrand)
        ∷ check 7 (patterns_right x.mesh)
        ∷ check 8 b
        ∷ [])

    go : (b : Bool) → (b ≡ true → sized x l ≡ sized x l') → unless b 4 (later (sized x l)) ≡ unless b 4 (later (sized x l'))
    go true k = ap later (k refl)
    go false k = refl

-- lists of the right lengths
pub sized_by : (x : Planning) (l : Lists)
    → length l.test_dofs ≡ places_on x.mesh x.test
    → length l.trial_dofs ≡ places_on x.mesh x.trial
    → length l.test_colours ≡ x.mesh.cells
    → length l.trial_colours ≡ x.mesh.cells
    → length l.test_owners ≡ 3 * places_on x.mesh x.test
    → length l.trial_owners ≡ 3 * places_on x.mesh x.trial
    → length l.work ≡ 3 * (x.mesh.cells * x.mesh.cells)
    → sized x l ≡ true
unfolding lengths_right
sized_by x l e₁ e₂ e₃ e₄ e₅ e₆ e₇ =
    every_of (eq-eqb _ _ e₁ also eq-eqb _ _ e₂ also eq-eqb _ _ e₃ also eq-eqb _ _ e₄ also eq-eqb _ _ e₅ also eq-eqb _ _ e₆ also eq-eqb _ _ e₇ also end)

pub sized_for : (x : Planning) → sized x (lists_for x) ≡ true
sized_for x =
    let zeros : (n : ℕ) → length {A = ℕ} (replicate n 0) ≡ n = λ n. length-replicate n 0 in
    let C = x.mesh.cells in
    let rows = places_on x.mesh x.test in
    let columns = places_on x.mesh x.trial in
    sized_by x (lists_for x) (zeros rows) (zeros columns) (zeros C) (zeros C) (zeros (3 * rows)) (zeros (3 * columns)) (zeros (3 * (C * C)))

-- ---- triangles

take_replicate : (n m x : ℕ) → n ≤ m → take n (replicate m x) ≡ replicate n x
take_replicate zero m x h = refl
take_replicate (suc n) zero x h = absurd (omega arith)
take_replicate (suc n) (suc m) x h = ap (λ (l : List ℕ). x ∷ l) (take_replicate n m x (le_of_suc-le-suc h))

-- the front of a list of the most triangles
module _ {C n : ℕ} (count : n ≡ C) (few : C ≤ most_worklist_cells) where
  pub front : take n (triangles most_worklist_cells) ≡ triangles C
  front = rw count (take_replicate C most_worklist_cells 3 few)

-- ---- lists whose lengths are made with dims cut to the most

-- they fit
pub few_pairs : (C : ℕ) → C ≤ most_worklist_cells → C * C ≤ most_worklist_cells * most_worklist_cells
few_pairs C h = mul-le-mul h h

-- as many of m zeros are lent
lent_length : (n m : ℕ) {k : ℕ} → n ≡ k → n ≤ m → length (take n (replicate {A = ℕ} m 0)) ≡ k
lent_length n m e h = length-take-le n (replicate m 0) (omega (arith, length-replicate {A = ℕ} m 0)) ∙ e

-- the lists that are lent
abbrev zeros_lent : ℕ → ℕ → ℕ → Lists
zeros_lent C rows columns =
    let front : ℕ → ℕ → List ℕ = λ n m. take n (replicate m 0) in
    lists_of (front rows (most_worklist_cells * most_dim)) (front columns (most_worklist_cells * most_dim)) (front C most_worklist_cells) (front C most_worklist_cells)
    (front (3 * rows) (3 * (most_worklist_cells * most_dim))) (front (3 * columns) (3 * (most_worklist_cells * most_dim)))
    (front (3 * (C * C)) (3 * (most_worklist_cells * most_worklist_cells)))

-- check 4 of one side of C triangles
abbrev fits_triangles : ℕ → Elements → Bool
fits_triangles C es = elements_right (cells_of (triangles C) 3) (cells_of (triangles C) 4) es

-- where it passes, the lists are as long as the triangles' dims add up to
short_places : (C : ℕ) (es : Elements) → fits_triangles C es ≡ true → C * min most_dim (dim es.triangle) ≡ dof_places C (triangles C) es
unfolding element_of
short_places C es right = go C right ∙ sym (before_same (cell_dim es) C 3 C (le_refl C))
  where
    go : (n : ℕ) → fits_triangles n es ≡ true → n * min most_dim (dim es.triangle) ≡ n * dim es.triangle
    go zero r = zero-mul _ ∙ sym (zero-mul _)
    go (suc n) r =
        let some : 0 < cells_of (triangles (suc n)) 3 = kind_present (triangles (suc n)) 3 0 (omega (arith, length-replicate {A = ℕ} (suc n) 3)) refl in
        let small : dim es.triangle ≤ most_dim = within_high 1 most_dim _ (dim_three _ _ es r some) in
        let whole : min most_dim (dim es.triangle) ≡ dim es.triangle = omega arith in
        ap (λ (d : ℕ). suc n * d) whole

-- the text is the same as with lists of the right lengths
short_text : (s : Sizes) (vertices edges : List ℕ) (a : Assembly) (l : Lists)
    → length l.test_dofs ≡ s.cells * min most_dim (dim a.test.triangle)
    → length l.trial_dofs ≡ s.cells * min most_dim (dim a.trial.triangle)
    → length l.test_colours ≡ s.cells
    → length l.trial_colours ≡ s.cells
    → length l.test_owners ≡ 3 * (s.cells * min most_dim (dim a.test.triangle))
    → length l.trial_owners ≡ 3 * (s.cells * min most_dim (dim a.trial.triangle))
    → length l.work ≡ 3 * (s.cells * s.cells)
    → planned_text (planning_with (mesh_of s vertices edges) a) l ≡ right_text (planning_with (mesh_of s vertices edges) a)
unfolding planned_text
short_text s vertices edges a l e₁ e₂ e₃ e₄ e₅ e₆ e₇ =
    ap (λ (v : ℕ). answer_text v x) (same_refusal x l (lists_for x) (λ h. right (both_right _ _ a.test a.trial h) ∙ sym (sized_for x)))
  where
    x : Planning
    x = planning_with (mesh_of s vertices edges) a

    right : (fits_triangles s.cells a.test ≡ true) × (fits_triangles s.cells a.trial ≡ true) → sized x l ≡ true
    right h =
        let t = short_places s.cells a.test h.0 in
        let r = short_places s.cells a.trial h.1 in
        sized_by x l (e₁ ∙ t) (e₂ ∙ r) e₃ e₄ (e₅ ∙ ap (λ (n : ℕ). 3 * n) t) (e₆ ∙ ap (λ (n : ℕ). 3 * n) r) e₇

short_same : (s : Sizes) (vertices edges : List ℕ) (a : Assembly) (l : Lists) {kinds text : List ℕ} → kinds ≡ triangles s.cells
    → text ≡ planned_text (planning_with (mesh_with s kinds vertices edges) a) l
    → length l.test_dofs ≡ s.cells * min most_dim (dim a.test.triangle)
    → length l.trial_dofs ≡ s.cells * min most_dim (dim a.trial.triangle)
    → length l.test_colours ≡ s.cells
    → length l.trial_colours ≡ s.cells
    → length l.test_owners ≡ 3 * (s.cells * min most_dim (dim a.test.triangle))
    → length l.trial_owners ≡ 3 * (s.cells * min most_dim (dim a.trial.triangle))
    → length l.work ≡ 3 * (s.cells * s.cells)
    → text ≡ right_text (planning_with (mesh_with s kinds vertices edges) a)
short_same s vertices edges a l k same e₁ e₂ e₃ e₄ e₅ e₆ e₇ = rw k (rw (short_text s vertices edges a l e₁ e₂ e₃ e₄ e₅ e₆ e₇) at (rw k at same))

-- so it is with the fronts of lists of zeros that have room for the most cells
pub lent_same : (s : Sizes) (vertices edges : List ℕ) (a : Assembly) {kinds text : List ℕ} {rows columns : ℕ} → kinds ≡ triangles s.cells → s.cells ≤ most_worklist_cells
    → (rows ≡ s.cells * min most_dim (dim a.test.triangle)) × (rows ≤ most_worklist_cells * most_dim)
    → (columns ≡ s.cells * min most_dim (dim a.trial.triangle)) × (columns ≤ most_worklist_cells * most_dim)
    → text ≡ planned_text (planning_with (mesh_with s kinds vertices edges) a) (zeros_lent s.cells rows columns)
    → text ≡ right_text (planning_with (mesh_with s kinds vertices edges) a)
lent_same s vertices edges a {rows = rows} {columns = columns} k few r c same =
    let test_owners : 3 * rows ≤ 3 * (most_worklist_cells * most_dim) = omega (arith, r.1) in
    let trial_owners : 3 * columns ≤ 3 * (most_worklist_cells * most_dim) = omega (arith, c.1) in
    let work : 3 * (s.cells * s.cells) ≤ 3 * (most_worklist_cells * most_worklist_cells) = omega (arith, few_pairs s.cells few) in
    short_same s vertices edges a (zeros_lent s.cells rows columns) k same
    (lent_length _ _ r.0 r.1)
    (lent_length _ _ c.0 c.1)
    (lent_length _ _ refl few)
    (lent_length _ _ refl few)
    (lent_length _ _ (ap (λ (n : ℕ). 3 * n) r.0) test_owners)
    (lent_length _ _ (ap (λ (n : ℕ). 3 * n) c.0) trial_owners)
    (lent_length _ _ refl work)

-- ---- what planning answers

answer_refused : (v n : ℕ) (p : PlanNumbers) → plan_answer v p ≡ refused n → (v ≡ n) × (0 < n)
answer_refused zero n p e = let z : ◌≡◌ {A = ℕ} 0 1 = cc in absurd (omega arith)
answer_refused (suc v) n p e = let same : suc v ≡ n = cc in (same, omega arith)

-- it is ready: the text is the lines of the work list that it leaves
pub ready_text : (x : Planning) (l : Lists) (p : PlanNumbers) → plan x l ≡ ready p → planned_text x l ≡ lines_of (plan_lists x l).work
unfolding plan planned_text plan_lists written_lists
ready_text x l p e = rw (ready_is e).none (sym (lines_flat (work_records x)))

-- it refuses: the text says which
pub refused_text : (x : Planning) (l : Lists) (n : ℕ) → plan x l ≡ refused n → planned_text x l ≡ refused_line n
unfolding plan planned_text
refused_text x l n e = let r = answer_refused (plan_refusal x l) n _ e in go n r.1 r.0
  where
    go : (m : ℕ) → 0 < m → plan_refusal x l ≡ m → answer_text (plan_refusal x l) x ≡ refused_line m
    go zero h same = absurd (omega arith)
    go (suc m) h same = rw same

-- ---- how long the text is

records_short : (x : Planning) → x.mesh.cells ≤ most_worklist_cells → AllIn Short (work_records x)
unfolding work_list
records_short x h =
    all_in_append Short _ _
    (all_in_weaken (Distant x.mesh) Short (λ r d. record { pattern = omega (arith, d.marked); test = omega (arith, d.test_cell); trial = omega (arith, d.trial_cell) }) _ (distant_each x.mesh x.batch _ _))
    (all_in_weaken (Touching x.mesh) Short (λ r t. record { pattern = omega (arith, t.known); test = omega (arith, t.test_cell); trial = omega (arith, t.trial_cell) }) _ (touching_each x.mesh))

-- of few cells: each record has at most 12 bytes
pub text_short : (x : Planning) (l : Lists) → x.mesh.cells ≤ most_worklist_cells → length (planned_text x l) ≤ most_text
unfolding planned_text
text_short x l h = go (plan_refusal x l) refl
  where
    go : (v : ℕ) → plan_refusal x l ≡ v → length (answer_text v x) ≤ most_text
    go zero e =
        let pairs : x.mesh.cells * x.mesh.cells ≤ most_worklist_cells * most_worklist_cells = mul-le-mul h h in
        omega (arith, lines_short (work_records x) (records_short x h), length_work x.mesh x.batch _ _ (counted (accepted x l e)))
    go (suc n) e = omega (arith, refused_short (suc n))

-- what planning answers and leaves, ready or refused
module _ (x : Planning) (l : Lists) {r : Planned} (answers : r ≡ plan x l) where
  pub ready_lines : {l' : Lists} {p : PlanNumbers} → l' ≡ plan_lists x l → r ≡ ready p → lines_of l'.work ≡ planned_text x l
  ready_lines {l'} {p} leaves e = ap (λ (k : Lists). lines_of k.work) leaves ∙ sym (ready_text x l p (sym answers ∙ e))

  pub refused_line_holds : {n : ℕ} → r ≡ refused n → refused_line n ≡ planned_text x l
  refused_line_holds {n} e = sym (refused_text x l n (sym answers ∙ e))
