-- What `worklist` prints, by what reading the job answers and leaves, by its first 7 bytes. Assumes nothing.
use Rattle.std.specs.Prelude.{ℕ, zero, suc, ◌+◌, ◌*◌, ◌≤◌, ◌<◌, ◌≡◌, refl, Some, List, ◌++◌, length, take}
use Rattle.std.proofs.Common.{arith, sym, ap, ◌∙◌, ⊎_elim, take_all}
use Rattle.std.proofs.lemmas.List.{take-append-le}
use Rattle.lists.specs.Bounded.{lt_or_le}
use Rattle.lists.specs.Refusals.{refusal_first, refusal_rest}
use Rattle.plans.specs.Planning.{lists_for, plan_checks, plan_refusal}
use Rattle.job.specs.declared.JobNumbers.{JobNumbers}
use Rattle.job.specs.Job.{Whole, Refused, most_worklist_cells, job_checks, job_refusal, read_job, vertex_list_of, edge_list_of}
use Rattle.job.specs.JobFacts.{read_numbers, read_refusal, limited_small, take_vertices, take_edges}
use Rattle.job.specs.Head.{read_head, head_number, Says, size_refusal, enough_bytes}
use Rattle.job.proofs.HeadFacts.{head_alone, enough_seven, head_wrong, head_size, size_refused, head_longer}
use Rattle.worklist_text.specs.Text.{refused_line, numbers_planning, job_planning, worklist_refusal, text_answer, worklist}
use Rattle.worklist_text.specs.TextFacts.{refused_short}
use Rattle.worklist_text.specs.PlannedText.{answer_text, planned_text, right_text, most_text}
use Rattle.worklist_text.specs.PlannedFacts.{text_short}

-- ---- what `worklist` prints

-- 12 or 13
pub refused_worklist : (s : List ℕ) {v : ℕ} → v ≡ job_refusal s (Some most_worklist_cells) → 0 < v → refused_line v ≡ worklist s
unfolding worklist worklist_refusal job_refusal
refused_worklist s {v} e h =
    go v h ∙ ap (λ (k : ℕ). text_answer k s) (refusal_first (job_checks s (Some most_worklist_cells)) (plan_checks (job_planning s) (lists_for (job_planning s))) v e (λ (z : v ≡ 0). omega arith))
  where
    go : (k : ℕ) → 0 < k → refused_line k ≡ text_answer k s
    go zero l = absurd (omega arith)
    go (suc k) l = refl

-- a job that passes 12 and 13 is planned
passes_on : (s : List ℕ) → job_refusal s (Some most_worklist_cells) ≡ 0 → worklist_refusal s ≡ plan_refusal (job_planning s) (lists_for (job_planning s))
unfolding job_refusal worklist_refusal plan_refusal
passes_on s e = refusal_rest (job_checks s (Some most_worklist_cells)) _ e refl

planned_worklist : (s : List ℕ) → job_refusal s (Some most_worklist_cells) ≡ 0 → right_text (job_planning s) ≡ worklist s
unfolding worklist planned_text
planned_worklist s e =
    go (plan_refusal (job_planning s) (lists_for (job_planning s))) ∙ ap (λ (k : ℕ). text_answer k s) (sym (passes_on s e))
  where
    go : (k : ℕ) → answer_text k (job_planning s) ≡ text_answer k s
    go zero = refl
    go (suc k) = refl

-- it is never longer than the text has room for
pub worklist_short : (s : List ℕ) → length (worklist s) ≤ most_text
unfolding job_planning
worklist_short s = go (job_refusal s (Some most_worklist_cells)) refl
  where
    go : (v : ℕ) → job_refusal s (Some most_worklist_cells) ≡ v → length (worklist s) ≤ most_text
    go zero e = rw (planned_worklist s e) at (text_short (job_planning s) (lists_for (job_planning s)) (limited_small s e))
    go (suc v) e = let few : length (refused_line (suc v)) ≤ most_text = omega (arith, refused_short (suc v)) in rw (refused_worklist s {v = suc v} (sym e) (omega arith)) at few

-- what reading the job answers and leaves
module _ (s : List ℕ) where
  -- the numbers: the text that they are planned to, with the fronts of the two lists
  pub numbers_text : {n : JobNumbers} → Whole n ≡ read_job s (Some most_worklist_cells) → (vs es : List ℕ) → 3 * most_worklist_cells ≤ length vs → 3 * most_worklist_cells ≤ length es → {vs' es' : List ℕ}
      → vs' ≡ vertex_list_of s (Some most_worklist_cells) vs → es' ≡ edge_list_of s (Some most_worklist_cells) es → {text : List ℕ}
      → text ≡ right_text (numbers_planning n (take (3 * n.cells) vs') (take (3 * n.cells) es')) → text ≡ worklist s
  unfolding job_planning
  numbers_text answers vs es hv he ev ee same =
      let said = read_numbers s (Some most_worklist_cells) answers refl in
      let none = said.0 in
      let small = limited_small s none in
      let vertices = take_vertices s (Some most_worklist_cells) none vs (omega arith) in
      let edges = take_edges s (Some most_worklist_cells) none es (omega arith) in
      rw (planned_worklist s none) at (rw (said.1, ev, ee, vertices, edges) at same)

  pub numbers_small : {n : JobNumbers} → Whole n ≡ read_job s (Some most_worklist_cells) → n.cells ≤ most_worklist_cells
  numbers_small answers = let said = read_numbers s (Some most_worklist_cells) answers refl in rw said.1 (limited_small s said.0)

  -- the refusal
  pub refusal_line : {v : ℕ} → Refused v ≡ read_job s (Some most_worklist_cells) → refused_line v ≡ worklist s
  refusal_line answers = let said = read_refusal s (Some most_worklist_cells) answers refl in refused_worklist s said.0 said.1

-- ---- what the first 7 bytes decide

-- they are refused: so is every input that they begin
pub head_wrong_text : (s : List ℕ) {n : ℕ} → head_number (read_head (take 7 s)) ≡ n → 0 < n → refused_line n ≡ worklist s
head_wrong_text s e h = refused_worklist s ((head_wrong s e h).1 (Some most_worklist_cells)) h

-- they say too many cells: the number of bytes gives the text
pub head_large_text : (s : List ℕ) {C : ℕ} → Says (read_head (take 7 s)) C → most_worklist_cells < C → refused_line (size_refusal C (length s)) ≡ worklist s
head_large_text s {C} h large = refused_worklist s (head_size s h) (size_refused C (length s) large)

-- they say C: one byte more than such a job has is enough, whatever follows
pub head_enough_text : (s : List ℕ) {C : ℕ} → Says (read_head (take 7 s)) C → worklist (take (20 + 12 * C) s) ≡ worklist s
head_enough_text s {C} says = ⊎_elim shorter longer (lt_or_le (length s) (20 + 12 * C))
  where
    shorter : length s < 20 + 12 * C → worklist (take (20 + 12 * C) s) ≡ worklist s
    shorter h = ap worklist (take_all (20 + 12 * C) s (omega arith))

    longer : 20 + 12 * C ≤ length s → worklist (take (20 + 12 * C) s) ≡ worklist s
    longer h =
        let r = head_longer s says h (Some most_worklist_cells) in
        sym (refused_worklist (take (20 + 12 * C) s) r.0 (omega arith)) ∙ refused_worklist s r.1 (omega arith)

-- so that what follows enough bytes changes nothing
pub enough_text : (s rest : List ℕ) → enough_bytes (read_head s) ≤ length s → worklist (s ++ rest) ≡ worklist s
enough_text s rest long = go (head_number (read_head s)) refl
  where
    first : read_head (take 7 (s ++ rest)) ≡ read_head s
    first = ap read_head (take-append-le 7 s rest (omega (arith, enough_seven (read_head s), long))) ∙ head_alone s

    right : {C : ℕ} → Says (read_head s) C → 20 + 12 * C ≤ length s → worklist (s ++ rest) ≡ worklist s
    right {C} says there =
        sym (head_enough_text (s ++ rest) {C = C} (rw first says))
        ∙ ap worklist (take-append-le (20 + 12 * C) s rest there)
        ∙ head_enough_text s {C = C} (rw (head_alone s) says)

    go : (v : ℕ) → head_number (read_head s) ≡ v → worklist (s ++ rest) ≡ worklist s
    go zero e = right (record { number = e; cells = refl }) (rw e at long)
    go (suc v) e =
        sym (head_wrong_text (s ++ rest) (ap head_number first ∙ e) (omega arith)) ∙ head_wrong_text s (ap head_number (head_alone s) ∙ e) (omega arith)
