-- What a check of the run that passes says, in numbers, and what the checks of the state answer. Assumes nothing.
use Rattle.std.specs.Prelude.{ℕ, zero, suc, ◌+◌, ◌*◌, ◌-◌, ◌≤◌, ◌<◌, ◌≡◌, refl, Bool, true, false, cond, ◌⊎◌, List, [], ◌∷◌, length, get_or, eqb}
use Rattle.std.proofs.Common.{mul-le-mul, arith, sym, ◌∙◌, ⊎_elim, leb-true, eqb-true, ltb-true, eq-eqb, ne_eqb}
use Rattle.std.proofs.Math.Path.{ap}
use Rattle.std.proofs.Math.Bool.{not}
use Rattle.std.proofs.lemmas.Bool.{eqb-false, not-true}
use Rattle.lists.specs.Bool.{◌and◌, every, every_at, every_fails, ◌or◌, and_left, and_right, and_no_left, or_cases, true≢false}
use Rattle.lists.specs.Total.{gate}
use Rattle.lists.specs.Refusals.{refusal, refusal_at, answers, accepted, refused as fails, ◌then◌}
use Rattle.refusals.specs.declared.Refusal.{Refusal}
use Rattle.refusals.specs.Numbers.{number_of, number_nonzero}
use Rattle.grid.specs.Cells.{part}
use Rattle.grid.specs.CellsFacts.{before_le, part_inside}
use Rattle.grid.specs.Mesh.{most_cells, cells_of, kinds_match}
use Rattle.grid.specs.KindsFacts.{Kinded, kinded, kinds_to, kinds_all, kinds_few, kinds_sum_to, before_kinds}
use Rattle.numbers.specs.Ranges.{all_below, within, within_high}
use Rattle.function.specs.declared.Elements.{Elements}
use Rattle.function.specs.Elements.{cell_dim, most_dim, elements_right, dims_right}
use Rattle.integrands.specs.Terms.{integrand_right}
use Rattle.cell_pairs.specs.declared.WorkRecord.{WorkRecord}
use Rattle.cell_pairs.specs.Records.{width}
use Rattle.plans.specs.declared.PlanNumbers.{PlanNumbers}
use Rattle.plans.specs.Planning.{dof_places}
use Rattle.runs.specs.Runs.{Run, Plan, Reply, Answer, refused, reply, pairs, record_of, kind_dim, ranges_right, counts_right, kinds_fit, plan_right, pair_left, record_known, record_right, state_checks}
use Rattle.runs.specs.CellDofs.{kind_dim_lem}
use Rattle.boundary_assemblers.specs.declared.Cell.{Cell}
use Rattle.boundary_assemblers.specs.declared.Pair.{Pair}
use Rattle.boundary_assemblers.specs.Forms.{cell_at, dofs_at, pair_at}

-- the most pairs: C·C
abbrev pub most_pairs : ℕ
most_pairs = most_cells * most_cells

-- 21: the elements
pub record Dims (n : PlanNumbers) : Type 0 where
  pub test : elements_right n.triangles n.quads n.test ≡ true
  pub trial : elements_right n.triangles n.quads n.trial ≡ true

pub dims : (n : PlanNumbers) → dims_right n.triangles n.quads n.test n.trial ≡ true → Dims n
unfolding dims_right
dims n h = record { test = and_left _ _ h; trial = and_right _ _ h }

-- 21: the ranges
pub record Ranges (r : Run) : Type 0 where
  pub cells : r.numbers.cells ≤ most_cells
  pub sides : Dims r.numbers
  pub integrand : integrand_right r.numbers.integrand ≡ true
  -- C·C
  pub all_pairs : pairs r.numbers ≤ most_pairs

pub ranges : (r : Run) → ranges_right r ≡ true → Ranges r
unfolding ranges_right
ranges r h =
    let many = within_high _ _ _ (every_at _ h 0) in
    record {
      cells = many;
      sides = dims r.numbers (every_at _ h 3);
      integrand = every_at _ h 4;
      all_pairs = mul-le-mul many many;
    }

-- so the dim of each kind is at most 10
pub kind_few : (n : PlanNumbers) (es : Elements) → elements_right n.triangles n.quads es ≡ true → (k : ℕ) → (k ≡ 3) ⊎ (k ≡ 4) → kind_dim n es k ≤ most_dim
unfolding elements_right ◌or◌
kind_few n es right k known =
    ⊎_elim (λ e. rw e (few (eqb n.triangles 0) (cell_dim es 3) (every_at _ right 0))) (λ e. rw e (few (eqb n.quads 0) (cell_dim es 4) (every_at _ right 1))) known
  where
    few : (none : Bool) (d : ℕ) → (none or within 1 most_dim d) ≡ true → cond none 0 d ≤ most_dim
    few true d t = omega arith
    few false d t = within_high _ _ _ t

-- 21: the counts
pub record Counts (r : Run) : Type 0 where
  pub touching : r.numbers.pairs.triangle_triangle + r.numbers.pairs.triangle_quad + r.numbers.pairs.quad_triangle + r.numbers.pairs.quad_quad ≡ r.numbers.touching
  pub all : r.numbers.touching + r.numbers.distant ≡ pairs r.numbers
  pub position : r.position ≤ pairs r.numbers
  -- an entries run has p from N on
  pub from : r.entries ≡ true → r.numbers.distant ≤ r.position

pub counts : (r : Run) → counts_right r ≡ true → Counts r
unfolding counts_right
counts r h =
    record {
      touching = eqb-true _ _ (every_at _ h 0);
      all = eqb-true _ _ (every_at _ h 1);
      position = leb-true _ _ (every_at _ h 2);
      from = λ e. ⊎_elim (λ n. absurd (true≢false (sym e ∙ not-true _ n))) (λ l. leb-true _ _ l) (or_cases _ _ (every_at _ h 3));
    }

-- 21: the kind list is that of C cells, so many of them triangles and so many quads
pub record Matched (n : PlanNumbers) (ks : List ℕ) : Type 0 where
  pub cells : n.cells ≤ most_cells
  pub kinded : Kinded n.cells ks
  pub triangles : n.triangles ≡ kinds_to ks 3 n.cells
  pub quads : n.quads ≡ kinds_to ks 4 n.cells
  -- the dim of a cell is that of its kind
  pub dims : (i : ℕ) → i < n.cells → (es : Elements) → kind_dim n es (get_or ks i 0) ≡ (cell_at ks es i).dim

pub matched : (n : PlanNumbers) (ks : List ℕ) → n.cells ≤ most_cells → kinds_match n.cells n.triangles n.quads ks ≡ true → Matched n ks
unfolding kinds_match
matched n ks few k =
    let each : Kinded n.cells ks = kinded _ _ (every_at _ k 0) in
    let all : (m : ℕ) → cells_of ks m ≡ kinds_to ks m n.cells = λ m. sym (kinds_all ks m) ∙ ap (λ (i : ℕ). kinds_to ks m i) each.long in
    record {
      cells = few;
      kinded = each;
      triangles = eqb-true _ _ (every_at _ k 1) ∙ all 3;
      quads = eqb-true _ _ (every_at _ k 2) ∙ all 4;
      dims = kind_dim_lem n ks k;
    }

pub kinds_matched : (r : Run) (l : Plan) → ranges_right r ≡ true → kinds_fit r l ≡ true → Matched r.numbers l.kinds
unfolding kinds_fit
kinds_matched r l a k = matched r.numbers l.kinds (ranges r a).cells k

module _ {n : PlanNumbers} {ks : List ℕ} (h : Matched n ks) where
  pub few_kinds : (n.triangles ≤ most_cells) × (n.quads ≤ most_cells)
  few_kinds = (omega (arith, h.triangles, kinds_few ks 3 n.cells, h.cells), omega (arith, h.quads, kinds_few ks 4 n.cells, h.cells))

  -- the DOF places of all cells
  pub places_are : (es : Elements) → n.triangles * cell_dim es 3 + n.quads * cell_dim es 4 ≡ dof_places n.cells ks es
  places_are es = rw (h.triangles, h.quads) (sym (before_kinds ks (cell_dim es) n.cells h.kinded.each))

  module _ (i : ℕ) (l : i < n.cells) where
    -- those of the cells before cell i, by how many of these are quads
    pub start_is : (es : Elements) {q : ℕ} → q ≡ kinds_to ks 4 i → (i - q) * cell_dim es 3 + q * cell_dim es 4 ≡ (cell_at ks es i).start
    start_is es {q} e =
        let both = kinds_sum_to ks i (λ j k. h.kinded.each j (omega arith)) in
        let threes : i - q ≡ kinds_to ks 3 i = omega (arith, both, e) in
        rw (threes, e) (sym (before_kinds ks (cell_dim es) i (λ j k. h.kinded.each j (omega arith))))

    pub quads_few : {q : ℕ} → q ≡ kinds_to ks 4 i → (q ≤ i) × (i ≤ most_cells)
    quads_few e = (omega (arith, e, kinds_few ks 4 i), omega (arith, h.cells))

    -- so a cell is as the code has it
    pub cell_is : (es : Elements) {k q start dim : ℕ} → k ≡ get_or ks i 0 → q ≡ kinds_to ks 4 i → start ≡ (i - q) * cell_dim es 3 + q * cell_dim es 4 → dim ≡ cell_dim es k
        → ◌≡◌ {A = Cell} (record { kind = k; start = start; dim = dim }) (cell_at ks es i)
    cell_is es {k} {q} {start} {dim} a e s d = rw (s, start_is es e, d, a) refl

    -- where there are none, or nothing else, they need no counting
    pub none_before : n.quads ≡ 0 → 0 ≡ kinds_to ks 4 i
    none_before e = omega (arith, e, h.quads, before_le (λ k. gate (eqb k 4) 1) ks i n.cells (omega arith))

    pub all_before : n.triangles ≡ 0 → i ≡ kinds_to ks 4 i
    all_before e = omega (arith, e, h.triangles, before_le (λ k. gate (eqb k 3) 1) ks i n.cells (omega arith), kinds_sum_to ks i (λ j k. h.kinded.each j (omega arith)))

    -- its dim is at most 10
    pub dim_few : (es : Elements) → elements_right n.triangles n.quads es ≡ true → (cell_at ks es i).dim ≤ most_dim
    dim_few es right = omega (arith, h.dims i l es, kind_few n es right (get_or ks i 0) (h.kinded.each i l))

-- ---- record p

-- 21: the work list reaches to the end of record p
pub record_fits : (r : Run) (l : Plan) → counts_right r ≡ true → plan_right r l ≡ true → (r.position ≡ pairs r.numbers → ⊥) → width * (r.position + 1) ≤ length l.work
unfolding plan_right
record_fits r l p h other = let long : length l.work ≡ width * pairs r.numbers = eqb-true _ _ (every_at _ h 4) in omega (arith, (counts r p).position)

-- a known record has cells below C
pub record Known (r : Run) (e : WorkRecord) : Type 0 where
  pub test : e.test < r.numbers.cells
  pub trial : e.trial < r.numbers.cells

pub known : (r : Run) (e : WorkRecord) → record_known r e ≡ true → Known r e
unfolding record_known
known r e h = record { test = ltb-true _ _ (every_at _ h 1); trial = ltb-true _ _ (every_at _ h 2) }

-- the DOFs of a cell lie within the DOF list
pub record Inside (dofs : List ℕ) (c : Cell) : Type 0 where
  pub ends : c.start + c.dim ≤ length dofs

pub inside : (dofs ks : List ℕ) (es : Elements) (C i : ℕ) → length dofs ≡ dof_places C ks es → i < C → Inside dofs (cell_at ks es i)
inside dofs ks es C i e h = record { ends = omega (arith, e, part_inside (cell_dim es) ks C i h) }

pub both_inside : (r : Run) (l : Plan) → plan_right r l ≡ true → (e : WorkRecord) → record_known r e ≡ true
    → Inside l.test_dofs (cell_at l.kinds r.numbers.test e.test) × Inside l.trial_dofs (cell_at l.kinds r.numbers.trial e.trial)
unfolding plan_right
both_inside r l h e k =
    (inside _ _ _ r.numbers.cells _ (eqb-true _ _ (every_at _ h 2)) (known r e k).test, inside _ _ _ r.numbers.cells _ (eqb-true _ _ (every_at _ h 3)) (known r e k).trial)

-- 22: they are below their sizes
abbrev pub dofs_below : Run → List ℕ → List ℕ → Pair → Bool
dofs_below r test_dofs trial_dofs e = all_below (dofs_at test_dofs e.test) r.numbers.rows and all_below (dofs_at trial_dofs e.trial) r.numbers.columns

-- 22, by record p and its cells
pub record_right_lem : (r : Run) (l : Plan) → record_right r l ≡ (record_known r (record_of r l) and dofs_below r l.test_dofs l.trial_dofs (pair_at r l))
unfolding record_right every ◌and◌ part
record_right_lem r l = go (record_known r (record_of r l)) _ _
  where
    go : (a b c : Bool) → every (a ∷ b ∷ c ∷ []) ≡ (a and (b and c))
    go true b c = refl
    go false b c = refl

-- ---- 21, 20, 22 in order

-- of two tests, the first passes
pub second_answers : {a b x : Bool} → a ≡ true → x ≡ b → x ≡ (a and b)
unfolding ◌and◌
second_answers e g = rw e g

-- what 21 reads
abbrev pub read_by21 : Run → Plan → Bool → List Bool
read_by21 r l sized = ranges_right r ∷ counts_right r ∷ kinds_fit r l ∷ plan_right r l ∷ sized ∷ []

-- by the two that are read where the first and the third pass
pub all_read : (a b c d : Bool) {x : Bool} → a ≡ true → c ≡ true → x ≡ (b and d) → x ≡ every (a ∷ b ∷ c ∷ d ∷ true ∷ [])
unfolding every ◌and◌
all_read a b c d p q r = rw (p, q, r) (go b d)
  where
    go : (b d : Bool) → (b and d) ≡ (b and true and d and true)
    go true true = refl
    go true false = refl
    go false d = refl

-- the number of the first of 21, 20, 22 that turns the call down, or 0
abbrev pub state_number : Run → Plan → Bool → ℕ
state_number r l sized = refusal (state_checks r l sized)

module _ (r : Run) (l : Plan) (sized : Bool) where
  pub run_fails : every (read_by21 r l sized) ≡ false → 21 ≡ state_number r l sized
  run_fails h = answers {cs = state_checks r l sized} (fails h)

  module _ (all : every (read_by21 r l sized) ≡ true) where
    pub none_left : r.position ≡ pairs r.numbers → 20 ≡ state_number r l sized
    unfolding pair_left
    none_left h = answers {cs = state_checks r l sized} (all then fails (ap not (eq-eqb _ _ h)))

    module _ (n : r.position ≡ pairs r.numbers → ⊥) where
      pub record_fails : record_right r l ≡ false → 22 ≡ state_number r l sized
      unfolding pair_left
      record_fails h = answers {cs = state_checks r l sized} (all then ap not (ne_eqb _ _ n) then fails h)

      pub none_fails : record_right r l ≡ true → 0 ≡ state_number r l sized
      unfolding pair_left
      none_fails h = answers {cs = state_checks r l sized} (all then ap not (ne_eqb _ _ n) then h then accepted)

-- what 21 and 20 have found of record e, which is known
pub record Next (r : Run) (l : Plan) (e : WorkRecord) : Type 0 where
  pub matched : Matched r.numbers l.kinds
  pub test : e.test < r.numbers.cells
  pub trial : e.trial < r.numbers.cells
  pub test_inside : Inside l.test_dofs (cell_at l.kinds r.numbers.test e.test)
  pub trial_inside : Inside l.trial_dofs (cell_at l.kinds r.numbers.trial e.trial)

module _ (r : Run) (l : Plan) (sized : Bool) (all : every (read_by21 r l sized) ≡ true) where
  pub next_fits : (r.position ≡ pairs r.numbers → ⊥) → width * (r.position + 1) ≤ length l.work
  next_fits = let run = every_at (read_by21 r l sized) all in record_fits r l (run 1) (run 3)

  module _ (e : WorkRecord) (k : record_known r e ≡ true) where
    pub next : Next r l e
    next =
        let run = every_at (read_by21 r l sized) all in
        let both = both_inside r l (run 3) e k in
        let cells = known r e k in
        record { matched = kinds_matched r l (run 0) (run 2); test = cells.test; trial = cells.trial; test_inside = both.0; trial_inside = both.1 }

    -- 22 comes down to the DOFs of its cells
    pub right_by : {t u : Cell} → e ≡ record_of r l → t ≡ cell_at l.kinds r.numbers.test e.test → u ≡ cell_at l.kinds r.numbers.trial e.trial
        → {b : Bool} → (all_below (dofs_at l.test_dofs t) r.numbers.rows and all_below (dofs_at l.trial_dofs u) r.numbers.columns) ≡ b → record_right r l ≡ b
    right_by q x y h = record_right_lem r l ∙ sym (second_answers (rw q at k) (sym (rw (x, y, q) at h)))

-- 22: the record is not known
pub unknown : (r : Run) (l : Plan) (e : WorkRecord) → e ≡ record_of r l → record_known r e ≡ false → record_right r l ≡ false
unknown r l e q h = record_right_lem r l ∙ and_no_left _ _ (rw q at h)

-- none of them does, and this is record p with its cells
pub record Passed (r : Run) (l : Plan) (sized : Bool) (e : Pair) : Type 0 where
  pub none : state_number r l sized ≡ 0
  pub pair : e ≡ pair_at r l

-- what is lent beside the plan: where its length is not right, 21 turns the call down; where it is, the checks are those of the plan alone
module _ (r : Run) (l : Plan) {sized : Bool} where
  pub unsized : sized ≡ false → 21 ≡ state_number r l sized
  unsized h = run_fails r l sized (every_fails (read_by21 r l sized) 4 h)

  module _ (h : sized ≡ true) where
    pub by_plan : {n : ℕ} → n ≡ state_number r l true → n ≡ state_number r l sized
    by_plan e = rw h e

    pub passed_by_plan : {e : Pair} → 0 ≡ state_number r l true → e ≡ pair_at r l → Passed r l sized e
    passed_by_plan n p = record { none = sym (by_plan n); pair = p }

-- the DOFs of a cell of a side: within the list, few, and below the size
pub record Dofs (dofs : List ℕ) (size : ℕ) (c : Cell) : Type 0 where
  pub ends : c.start + c.dim ≤ length dofs
  pub few : c.dim ≤ most_dim
  pub below : all_below (dofs_at dofs c) size ≡ true

-- where none of 21, 20, 22 turns the call down
pub record Standing (r : Run) (test_dofs trial_dofs : List ℕ) (e : Pair) (sized : Bool) : Type 0 where
  pub ranges : Ranges r
  pub counts : Counts r
  pub size : sized ≡ true
  pub below : r.position < pairs r.numbers
  pub test : Dofs test_dofs r.numbers.rows e.test
  pub trial : Dofs trial_dofs r.numbers.columns e.trial
  -- each has the dim of its kind
  pub test_dim_holds : kind_dim r.numbers r.numbers.test e.test.kind ≡ e.test.dim
  pub trial_dim_holds : kind_dim r.numbers r.numbers.trial e.trial.kind ≡ e.trial.dim

pub standing : (r : Run) (l : Plan) (sized : Bool) {e : Pair} → Passed r l sized e → Standing r l.test_dofs l.trial_dofs e sized
unfolding pair_left kinds_fit
standing r l sized {e} h =
    let passes = refusal_at (state_checks r l sized) h.none refl in
    let run = every_at (read_by21 r l sized) (passes 0) in
    let p = counts r (run 1) in
    let m = matched r.numbers l.kinds (ranges r (run 0)).cells (run 2) in
    let other : r.position ≡ pairs r.numbers → ⊥ = eqb-false _ _ (not-true _ (passes 1)) in
    let right : (record_known r (record_of r l) and dofs_below r l.test_dofs l.trial_dofs (pair_at r l)) ≡ true = sym (record_right_lem r l) ∙ passes 2 in
    let k = and_left _ _ right in
    let both = both_inside r l (run 3) (record_of r l) k in
    rw h.pair
    (record {
      ranges = ranges r (run 0);
      counts = p;
      size = run 4;
      below = omega (arith, p.position);
      test = record { ends = both.0.ends; few = dim_few m _ (known r _ k).test _ (ranges r (run 0)).sides.test; below = and_left _ _ (and_right _ _ right) };
      trial = record { ends = both.1.ends; few = dim_few m _ (known r _ k).trial _ (ranges r (run 0)).sides.trial; below = and_right _ _ (and_right _ _ right) };
      test_dim_holds = m.dims _ (known r _ k).test _;
      trial_dim_holds = m.dims _ (known r _ k).trial _;
    })

-- a refusal is answered by its number, and hands the run back
pub reply_refused : (v : Refusal) {n : ℕ} → number_of v ≡ n → (r next : Run) (a : Answer) → ◌≡◌ {A = Reply} (record { run = r; answer = refused (number_of v) }) (reply n r next a)
reply_refused v e r next a = rw (← e) (go (number_of v) (number_nonzero v))
  where
    go : (n : ℕ) → (n ≡ 0 → ⊥) → ◌≡◌ {A = Reply} (record { run = r; answer = refused n }) (reply n r next a)
    go zero h = absurd (h refl)
    go (suc n) h = refl
