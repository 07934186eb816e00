-- What the entries call needs where nothing turns it down, and what it comes to. Assumes nothing.
use Prim.Native.Nat.{ℕ, ◌+◌, ◌-◌, ◌*◌, ◌^◌, ◌≤◌, ◌<◌, min, zero-le}
use Rattle.std.proofs.Common.{mul-le-mul, mul-le-mul_right, zero-mul, suc-mul, sym, ap₂, ◌∙◌, inl, inr}
use Rattle.std.proofs.Math.Nat.{min-eq_left, min-eq_right}
use native.Mathlib.Omega.{arith}
use Rattle.std.specs.Prelude.{◌≡◌, Bool, true, false, ◌⊎◌, length, eqb, ltb, Float}
use Rattle.std.proofs.Math.Path.{refl, ap}
use Rattle.std.proofs.Math.Logic.{⊎_elim}
use mathlib.Core.List.{List, [], ◌∷◌}
use Rattle.std.proofs.lemmas.List.Edits.{sets}
use borrow.Author.Tests.{eqb-true, ltb-true, lt-ltb, le-ltb}
use Rattle.lists.specs.Bool.{◌and◌, ◌or◌, every, every_at, and_left, and_right, or_left, or_cases}
use Rattle.lists.specs.Bounded.{lt_or_le}
use Rattle.lists.specs.Refusals.{Check, check, refusal, unless, refusal_fails, refusal_passes}
use Rattle.refusals.specs.declared.Refusal.{Refusal}
use Rattle.refusals.specs.declared.Refusal.TheVariants.{Record, Kind}
use Rattle.refusals.specs.Numbers.{number_of}
use Rattle.grid.specs.Cells.{part}
use Rattle.grid.specs.Mesh.{most_cells, most_vertices, most_edges}
use Rattle.numbers.specs.Ranges.{within}
use Rattle.lent_numbers.specs.Lent.{Touching, touching_checks}
use Rattle.lent_numbers.specs.Entries.{touching_entry}
use Rattle.integrands.specs.Columns.{Held}
use Rattle.scatter.specs.Adding.{local_rows, local_columns, local_values}
use Rattle.scatter.specs.AddingFacts.{local_values_ext}
use Rattle.scatter.specs.Entries.{entry_at, HasRoom}
use Rattle.function.specs.Elements.{most_dim, dims_right}
use Rattle.integrands.specs.Terms.{integrand_right}
use Rattle.cell_pairs.specs.Blocks.{Block, block, block_at, entries_before}
use Rattle.plans.specs.declared.PlanNumbers.{PlanNumbers}
use Rattle.runs.specs.Runs.{Run, Plan, EntryLists, entry_lists, written, blocks, entries_on, entries_to, ranges_right, counts_right, kinds_fit, plan_right, pair_left, record_right, is_touching, entries_right, entry_place, kinds_put, entries_refusal, add_entries, entries_written, advance, Reply, Answer, accepted, refused}
use Rattle.boundary_assemblers.specs.RunFacts.{Dims, kind_few, state_number, Passed, Counts, Standing, standing}
use Rattle.boundary_assemblers.specs.AddFacts.{dofs_long, by_state, by_rest, by_none}
use Rattle.boundary_assemblers.specs.Forms.{dofs_at}
use Rattle.boundary_assemblers.specs.declared.Pair.{Pair}

-- 21 reads the elements among the ranges, so that it does no harm to read them again with the entry lists
pub sized_same : (r : Run) (l : Plan) (b : Bool)
    → state_number r l (dims_right r.numbers.triangles r.numbers.quads r.numbers.test r.numbers.trial and b) ≡ state_number r l b
unfolding refusal unless every ◌and◌ ranges_right
sized_same r l b =
    ap (λ (x : Bool). unless x 21 (refusal (check 20 (pair_left r) ∷ check 22 (record_right r l) ∷ [])))
    (go (within 1 most_cells r.numbers.cells) (within 3 most_vertices r.numbers.vertices) (within 3 most_edges r.numbers.edges) (dims_right r.numbers.triangles r.numbers.quads r.numbers.test r.numbers.trial) (integrand_right r.numbers.integrand) (counts_right r) (kinds_fit r l) (plan_right r l))
  where
    go : (x y z d f c k w : Bool) → ((x and y and z and d and f) and c and k and w and (d and b)) ≡ ((x and y and z and d and f) and c and k and w and b)
    go true true true true f c k w = refl
    go true true true false f c k w = refl
    go true true false d f c k w = refl
    go true false z d f c k w = refl
    go false y z d f c k w = refl

-- ---- blocks

-- the records of all blocks
unfoldable pairs_in : List Block → ℕ
pairs_in [] = 0
pairs_in (b ∷ bs) = b.pairs + pairs_in bs

module _ (size : ℕ → ℕ → ℕ) where
  -- no record has no entries
  entries_none : (bs : List Block) → entries_before size bs 0 ≡ 0
  unfolding entries_before
  entries_none [] = refl
  entries_none (b ∷ bs) = go b.pairs (size b.test_kind b.trial_kind) (entries_none bs)
    where
      none : (n : ℕ) → 0 - n ≡ 0
      none n = omega arith

      go : (n s : ℕ) → entries_before size bs 0 ≡ 0 → min 0 n * s + entries_before size bs (0 - n) ≡ 0
      go n s e = rw (min-eq_left {n = 0} {m = n} zero-le, zero-mul s, none n) (omega (arith, e))

  first_block : (b : Block) (bs : List Block) (q : ℕ) → q ≤ b.pairs → entries_before size (b ∷ bs) q ≡ q * size b.test_kind b.trial_kind
  unfolding entries_before
  first_block b bs q h =
      let z : q - b.pairs ≡ 0 = omega arith in
      rw (min-eq_left h, z, entries_none bs) (omega arith)

  later_block : (b : Block) (bs : List Block) (q : ℕ) → b.pairs ≤ q → entries_before size (b ∷ bs) q ≡ b.pairs * size b.test_kind b.trial_kind + entries_before size bs (q - b.pairs)
  unfolding entries_before
  later_block b bs q h = rw (min-eq_right h) refl

  -- the entries of record q end before those of all records do
  block_fits : (bs : List Block) (q : ℕ) → q < pairs_in bs → entries_before size bs q + size (block_at bs q).test_kind (block_at bs q).trial_kind ≤ entries_before size bs (pairs_in bs)
  unfolding block_at pairs_in
  block_fits [] q h = absurd (omega arith)
  block_fits (b ∷ bs) q h = ⊎_elim (here b bs q) (λ l. later b bs q h l (block_fits bs (q - b.pairs))) (lt_or_le q b.pairs)
    where
      rest : (b : Block) (bs : List Block) → b.pairs + pairs_in bs - b.pairs ≡ pairs_in bs
      rest b bs = omega arith

      here : (b : Block) (bs : List Block) (q : ℕ) → q < b.pairs
          → entries_before size (b ∷ bs) q + size (block_at (b ∷ bs) q).test_kind (block_at (b ∷ bs) q).trial_kind ≤ entries_before size (b ∷ bs) (b.pairs + pairs_in bs)
      here b bs q l =
          rw (lt-ltb q b.pairs l, first_block b bs q (omega arith), later_block b bs (b.pairs + pairs_in bs) (omega arith))
          (omega (arith, suc-mul q (size b.test_kind b.trial_kind), mul-le-mul_right (size b.test_kind b.trial_kind) l))

      later : (b : Block) (bs : List Block) (q : ℕ) → q < b.pairs + pairs_in bs → b.pairs ≤ q
          → (q - b.pairs < pairs_in bs → entries_before size bs (q - b.pairs) + size (block_at bs (q - b.pairs)).test_kind (block_at bs (q - b.pairs)).trial_kind ≤ entries_before size bs (pairs_in bs))
          → entries_before size (b ∷ bs) q + size (block_at (b ∷ bs) q).test_kind (block_at (b ∷ bs) q).trial_kind ≤ entries_before size (b ∷ bs) (b.pairs + pairs_in bs)
      later b bs q h l more =
          rw (le-ltb q b.pairs l, later_block b bs q l, later_block b bs (b.pairs + pairs_in bs) (omega arith), rest b bs) (omega (arith, more (omega arith)))

-- ---- the entries of the first touching records, block after block

four_by : {a b c d : ℕ} (s t u v a' b' c' d' : ℕ) → a ≡ a' → b ≡ b' → c ≡ c' → d ≡ d' → a * s + b * t + c * u + d * v ≡ a' * s + (b' * t + (c' * u + (d' * v + 0)))
four_by s t u v a' b' c' d' ea eb ec ed = rw (ea, eb, ec, ed) (omega arith)

sub_min : (q s : ℕ) → q - min q s ≡ q - s
sub_min q s = omega arith

-- q records less those of a block
less : (s : ℕ) {q q' a : ℕ} → q ≡ q' → a ≡ min q s → q - a ≡ q' - s
less s {q} {q'} {a} e h = ap (λ (x : ℕ). q - x) h ∙ sub_min q s ∙ ap (λ (x : ℕ). x - s) e

-- each dim is at most 10, so that so many records, any u32, have at most so many
abbrev pub most_entries : ℕ
most_entries = 2 ^ 32 * (most_dim * most_dim)

module _ {p : PlanNumbers} (h : Dims p) (n k : ℕ) (test : (n ≡ 3) ⊎ (n ≡ 4)) (trial : (k ≡ 3) ⊎ (k ≡ 4)) where
  pub one_few : entries_on p n k ≤ most_dim * most_dim
  one_few = mul-le-mul (kind_few p p.test h.test n test) (kind_few p p.trial h.trial k trial)

  pub block_few : {records : ℕ} → records ≤ 2 ^ 32 → records * entries_on p n k ≤ most_entries
  block_few few = mul-le-mul few one_few

four_fit : {x y z w : ℕ} → x ≤ most_entries → y ≤ most_entries → z ≤ most_entries → w ≤ most_entries → x + y + z + w < 2 ^ 64
four_fit f g h k = omega arith

least_few : (q s : ℕ) {a most : ℕ} → a ≡ min q s → q ≤ most → a ≤ most
least_few q s e h = omega arith

left_few : (q a : ℕ) {most : ℕ} → q ≤ most → q - a ≤ most
left_few q a h = omega arith

-- by how many of the first q records stand in each block
module _ (r : Run) (q : ℕ) {a b c d : ℕ} (ea : a ≡ min q r.numbers.pairs.triangle_triangle) (eb : b ≡ min (q - a) r.numbers.pairs.triangle_quad)
    (ec : c ≡ min (q - a - b) r.numbers.pairs.quad_triangle) (ed : d ≡ min (q - a - b - c) r.numbers.pairs.quad_quad) where
  abbrev pub in_blocks : ℕ
  in_blocks = a * entries_on r.numbers 3 3 + b * entries_on r.numbers 3 4 + c * entries_on r.numbers 4 3 + d * entries_on r.numbers 4 4

  pub entries_by : in_blocks ≡ entries_to r.numbers q
  unfolding entries_before
  entries_by =
      let n = r.numbers in
      let one = less n.pairs.triangle_triangle refl ea in
      let two = less n.pairs.triangle_quad one eb in
      let three = less n.pairs.quad_triangle two ec in
      four_by (entries_on n 3 3) (entries_on n 3 4) (entries_on n 4 3) (entries_on n 4 4) _ _ _ _ ea
      (eb ∙ ap (λ (x : ℕ). min x n.pairs.triangle_quad) one)
      (ec ∙ ap (λ (x : ℕ). min x n.pairs.quad_triangle) two)
      (ed ∙ ap (λ (x : ℕ). min x n.pairs.quad_quad) three)

  pub entries_fit_holds : Dims r.numbers → q ≤ 2 ^ 32 → in_blocks < 2 ^ 64
  entries_fit_holds h few =
      let behind_one = left_few q a few in
      let behind_two = left_few (q - a) b behind_one in
      let behind_three = left_few (q - a - b) c behind_two in
      four_fit (block_few h 3 3 (inl refl) (inl refl) (least_few q _ ea few)) (block_few h 3 4 (inl refl) (inr refl) (least_few (q - a) _ eb behind_one))
      (block_few h 4 3 (inr refl) (inl refl) (least_few (q - a - b) _ ec behind_two)) (block_few h 4 4 (inr refl) (inr refl) (least_few (q - a - b - c) _ ed behind_three))

-- ---- 22 of the entries call

-- by the kinds of the two cells
abbrev pub put_at : Run → ℕ → ℕ → Bool
put_at r n k =
    let b = block_at (blocks r.numbers) (r.position - r.numbers.distant) in
    ltb r.position r.numbers.distant or (eqb n b.test_kind and eqb k b.trial_kind)

module _ (r : Run) (n k : ℕ) where
  pub put_early : r.position < r.numbers.distant → true ≡ put_at r n k
  put_early h = sym (or_left _ _ (lt-ltb _ _ h))

  pub put_in : r.numbers.distant ≤ r.position → (b : Block) → block_at (blocks r.numbers) (r.position - r.numbers.distant) ≡ b → (eqb n b.test_kind and eqb k b.trial_kind) ≡ put_at r n k
  unfolding ◌or◌
  put_in from b e = rw (le-ltb r.position r.numbers.distant from, e) refl

-- the block of record q
module _ (n : PlanNumbers) (q : ℕ) where
  pub block_one : q < n.pairs.triangle_triangle → block_at (blocks n) q ≡ block 3 3 n.pairs.triangle_triangle
  unfolding block_at
  block_one h = rw (lt-ltb _ _ h) refl

  module _ (one : n.pairs.triangle_triangle ≤ q) where
    pub block_two : q - n.pairs.triangle_triangle < n.pairs.triangle_quad → block_at (blocks n) q ≡ block 3 4 n.pairs.triangle_quad
    unfolding block_at
    block_two h = rw (le-ltb _ _ one, lt-ltb _ _ h) refl

    module _ (two : n.pairs.triangle_quad ≤ q - n.pairs.triangle_triangle) where
      pub block_three : q - n.pairs.triangle_triangle - n.pairs.triangle_quad < n.pairs.quad_triangle → block_at (blocks n) q ≡ block 4 3 n.pairs.quad_triangle
      unfolding block_at
      block_three h = rw (le-ltb _ _ one, le-ltb _ _ two, lt-ltb _ _ h) refl

      pub block_four : n.pairs.quad_triangle ≤ q - n.pairs.triangle_triangle - n.pairs.triangle_quad
          → q - n.pairs.triangle_triangle - n.pairs.triangle_quad - n.pairs.quad_triangle < n.pairs.quad_quad → block_at (blocks n) q ≡ block 4 4 n.pairs.quad_quad
      unfolding block_at
      block_four three h = rw (le-ltb _ _ one, le-ltb _ _ two, le-ltb _ _ three, lt-ltb _ _ h) refl

-- a touching record that is in none of the first three is in the last
pub last_left : (p n s all a b c d : ℕ) → a + b + c + d ≡ s → s + n ≡ all → p < all → n ≤ p → a ≤ p - n → b ≤ p - n - a → c ≤ p - n - a - b → p - n - a - b - c < d
last_left p n s all a b c d e f below from one two three = omega arith

-- the entries call checks it, then 23, by the record and the run, then 9 to 11
abbrev pub entries_behind : Run → Touching → Pair → List Check
entries_behind r a e =
    check 22 (put_at r e.test.kind e.trial.kind) ∷ check 23 (is_touching e.item.pattern and r.entries)
    ∷ touching_checks r.numbers.integrand e.test.dim e.trial.dim a

-- ---- what is written

-- the entry lists reach to the end of the entries of record p
pub record Fit (r : Run) (e : Pair) (lists : EntryLists) : Type 0 where
  pub from : r.numbers.distant ≤ r.position
  pub rows : entry_place r + e.test.dim * e.trial.dim ≤ length lists.rows
  pub columns : entry_place r + e.test.dim * e.trial.dim ≤ length lists.columns
  pub values : entry_place r + e.test.dim * e.trial.dim ≤ length lists.values

all_pairs_in : (r : Run) → Counts r → pairs_in (blocks r.numbers) ≡ r.numbers.touching
unfolding pairs_in
all_pairs_in r h = omega (arith, h.touching)

pub fit : (r : Run) (l : Plan) (lists : EntryLists) {e : Pair} → Passed r l (entries_right r lists) e → r.entries ≡ true → put_at r e.test.kind e.trial.kind ≡ true → Fit r e lists
unfolding entries_right
fit r l lists {e} s run put =
    let h = standing r l (entries_right r lists) s in
    let from = h.counts.from run in
    let q = r.position - r.numbers.distant in
    let b = block_at (blocks r.numbers) q in
    let kinds : (eqb e.test.kind b.test_kind and eqb e.trial.kind b.trial_kind) ≡ true =
    ⊎_elim (λ t. absurd (omega (arith, from, ltb-true r.position r.numbers.distant t))) (λ x. x) (or_cases _ _ put) in
    let dims : e.test.dim * e.trial.dim ≡ entries_on r.numbers b.test_kind b.trial_kind =
    ap₂ ◌*◌ (sym h.test_dim_holds) (sym h.trial_dim_holds) ∙ ap₂ (λ (n k : ℕ). entries_on r.numbers n k) (eqb-true e.test.kind b.test_kind (and_left _ _ kinds))
    (eqb-true e.trial.kind b.trial_kind (and_right _ _ kinds)) in
    let early : q < pairs_in (blocks r.numbers) = omega (arith, all_pairs_in r h.counts, h.counts.all, h.below, from) in
    let most = block_fits (entries_on r.numbers) (blocks r.numbers) q early in
    let all : entries_to r.numbers (pairs_in (blocks r.numbers)) ≡ entries_to r.numbers r.numbers.touching = ap (λ (n : ℕ). entries_to r.numbers n) (all_pairs_in r h.counts) in
    let one : (size : ℕ) → size ≡ entries_to r.numbers r.numbers.touching → entry_place r + e.test.dim * e.trial.dim ≤ size = λ size z. omega (arith, z, most, all, dims) in
    record {
      from = from;
      rows = one (length lists.rows) (eqb-true _ _ (every_at _ h.size 0));
      columns = one (length lists.columns) (eqb-true _ _ (every_at _ h.size 1));
      values = one (length lists.values) (eqb-true _ _ (every_at _ h.size 2));
    }

-- row, column and value of each local entry, by the DOFs of the two cells
abbrev pub written_at : Run → Pair → List ℕ → List ℕ → (ℕ → ℕ → Float) → EntryLists → EntryLists
written_at r e ts us entry lists =
    entry_lists (sets lists.rows (entry_place r) (local_rows ts us)) (sets lists.columns (entry_place r) (local_columns ts us))
    (sets lists.values (entry_place r) (local_values entry e.test.dim e.trial.dim))

-- by the local matrix of the record's pair
pub values_are : (r : Run) (l : Plan) (sized : Bool) {e : Pair} → Passed r l sized e
    → (lists : EntryLists) {entries : List Float} (entry : ℕ → ℕ → Float) → Held e.test.dim e.trial.dim entries entry
    → written_at r e (dofs_at l.test_dofs e.test) (dofs_at l.trial_dofs e.trial) (entry_at entries e.test.dim) lists ≡ written r l entry lists
unfolding part
values_are r l sized {e} s lists {entries} entry held =
    ap (λ (v : List Float). entry_lists (sets lists.rows (entry_place r) (local_rows (dofs_at l.test_dofs e.test) (dofs_at l.trial_dofs e.trial)))
    (sets lists.columns (entry_place r) (local_columns (dofs_at l.test_dofs e.test) (dofs_at l.trial_dofs e.trial)))
    (sets lists.values (entry_place r) v)) (local_values_ext (entry_at entries e.test.dim) entry e.test.dim e.trial.dim held.at)
    ∙ ap (λ (p : Pair). written_at r p (dofs_at l.test_dofs p.test) (dofs_at l.trial_dofs p.trial) entry lists) s.pair

-- the entry lists have room for the local matrix
pub has_room : {r : Run} {ts us : List ℕ} {e : Pair} {lists : EntryLists} {sized : Bool} → Standing r ts us e sized → Fit r e lists
    → HasRoom (entry_place r) lists.rows lists.columns lists.values (dofs_at ts e.test) (dofs_at us e.trial)
has_room h f =
    record {
      for_rows = rw (dofs_long h.test, dofs_long h.trial) f.rows;
      for_columns = rw (dofs_long h.test, dofs_long h.trial) f.columns;
      for_values = rw (dofs_long h.test, dofs_long h.trial) f.values;
      few = omega (arith, dofs_long h.test, h.test.few);
      few_trial = omega (arith, dofs_long h.trial, h.trial.few);
    }

-- by what the code has in hand
pub written_is : {r : Run} {ts us : List ℕ} {e : Pair} {sized : Bool} → Standing r ts us e sized → (lists : EntryLists) (entries : List Float) {rows columns : List ℕ} {values : List Float}
    → rows ≡ sets lists.rows (entry_place r) (local_rows (dofs_at ts e.test) (dofs_at us e.trial))
    → columns ≡ sets lists.columns (entry_place r) (local_columns (dofs_at ts e.test) (dofs_at us e.trial))
    → values ≡ sets lists.values (entry_place r) (local_values (entry_at entries (length (dofs_at ts e.test))) (length (dofs_at ts e.test)) (length (dofs_at us e.trial)))
    → entry_lists rows columns values ≡ written_at r e (dofs_at ts e.test) (dofs_at us e.trial) (entry_at entries e.test.dim) lists
written_is h lists entries x y z = rw (x, y, rw (dofs_long h.test, dofs_long h.trial) at z) refl

-- ---- the ways the entries call ends

module _ (a : Touching) (r : Run) (l : Plan) (lists : EntryLists) where
  abbrev Entered : Run → Answer → EntryLists → Type 0
  Entered next answer lists' = (◌≡◌ {A = Reply} (record { run = next; answer = answer }) (add_entries r l lists a)) × (lists' ≡ entries_written r l lists a)

  abbrev sized : Bool
  sized = entries_right r lists

  -- 21, 20 or 22 turns it down
  pub entries_by_state : (v : Refusal) → number_of v ≡ state_number r l sized → Entered r (refused (number_of v)) lists
  unfolding add_entries entries_written entries_refusal kinds_put
  entries_by_state v e = by_state r l sized (entries_behind r a) lists _ v e

  module _ {e : Pair} (s : Passed r l sized e) where
    -- 22 by the kinds does
    pub entries_by_put : put_at r e.test.kind e.trial.kind ≡ false → Entered r (refused 22) lists
    unfolding add_entries entries_written entries_refusal kinds_put
    entries_by_put h = by_rest r l sized (entries_behind r a) lists _ s (sym (refusal_fails 22 _ _ h)) Record refl

    module _ (put : put_at r e.test.kind e.trial.kind ≡ true) where
      -- 23 does
      pub entries_by_kind : (is_touching e.item.pattern and r.entries) ≡ false → Entered r (refused 23) lists
      unfolding add_entries entries_written entries_refusal kinds_put
      entries_by_kind h =
          by_rest r l sized (entries_behind r a) lists _ s (sym (refusal_passes 22 _ _ put ∙ refusal_fails 23 _ _ h)) Kind refl

      module _ (h : (is_touching e.item.pattern and r.entries) ≡ true) {n : ℕ} (last : n ≡ refusal (touching_checks r.numbers.integrand e.test.dim e.trial.dim a)) where
        last_is : n ≡ refusal (entries_behind r a e)
        last_is = last ∙ sym (refusal_passes 22 _ _ put ∙ refusal_passes 23 _ _ h)

        -- one of 9 to 11 does
        pub entries_by_lent : (v : Refusal) → number_of v ≡ n → Entered r (refused (number_of v)) lists
        unfolding add_entries entries_written entries_refusal kinds_put
        entries_by_lent v q = by_rest r l sized (entries_behind r a) lists _ s last_is v q

        -- none does, and the entries are written
        pub entries_by_none : n ≡ 0 → {lists' : EntryLists} {entries : List Float} → Held e.test.dim e.trial.dim entries (touching_entry r.numbers.integrand a)
            → lists' ≡ written_at r e (dofs_at l.test_dofs e.test) (dofs_at l.trial_dofs e.trial) (entry_at entries e.test.dim) lists
            → Entered (record { numbers = r.numbers; entries = r.entries; position = r.position + 1 }) accepted lists'
        unfolding add_entries entries_written entries_refusal kinds_put advance
        entries_by_none z held w =
            by_none r l sized (entries_behind r a) lists _ s last_is z refl (w ∙ values_are r l sized s lists (touching_entry r.numbers.integrand a) held)
