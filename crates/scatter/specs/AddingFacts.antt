-- Laws on local matrices put into the matrix and into entry lists: which entries count, and how long the lists are. Assumes nothing.
use Rattle.std.specs.Prelude.{ℕ, take, drop, replicate, ◌+◌, ◌*◌, ◌≤◌, ◌<◌, ◌≡◌, refl, length, get_or, set, Float}
use Rattle.std.proofs.Common.{arith, zero-add, sym, ap, ap₂, ◌∙◌, length-set}
use mathlib.Core.List.{List, ◌++◌, flat_map, map}
use borrow.Rule.Slice.PartMut.{put_mid}
use Rattle.std.specs.Float.{nan}
use Rattle.std.specs.List.{between}
use Rattle.std.proofs.Math.Seq.{take-length}
use Rattle.std.proofs.lemmas.Slice.{put_mid-paste}
use Rattle.std.proofs.lemmas.Simd.{splat_is_map}
use Rattle.std.proofs.lemmas.List.Edits.{sets, sets-eq, get_or-between}
use Rattle.lists.specs.Stores.{sets_all}
use Rattle.lists.specs.Writes.{Stores, stores_turn, stores_done, Blocks, blocks_room, blocks_turn, blocks_done}
use Rattle.numbers.specs.Floats.{◌!◌}
use Rattle.std.proofs.lemmas.List.{length-map}
use Rattle.lists.specs.Range.{range, length_range, flat_map_below, flat_map_places, map_below, map_places, length_blocks}
use Rattle.lists.specs.Fold.{upto, upto_keeps, upto_ext, Folded, folded_turn}
use Rattle.lists.specs.Places.{in_row}
use Rattle.scatter.specs.Adding.{add_at, add_local, local_rows, local_columns, local_values}
use Rattle.function.specs.Elements.{most_dim}
use Rattle.scatter.specs.Entries.{entry_at, AddFits, ColumnFits, add_row, add_column, add_trial}

-- entry (i,j) is among the hundred, and so is (j,i)
pub in_hundred : {m i j : ℕ} → m ≤ most_dim → i < m → j < most_dim → (j + m * i < 100) × (i + m * j < 100)
in_hundred {m} {i} {j} hm hi hj = omega (arith, in_row m most_dim i (omega arith), in_row m most_dim j hj)

-- ---- the matrix

pub length_add_at : (M : List Float) (at : ℕ) (v : Float) → length (add_at M at v) ≡ length M
unfolding add_at
length_add_at M at v = length-set M at _

pub length_add_local : (entry : ℕ → ℕ → Float) (rows : ℕ) (test_dofs trial_dofs : List ℕ) (M : List Float)
    → length (add_local entry rows test_dofs trial_dofs M) ≡ length M
unfolding add_local
length_add_local entry rows test_dofs trial_dofs M =
    upto_keeps length _ (λ j A. upto_keeps length _ (λ i B. length_add_at B _ _) (length test_dofs) A) (length trial_dofs) M

-- a turn of the loop over the test basis
pub row_turn : (entry : ℕ → Float) (base : ℕ) (test_dofs : List ℕ) {xs ys : List Float} {i row : ℕ} {v : Float}
    → Folded (add_row entry base test_dofs) (length test_dofs) xs ys i → i < length test_dofs → row ≡ get_or test_dofs i 0 → v ≡ entry i
    → Folded (add_row entry base test_dofs) (length test_dofs) xs (add_at ys (row + base) v) (i + 1)
unfolding add_row
row_turn entry base test_dofs {ys = ys} {i} {row} {v} h l e f =
    folded_turn h l (length_add_at ys (row + base) v) (ap₂ (λ (r : ℕ) (x : Float). add_at ys (r + base) x) e f)

-- what a turn of the loop over the trial basis needs, what it does, and the whole loop
pub column_fits : {M : List Float} {rows columns : ℕ} {test_dofs trial_dofs : List ℕ} → AddFits M rows columns test_dofs trial_dofs
    → {j : ℕ} → j < length trial_dofs → {column : ℕ} → column ≡ get_or trial_dofs j 0 → {A : List Float} → length A ≡ length M
    → ColumnFits A rows (rows * column) test_dofs
column_fits {rows = rows} {columns} h {j} l {column} e same =
    record { size = omega (arith, h.size, in_row rows columns column (omega (arith, h.trial j l))); test = h.test }

pub trial_turn : (entry : ℕ → ℕ → Float) (rows : ℕ) (test_dofs trial_dofs : List ℕ) {xs ys zs : List Float} {j column : ℕ}
    → Folded (add_trial entry rows test_dofs trial_dofs) (length trial_dofs) xs ys j → j < length trial_dofs → column ≡ get_or trial_dofs j 0
    → length zs ≡ length ys → zs ≡ add_column (λ i. entry i j) (rows * column) test_dofs ys
    → Folded (add_trial entry rows test_dofs trial_dofs) (length trial_dofs) xs zs (j + 1)
unfolding add_trial
trial_turn entry rows test_dofs trial_dofs {ys = ys} {j = j} h l e same turn =
    folded_turn h l same (turn ∙ ap (λ (k : ℕ). add_column (λ i. entry i j) (rows * k) test_dofs ys) e)

-- the entries of trial basis j, read from where they begin
pub column_entries : (entries : List Float) (test_dofs : List ℕ) (j base : ℕ) (M : List Float)
    → add_column (λ i. between (length test_dofs * j) (length test_dofs * j + length test_dofs) entries ! i) base test_dofs M
    ≡ add_column (λ i. entry_at entries (length test_dofs) i j) base test_dofs M
unfolding add_row
column_entries entries test_dofs j base M =
    let m : ℕ = length test_dofs in
    upto_ext _ _ m
    (λ i h A. ap (λ (v : Float). add_at A (get_or test_dofs i 0 + base) v)
    (get_or-between entries (m * j) (m * j + m) i nan (omega arith) ∙ ap (λ (k : ℕ). entries ! k) (omega arith))) M

pub trial_all : (entry : ℕ → ℕ → Float) (rows : ℕ) (test_dofs trial_dofs : List ℕ) (M : List Float)
    → upto (add_trial entry rows test_dofs trial_dofs) (length trial_dofs) M ≡ add_local entry rows test_dofs trial_dofs M
unfolding add_local add_trial add_row
trial_all entry rows test_dofs trial_dofs M = refl

-- entries that agree within the local matrix are the same add
pub add_local_ext : (f g : ℕ → ℕ → Float) (rows : ℕ) (test_dofs trial_dofs : List ℕ)
    → ((i j : ℕ) → i < length test_dofs → j < length trial_dofs → f i j ≡ g i j)
    → (M : List Float) → add_local f rows test_dofs trial_dofs M ≡ add_local g rows test_dofs trial_dofs M
unfolding add_local
add_local_ext f g rows test_dofs trial_dofs h M =
    upto_ext _ _ (length trial_dofs)
    (λ j hj A. upto_ext _ _ (length test_dofs) (λ i hi B. ap (add_at B (get_or test_dofs i 0 + rows * get_or trial_dofs j 0)) (h i j hi hj)) A)
    M

-- ---- the entry lists

-- values that agree within the local matrix are the same list
pub local_values_ext : (f g : ℕ → ℕ → Float) (m n : ℕ) → ((i j : ℕ) → i < m → j < n → f i j ≡ g i j) → local_values f m n ≡ local_values g m n
unfolding local_values
local_values_ext f g m n h = flat_map_below _ _ n (λ j hj. map_below _ _ m (λ i hi. h i j hi hj))

-- column after column, by the places of the trial DOFs
pub rows_places : (test_dofs trial_dofs : List ℕ) → local_rows test_dofs trial_dofs ≡ flat_map (λ j. test_dofs) (range (length trial_dofs))
unfolding local_rows
rows_places test_dofs trial_dofs = flat_map_places (λ column. test_dofs) trial_dofs 0

pub columns_places : (test_dofs trial_dofs : List ℕ)
    → local_columns test_dofs trial_dofs ≡ flat_map (λ j. map (λ row. get_or trial_dofs j 0) test_dofs) (range (length trial_dofs))
unfolding local_columns
columns_places test_dofs trial_dofs = flat_map_places (λ column. map (λ row. column) test_dofs) trial_dofs 0

pub length_local_rows : (test_dofs trial_dofs : List ℕ) → length (local_rows test_dofs trial_dofs) ≡ length test_dofs * length trial_dofs
length_local_rows test_dofs trial_dofs =
    ap length (rows_places test_dofs trial_dofs) ∙ length_blocks _ (length test_dofs) (λ j. refl) (length trial_dofs)

pub length_local_columns : (test_dofs trial_dofs : List ℕ) → length (local_columns test_dofs trial_dofs) ≡ length test_dofs * length trial_dofs
length_local_columns test_dofs trial_dofs =
    ap length (columns_places test_dofs trial_dofs) ∙ length_blocks _ (length test_dofs) (λ j. length-map test_dofs _) (length trial_dofs)

pub length_local_values : (entry : ℕ → ℕ → Float) (m n : ℕ) → length (local_values entry m n) ≡ m * n
unfolding local_values
length_local_values entry m n = length_blocks _ m (λ j. length-map (range m) _ ∙ length_range m) n

-- ---- the loops over the trial basis that write a list

-- so many elements written over those from a on
put_block : {A : Type 0} (a k : ℕ) (xs ys : List A) → length ys ≡ k → a + k ≤ length xs → put_mid a k xs ys ≡ sets xs a ys
put_block a k xs ys e r =
    put_mid-paste a k xs ys ys (length ys) refl e refl ∙ ap (λ l. take a xs ++ l ++ drop (a + length ys) xs) (take-length ys) ∙ sym (sets-eq ys xs a (omega arith))

-- a turn of the loop that writes a column of the values, and the whole loop
pub stored_turn : (entries : List Float) (j : ℕ) {m i : ℕ} {before after : List Float} → Stores (λ i. entry_at entries m i j) m before after 0 i → i < m → {v : Float}
    → v ≡ entries ! (i + m * j) → Stores (λ i. entry_at entries m i j) m before (set after i v) 0 (i + 1)
stored_turn entries j {m} {i} f h e = rw e (rw (zero-add i) at (stores_turn f h))

pub stored_done : (entries : List Float) (j : ℕ) {i : ℕ} {before after : List Float} → Stores (λ i. entry_at entries (length before) i j) (length before) before after 0 i → length before ≤ i
    → after ≡ map (λ i. entry_at entries (length before) i j) (range (length before))
stored_done entries j {before = before} f h = stores_done f h ∙ sets_all before _ (length-map (range (length before)) _ ∙ length_range (length before))

-- the same of a list copied
pub copied_turn : (vs : List ℕ) {n i : ℕ} {before after : List ℕ} → Stores (λ i. get_or vs i 0) n before after 0 i → i < n → {v : ℕ}
    → v ≡ get_or vs i 0 → Stores (λ i. get_or vs i 0) n before (set after i v) 0 (i + 1)
copied_turn vs {n} {i} f h e = rw e (rw (zero-add i) at (stores_turn f h))

pub copied_done : (vs : List ℕ) {i : ℕ} {before after : List ℕ} → Stores (λ i. get_or vs i 0) (length before) before after 0 i → length before ≡ length vs
    → length before ≤ i → after ≡ vs
copied_done vs {before = before} f e h =
    stores_done f h ∙ ap (λ n. sets before 0 (map (λ i. get_or vs i 0) (range n))) e ∙ ap (sets before 0) (map_places vs 0) ∙ sets_all before vs (sym e)

-- a turn of each of the three: the block of column j is written over a part of the list
pub block_turn : {A : Type 0} {f : ℕ → List A} {w n at j k : ℕ} {xs ys zs : List A} → Blocks f w n xs ys at j → ((i : ℕ) → length (f i) ≡ w) → j < n
    → at + w * n ≤ length xs → zs ≡ f j → k ≡ w → Blocks f w n xs (put_mid (at + w * j) k ys zs) at (j + 1)
block_turn {f = f} {w} {at = at} {j} {k} {ys = ys} {zs} b e h room ez ek =
    let p = blocks_room b h room in
    blocks_turn b e h (put_block (at + w * j) k ys zs (ap length ez ∙ e j ∙ sym ek) (omega arith) ∙ ap (sets ys (at + w * j)) ez)

pub rows_done : (test_dofs trial_dofs : List ℕ) {at j : ℕ} {xs ys : List ℕ} → Blocks (λ _. test_dofs) (length test_dofs) (length trial_dofs) xs ys at j
    → length trial_dofs ≤ j → ys ≡ sets xs at (local_rows test_dofs trial_dofs)
rows_done test_dofs trial_dofs b h = rw rows_places (blocks_done b h)

-- the column numbers of trial basis j, as often as there are test DOFs
abbrev pub column_of : List ℕ → List ℕ → ℕ → List ℕ
column_of test_dofs trial_dofs j = map (λ row. get_or trial_dofs j 0) test_dofs

pub column_filled : (test_dofs trial_dofs : List ℕ) (j : ℕ) {c n : ℕ} → c ≡ get_or trial_dofs j 0 → n ≡ length test_dofs → replicate n c ≡ column_of test_dofs trial_dofs j
column_filled test_dofs trial_dofs j {c} ec en =
    ap (λ (i : ℕ). replicate i c) en ∙ splat_is_map test_dofs (length test_dofs) c refl ∙ ap (λ (v : ℕ). map (λ row. v) test_dofs) ec

pub columns_done : (test_dofs trial_dofs : List ℕ) {at j : ℕ} {xs ys : List ℕ} → Blocks (column_of test_dofs trial_dofs) (length test_dofs) (length trial_dofs) xs ys at j
    → length trial_dofs ≤ j → ys ≡ sets xs at (local_columns test_dofs trial_dofs)
columns_done test_dofs trial_dofs b h = rw columns_places (blocks_done b h)

-- the values of trial basis j
abbrev pub values_of : List Float → ℕ → ℕ → List Float
values_of entries m j = map (λ i. entry_at entries m i j) (range m)

pub length_values_of : (entries : List Float) (m j : ℕ) → length (values_of entries m j) ≡ m
length_values_of entries m j = length-map (range m) _ ∙ length_range m

pub values_done : (entries : List Float) {m n at j : ℕ} {xs ys : List Float} → Blocks (values_of entries m) m n xs ys at j → n ≤ j
    → ys ≡ sets xs at (local_values (entry_at entries m) m n)
unfolding local_values
values_done entries b h = blocks_done b h
