-- Which values stand where in entry lists that are put together from blocks, and from local matrices. Assumes nothing.
use Rattle.std.specs.Prelude.{ℕ, zero, suc, ◌+◌, ◌≡◌, refl, length, eqb, Float}
use Rattle.std.proofs.Common.{add-one, arith, sym, ◌∙◌}
use Rattle.std.proofs.Math.Path.{ap, ap₂}
use mathlib.Core.List.{List, [], ◌∷◌, ◌++◌, flat_map, map, append-nil, append_assoc}
use Rattle.std.proofs.Math.ListN.{get_or, length-map}
use Rattle.lists.specs.Bool.{◌and◌}
use Rattle.lists.specs.Range.{range, when, flat_map_range, flat_map_none, flat_map_ext, flat_map_places, map_filter, map_places, length_range}
use Rattle.numbers.specs.Floats.{◌!◌}
use Rattle.scatter.specs.Adding.{local_rows, local_columns, local_values}
use Rattle.runs.specs.Runs.{entry_lists}
use Rattle.sparse_lists.specs.Sparse.{stands, values_at}

range_first : {B : Type 0} (f : ℕ → List B) (n : ℕ) → flat_map f (range (n + 1)) ≡ f 0 ++ flat_map (λ i. f (suc i)) (range n)
range_first f zero = flat_map_range f 0 ∙ rw (flat_map_none f, flat_map_none (λ i. f (suc i))) (sym (append-nil (f 0)))
range_first {B} f (suc n) =
    let more : suc n ≡ n + 1 = sym (add-one n) in
    flat_map_range f (suc n)
    ∙ ap (λ (l : List B). l ++ f (suc n)) (ap (λ (k : ℕ). flat_map f (range k)) more ∙ range_first f n)
    ∙ append_assoc (f 0) (flat_map (λ i. f (suc i)) (range n)) (f (suc n))
    ∙ ap (λ (l : List B). f 0 ++ l) (sym (flat_map_range (λ i. f (suc i)) n) ∙ ap (λ (k : ℕ). flat_map (λ i. f (suc i)) (range k)) (sym more))

module _ (r c : ℕ) where
  -- the value of one entry, where it stands at row r, column c
  abbrev pub standing : ℕ → ℕ → Float → List Float
  standing row column v = when (eqb row r and eqb column c) (v ∷ [])

  pub values_nil : (columns : List ℕ) (values : List Float) → values_at (entry_lists [] columns values) r c ≡ []
  unfolding values_at
  values_nil columns values = map_filter (stands (entry_lists [] columns values) r c) (λ i. values ! i) 0 ∙ flat_map_none _

  values_cons : (row : ℕ) (rows : List ℕ) (column : ℕ) (columns : List ℕ) (v : Float) (values : List Float)
      → values_at (entry_lists (row ∷ rows) (column ∷ columns) (v ∷ values)) r c ≡ standing row column v ++ values_at (entry_lists rows columns values) r c
  unfolding values_at stands
  values_cons row rows column columns v values =
      map_filter (stands (entry_lists (row ∷ rows) (column ∷ columns) (v ∷ values)) r c) (λ i. (v ∷ values) ! i) (suc (length rows))
      ∙ ap (λ (k : ℕ). flat_map (λ i. standing (get_or (row ∷ rows) i 0) (get_or (column ∷ columns) i 0) ((v ∷ values) ! i)) (range k)) (sym (add-one (length rows)))
      ∙ range_first (λ i. standing (get_or (row ∷ rows) i 0) (get_or (column ∷ columns) i 0) ((v ∷ values) ! i)) (length rows)
      ∙ ap (λ (l : List Float). standing row column v ++ l) (sym (map_filter (stands (entry_lists rows columns values) r c) (λ i. values ! i) (length rows)))

  pub values_append : (rows rows' columns columns' : List ℕ) (values values' : List Float) → length columns ≡ length rows → length values ≡ length rows
      → values_at (entry_lists (rows ++ rows') (columns ++ columns') (values ++ values')) r c
      ≡ values_at (entry_lists rows columns values) r c ++ values_at (entry_lists rows' columns' values') r c
  values_append [] rows' [] columns' [] values' p q = rw (values_nil [] [])
  values_append [] rows' (y ∷ columns) columns' values values' p q = absurd (omega arith)
  values_append [] rows' [] columns' (v ∷ values) values' p q = absurd (omega arith)
  values_append (x ∷ rows) rows' [] columns' values values' p q = absurd (omega arith)
  values_append (x ∷ rows) rows' (y ∷ columns) columns' [] values' p q = absurd (omega arith)
  values_append (x ∷ rows) rows' (y ∷ columns) columns' (v ∷ values) values' p q =
      values_cons x (rows ++ rows') y (columns ++ columns') v (values ++ values')
      ∙ ap (λ (l : List Float). standing x y v ++ l) (values_append rows rows' columns columns' values values' (omega arith) (omega arith))
      ∙ sym (append_assoc (standing x y v) (values_at (entry_lists rows columns values) r c) (values_at (entry_lists rows' columns' values') r c))
      ∙ ap (λ (l : List Float). l ++ values_at (entry_lists rows' columns' values') r c) (sym (values_cons x rows y columns v values))

  -- block after block
  values_blocks : (f g : ℕ → List ℕ) (h : ℕ → List Float) → ((x : ℕ) → length (g x) ≡ length (f x)) → ((x : ℕ) → length (h x) ≡ length (f x)) → (xs : List ℕ)
      → values_at (entry_lists (flat_map f xs) (flat_map g xs) (flat_map h xs)) r c ≡ flat_map (λ x. values_at (entry_lists (f x) (g x) (h x)) r c) xs
  unfolding flat_map
  values_blocks f g h p q [] = values_nil [] []
  values_blocks f g h p q (x ∷ xs) =
      values_append (f x) (flat_map f xs) (g x) (flat_map g xs) (h x) (flat_map h xs) (p x) (q x)
      ∙ ap (λ (l : List Float). values_at (entry_lists (f x) (g x) (h x)) r c ++ l) (values_blocks f g h p q xs)

  -- entry after entry
  values_map : (f g : ℕ → ℕ) (h : ℕ → Float) (xs : List ℕ) → values_at (entry_lists (map f xs) (map g xs) (map h xs)) r c ≡ flat_map (λ x. standing (f x) (g x) (h x)) xs
  unfolding flat_map
  values_map f g h [] = values_nil [] []
  values_map f g h (x ∷ xs) = values_cons (f x) (map f xs) (g x) (map g xs) (h x) (map h xs) ∙ ap (λ (l : List Float). standing (f x) (g x) (h x) ++ l) (values_map f g h xs)

  map_const : (xs : List ℕ) (k : ℕ) → map (λ (row : ℕ). k) xs ≡ map (λ (i : ℕ). k) (range (length xs))
  map_const xs k = ap (map (λ (row : ℕ). k)) (sym (map_places xs 0)) ∙ sym (map_map (range (length xs)))
    where
      map_map : (is : List ℕ) → map (λ (i : ℕ). k) is ≡ map (λ (row : ℕ). k) (map (λ i. get_or xs i 0) is)
      map_map [] = refl
      map_map (i ∷ is) = ap (λ (l : List ℕ). k ∷ l) (map_map is)

  -- one column of a local matrix
  values_column : (test : List ℕ) (column : ℕ) (entry : ℕ → Float)
      → values_at (entry_lists test (map (λ row. column) test) (map entry (range (length test)))) r c
      ≡ flat_map (λ i. standing (get_or test i 0) column (entry i)) (range (length test))
  values_column test column entry =
      ap₂ (λ (rows columns : List ℕ). values_at (entry_lists rows columns (map entry (range (length test)))) r c) (sym (map_places test 0)) (map_const test column)
      ∙ values_map (λ i. get_or test i 0) (λ i. column) entry (range (length test))

  -- a local matrix: trial basis outer
  pub values_local : (test trial : List ℕ) (entry : ℕ → ℕ → Float)
      → values_at (entry_lists (local_rows test trial) (local_columns test trial) (local_values entry (length test) (length trial))) r c
      ≡ flat_map (λ j. flat_map (λ i. standing (get_or test i 0) (get_or trial j 0) (entry i j)) (range (length test))) (range (length trial))
  unfolding local_rows local_columns local_values
  values_local test trial entry =
      ap₂ (λ (rows columns : List ℕ). values_at (entry_lists rows columns (local_values entry (length test) (length trial))) r c)
      (flat_map_places (λ column. test) trial 0) (flat_map_places (λ column. map (λ row. column) test) trial 0)
      ∙ values_blocks (λ j. test) (λ j. map (λ row. get_or trial j 0) test) (λ j. map (λ i. entry i j) (range (length test)))
      (λ j. length-map test (λ row. get_or trial j 0)) (λ j. length-map (range (length test)) (λ i. entry i j) ∙ length_range (length test)) (range (length trial))
      ∙ flat_map_ext _ _ (λ j. values_column test (get_or trial j 0) (λ i. entry i j)) (range (length trial))
