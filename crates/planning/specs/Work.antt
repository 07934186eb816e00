-- What writing the work list asks, and what it leaves. Assumes nothing.
use Rattle.std.specs.Prelude.{ℕ, ◌+◌, ◌-◌, ◌*◌, ◌≤◌, ◌<◌, ◌≡◌, refl, true, length, get_or, take, replicate}
use Rattle.std.proofs.Common.{mul-le-mul, arith, subst, ◌∙◌}
use Rattle.std.proofs.Math.Path.{sym, ap}
use mathlib.Core.List.{List, ◌++◌}
use Rattle.lists.specs.Stores.{sets_all}
use Rattle.lists.specs.Writes.{Room, Wrote, wrote_more, wrote_length}
use Rattle.grid.specs.Cells.{distinct}
use Rattle.grid.specs.CellsFacts.{Shaped}
use Rattle.grid.specs.Rows.{rows_of, cell_in}
use Rattle.grid.specs.RowsFacts.{length_rows, cell_rows}
use Rattle.grid.specs.Mesh.{most_cells, most_vertices, Mesh, corners}
use Rattle.function.specs.Colours.{colour_count}
use Rattle.cell_pairs.specs.Records.{width, flat}
use Rattle.cell_pairs.specs.RecordsFacts.{records, length_flat}
use Rattle.cell_pairs.specs.Patterns.{patterns_right}
use Rattle.cell_pairs.specs.WorkList.{most_batch, distant_part, touching_part, work_list, sharing_pairs, sharing_of, distant_pairs}
use Rattle.cell_pairs.specs.Counting.{Countable}
use Rattle.cell_pairs.proofs.Counting.{split, kinds_split, length_distant, length_touching, length_work}
use Rattle.cell_pairs.proofs.CellGroupsFacts.{colour_below}
use Rattle.cell_patterns.specs.Flat.{patterns_in}
use Rattle.cell_patterns.specs.PatternFacts.{mesh_patterns}
use Rattle.cells_by_key.specs.Groups.{kind_key, ByKind, cells_with, Grouped, Cut, Below, Zeros}
use Rattle.cells_by_key.specs.GroupsFacts.{kind_keys_below, scratch, scratch_zeros}
use Rattle.distant_pairs.specs.Distant.{distant_parts}
use Rattle.distant_pairs.proofs.Facts.{ByColour, by_colour, by_colour_cut, distant_is}
use Rattle.touching_pairs.specs.declared.TouchingEnds.{TouchingEnds}
use Rattle.touching_pairs.specs.Visits.{bare, Touchable, EndsAt}
use Rattle.touching_pairs.specs.BareFacts.{touching_rows, sharing_rows, touchable_rows}
use Rattle.plans.specs.declared.KindPairs.{KindPairs}
use Rattle.plans.specs.Planning.{kind_pairs}

pub record Ready (m : Mesh) (B : ℕ) (ts : List ℕ) (tn : ℕ) (rs : List ℕ) (rn : ℕ) (work : List ℕ) : Type 0 where
  pub counts : Countable m B ts rs
  pub shaped : Shaped m.kinds m.cell_vertices
  pub long : length m.kinds ≡ m.cells
  pub below : (k : ℕ) → k < length m.cell_vertices → get_or m.cell_vertices k 0 < m.vertices
  pub apart : (i : ℕ) → i < m.cells → distinct (corners m i) ≡ true
  pub patterns : patterns_right m ≡ true
  pub cells : m.cells ≤ most_cells
  pub top : m.vertices ≤ most_vertices
  pub batch : B ≤ most_batch
  pub test : tn ≡ colour_count ts
  pub trial : rn ≡ colour_count rs
  pub test_few_holds : tn ≤ most_cells
  pub trial_few_holds : rn ≤ most_cells
  pub room : length work ≡ width * (m.cells * m.cells)

-- the lists in which the cells are grouped by kind and colour
pub record Grouping (C n : ℕ) (order ends : List ℕ) : Type 0 where
  pub cells : length order ≡ C
  pub groups : length ends ≡ 2 * n
  pub zeros : Zeros ends

-- what the keys ask
pub record Keyable (ks cs : List ℕ) (count : ℕ) (keys : List ℕ) : Type 0 where
  pub colours : length cs ≡ length ks
  pub places : length keys ≡ length ks
  pub few : (i : ℕ) → i < length ks → get_or cs i 0 < count
  pub most : count ≤ most_cells

-- the loop over the cells: the keys of the first i are written
pub record Keyed (ks cs : List ℕ) (count : ℕ) (old keys : List ℕ) (i : ℕ) : Type 0 where
  pub size : length keys ≡ length old
  pub within : i ≤ length ks
  pub done : (j : ℕ) → j < i → get_or keys j 0 ≡ kind_key count ks cs j

pub keyed_none : (ks cs : List ℕ) (count : ℕ) (keys : List ℕ) → Keyed ks cs count keys keys 0
keyed_none ks cs count keys = record { size = refl; within = omega arith; done = λ j l. absurd (omega arith) }

-- the places after the distant pairs and after the touching pairs of each two kinds rise, up to C·C
pub record Rising (n : ℕ) (e : TouchingEnds) : Type 0 where
  pub first : n ≤ e.triangle_triangle
  pub second : e.triangle_triangle ≤ e.triangle_quad
  pub third : e.triangle_quad ≤ e.quad_triangle
  pub fourth : e.quad_triangle ≤ e.quad_quad
  pub most : e.quad_quad ≤ 2048 * 2048

-- the pairs between them
abbrev pub pairs_between : ℕ → TouchingEnds → KindPairs
pairs_between n e =
    record {
      triangle_triangle = e.triangle_triangle - n;
      triangle_quad = e.triangle_quad - e.triangle_triangle;
      quad_triangle = e.quad_triangle - e.triangle_quad;
      quad_quad = e.quad_quad - e.quad_triangle;
    }

pub record Counts (n : ℕ) (e : TouchingEnds) (distant touching : ℕ) (pairs : KindPairs) : Type 0 where
  pub far : distant ≡ n
  pub near : touching ≡ e.quad_quad - n
  pub kinds : pairs ≡ pairs_between n e

-- the work list, and how many pairs are distant, how many touching, and of each two kinds
pub record Written (m : Mesh) (B : ℕ) (ts rs work : List ℕ) (distant touching : ℕ) (pairs : KindPairs) : Type 0 where
  pub list : work ≡ flat (work_list m B ts rs)
  pub far : distant ≡ distant_pairs m
  pub near : touching ≡ sharing_pairs m
  pub kinds : pairs ≡ kind_pairs m

-- ---- what each call needs, and what they come to

pairs_most : {C : ℕ} → C ≤ most_cells → C * C ≤ 2048 * 2048
pairs_most c = mul-le-mul c c

four : {a b c d a' b' c' d' : ℕ} → a ≡ a' → b ≡ b' → c ≡ c' → d ≡ d'
    → ◌≡◌ {A = KindPairs} (record { triangle_triangle = a; triangle_quad = b; quad_triangle = c; quad_quad = d })
    (record { triangle_triangle = a'; triangle_quad = b'; quad_triangle = c'; quad_quad = d' })
four e f g h = rw (e, f, g, h)

-- one side: the cells and their colours
pub record Side (m : Mesh) (cs : List ℕ) (count : ℕ) : Type 0 where
  pub shaped : Shaped m.kinds m.cell_vertices
  pub kinds_long : length m.kinds ≡ m.cells
  pub cells : m.cells ≤ most_cells
  pub long : length cs ≡ m.cells
  pub count_is : count ≡ colour_count cs
  pub few : count ≤ most_cells

-- its cells stand by kind and colour, and each of them has a row in a list of rows
pub record SideGroups (m : Mesh) (cs order ends : List ℕ) : Type 0 where
  pub by_colour : ByColour m cs order ends
  pub cut : (rows : List ℕ) → length rows ≡ 4 * m.cells → Cut rows order ends

module _ {m : Mesh} {cs : List ℕ} {count : ℕ} (s : Side m cs count) where
  pub keyable : {keys : List ℕ} → length keys ≡ m.cells → Keyable m.kinds cs count keys
  keyable k =
      record {
        colours = s.long ∙ sym s.kinds_long;
        places = k ∙ sym s.kinds_long;
        few = λ i h. omega (arith, colour_below cs i (omega (arith, s.long, s.kinds_long)), s.count_is);
        most = s.few;
      }

  module _ (keys : List ℕ) (size : length keys ≡ m.cells) (written : (i : ℕ) → i < length m.kinds → get_or keys i 0 ≡ kind_key count m.kinds cs i) where
    by_kind : ByKind keys m.cells count m.kinds cs
    by_kind =
        record {
          size = size;
          kinds = λ i h. s.shaped.kinds i (omega (arith, s.kinds_long));
          few = λ i h. omega (arith, colour_below cs i (omega (arith, s.long)), s.count_is);
          key = λ i h. written i (omega (arith, s.kinds_long));
        }

    -- each key has a group
    pub keys_below : {order ends : List ℕ} → Grouping m.cells count order ends → Below keys (length ends)
    keys_below g = subst (Below keys) (sym g.groups) (kind_keys_below by_kind)

    -- so the cells stand by kind and colour
    pub side_groups : {order ends order' ends' : List ℕ} → Grouping m.cells count order ends → Grouped order' ends' (length ends) (cells_with keys 1) → SideGroups m cs order' ends'
    side_groups {order' = order'} {ends' = ends'} g h =
        record {
          by_colour =
              by_colour keys m cs (subst (λ (n : ℕ). ByKind keys m.cells n m.kinds cs) s.count_is by_kind)
              (subst (λ (n : ℕ). Grouped order' ends' n (cells_with keys 1)) (g.groups ∙ ap (λ (n : ℕ). 2 * n) s.count_is) h);
          cut = λ rows e. by_colour_cut keys h rows (omega (arith, e, size));
        }

module _ {m : Mesh} {B : ℕ} {ts : List ℕ} {tn : ℕ} {rs : List ℕ} {rn : ℕ} {work : List ℕ} (r : Ready m B ts tn rs rn work) where
  -- the rows
  module _ {rows : List ℕ} (are : rows ≡ rows_of m.vertices m.kinds m.cell_vertices (length m.kinds)) where
    same : rows ≡ rows_of m.vertices m.kinds m.cell_vertices m.cells
    same = are ∙ ap (rows_of m.vertices m.kinds m.cell_vertices) r.long

    pub rows_long : length rows ≡ 4 * m.cells
    rows_long = ap length are ∙ length_rows m.vertices r.shaped ∙ ap (λ (n : ℕ). 4 * n) r.long

    cells_in : (i : ℕ) → i < m.cells → cell_in m.vertices rows i ≡ corners m i
    unfolding corners
    cells_in i h = ap (λ (l : List ℕ). cell_in m.vertices l i) are ∙ cell_rows m.vertices r.shaped r.below i (omega (arith, r.long))

    pub touchable : Touchable m.vertices rows
    touchable =
        subst (Touchable m.vertices) (sym same)
        (touchable_rows m r.shaped r.long r.below r.apart (ap (λ (l : List ℕ). patterns_in m.vertices m.cells l) (sym same) ∙ mesh_patterns m m.vertices rows cells_in ∙ r.patterns))

    module _ {to te ro re : List ℕ} (t : ByColour m ts to te) (u : ByColour m rs ro re) where
      -- what is written by kinds and colours is the distant part
      distant_same : distant_parts m.vertices rows B to te ro re ≡ distant_part m B ts rs
      distant_same = distant_is m m.vertices r.shaped r.long r.below are B ts rs t u

      -- the counting theorem gives the room
      pub distant_room : Room records work 0 (distant_parts m.vertices rows B to te ro re)
      distant_room = rw distant_same (omega (arith, r.room, length_distant m B ts rs r.counts, split m))

      module _ {work' : List ℕ} {n : ℕ} (w : Wrote records work work' 0 n (distant_parts m.vertices rows B to te ro re)) where
        distant_wrote : Wrote records work work' 0 n (distant_part m B ts rs)
        distant_wrote = rw distant_same at w

        far : n ≡ distant_pairs m
        far = omega (arith, distant_wrote.cursor, length_distant m B ts rs r.counts)

        -- the touching part, as the rows give it
        touching_same : touching_part (bare m.cells m.vertices rows) ≡ touching_part m
        touching_same = ap (λ (l : List ℕ). touching_part (bare m.cells m.vertices l)) same ∙ touching_rows m r.shaped r.long r.below

        sharing_same : (a b : ℕ) → sharing_of (bare m.cells m.vertices rows) a b ≡ sharing_of m a b
        sharing_same a b = ap (λ (l : List ℕ). sharing_of (bare m.cells m.vertices l) a b) same ∙ sharing_rows m r.shaped r.long r.below a b

        pub touching_room : Room records work' n (touching_part (bare m.cells m.vertices rows))
        touching_room =
            rw touching_same
            (omega (arith, r.room, wrote_length distant_wrote, far, length_touching m B ts rs r.counts, split m))

        -- all fit
        module _ {e : TouchingEnds} (ends : EndsAt (bare m.cells m.vertices rows) n e) where
          first : e.triangle_triangle ≡ n + sharing_of m 3 3
          first = ends.triangle_triangle ∙ ap (λ (k : ℕ). n + k) (sharing_same 3 3)

          second : e.triangle_quad ≡ n + sharing_of m 3 3 + sharing_of m 3 4
          second = ends.triangle_quad ∙ rw (sharing_same 3 3, sharing_same 3 4) refl

          third : e.quad_triangle ≡ n + sharing_of m 3 3 + sharing_of m 3 4 + sharing_of m 4 3
          third = ends.quad_triangle ∙ rw (sharing_same 3 3, sharing_same 3 4, sharing_same 4 3) refl

          fourth : e.quad_quad ≡ n + sharing_of m 3 3 + sharing_of m 3 4 + sharing_of m 4 3 + sharing_of m 4 4
          fourth = ends.quad_quad ∙ rw (sharing_same 3 3, sharing_same 3 4, sharing_same 4 3, sharing_same 4 4) refl

          last : e.quad_quad ≡ n + sharing_pairs m
          last = omega (arith, fourth, kinds_split m r.counts.mesh.kinds)

          pub ends_rise : Rising n e
          ends_rise =
              record {
                first = omega (arith, first);
                second = omega (arith, first, second);
                third = omega (arith, second, third);
                fourth = omega (arith, third, fourth);
                most = omega (arith, last, far, split m, pairs_most r.cells);
              }

          pub all_written : {work'' : List ℕ} {distant touching : ℕ} {pairs : KindPairs} → Counts n e distant touching pairs
              → Wrote records work' work'' n e.quad_quad (touching_part (bare m.cells m.vertices rows)) → Written m B ts rs work'' distant touching pairs
          unfolding work_list
          all_written c v =
              let all : Wrote records work _ 0 _ (distant_part m B ts rs ++ touching_part m) = wrote_more distant_wrote (rw touching_same at v) in
              record {
                list = all.list ∙ sets_all work (flat (work_list m B ts rs)) (length_flat (work_list m B ts rs) ∙ ap (λ (k : ℕ). width * k) (length_work m B ts rs r.counts) ∙ sym r.room);
                far = c.far ∙ far;
                near = omega (arith, c.near, last);
                kinds = c.kinds ∙ four (omega (arith, first)) (omega (arith, first, second)) (omega (arith, second, third)) (omega (arith, third, fourth));
              }

-- fronts of lists of zeros
pub grouping_lists : (C n : ℕ) → C ≤ most_cells → n ≤ most_cells → Grouping C n (take C (replicate most_cells 0)) (take (2 * n) (replicate (2 * most_cells) 0))
grouping_lists C n c h =
    record { cells = scratch C most_cells c; groups = scratch (2 * n) (2 * most_cells) (omega arith); zeros = scratch_zeros (2 * n) (2 * most_cells) (omega arith) }
