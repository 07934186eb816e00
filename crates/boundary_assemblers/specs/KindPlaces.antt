-- How many of the cells before a cell are of a kind, counted in the first part of the kind list. Assumes nothing.
use Prim.Native.Nat.{ℕ, zero, suc, ◌+◌, ◌≤◌}
use Rattle.std.proofs.Math.Nat.{min-eq_left}
use Rattle.std.proofs.Common.{arith, sym, ap, ◌∙◌, length-take, get_or-take}
use Rattle.std.specs.Prelude.{◌≡◌, List, length, take, eqb}
use Rattle.std.proofs.Math.Path.{refl, ap₂}
use Rattle.lists.specs.Total.{gate}
use Rattle.grid.specs.Cells.{before}
use Rattle.grid.specs.Mesh.{cells_of}
use Rattle.grid.specs.KindsFacts.{kinds_to, kinds_all}

module _ (ks : List ℕ) where
  -- the cells before cell n are those of the first part of the list
  before_part : (w : ℕ → ℕ) (n i : ℕ) → i ≤ n → before w (take n ks) i ≡ before w ks i
  unfolding before
  before_part w n zero h = refl
  before_part w n (suc i) h = ap₂ (λ (a k : ℕ). a + w k) (before_part w n i (omega arith)) (get_or-take n ks i 0 h)

  -- so their kinds are counted there
  pub kinds_part : (n i : ℕ) → i ≤ length ks → cells_of (take i ks) n ≡ kinds_to ks n i
  kinds_part n i h =
      let long : length (take i ks) ≡ i = length-take i ks ∙ min-eq_left h in
      sym (kinds_all (take i ks) n) ∙ ap (λ (j : ℕ). kinds_to (take i ks) n j) long ∙ before_part (λ k. gate (eqb k n) 1) i i (omega arith)
