-- See Invariants.antt. Assumes nothing.
use native.Mathlib.Omega.{arith}
use denote.Enum.Declared.{tag_of}
use Prim.Native.Nat.{ℕ}
use mathlib.Core.List.{[], ◌∷◌}
use mathlib.Core.Path.{◌≡◌, refl, ap, ◌∙◌}
use Rattle.dof_numbering.specs.declared.Dimension.{Dimension}
use Rattle.dof_numbering.specs.declared.Dimension.TheVariants.{Vertex, Edge, Cell}
use Rattle.dof_numbering.specs.contracts.Dimension.{the_type}
use Rattle.dof_numbering.specs.DofWalk.{dimension_number}
use Rattle.dof_numbering.specs.Numbering.{owners_on}
use Rattle.dof_numbering.proofs.Walk.{owners_pasted}
use borrow.Author.Rules.{rules}
use Rattle.dof_numbering.proofs.write_owners.Goals as goal

number_is : (d : Dimension) → tag_of the_type d ≡ dimension_number d
number_is Vertex = refl
number_is Edge = refl
number_is Cell = refl

pub loop-place-init : goal.loop-place-init
unfolding owners_on
loop-place-init c = (search rules, search rules, refl)

pub loop-place-preserved : goal.loop-place-preserved
loop-place-preserved c = (search rules, search rules, owners_pasted _ _ _ _ _ _ _ _ _ c.loop-place.invariant.2 c.wide.ensures (omega arith) (omega arith) (c.copy_from_slice.ensures.after ∙ ap (λ (d : ℕ). d ∷ c.args.x ∷ c.loop-place.place ∷ []) (number_is c.args.dimension)))
