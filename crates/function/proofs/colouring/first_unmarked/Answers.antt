-- `function::colouring::first_unmarked` meets its contract: what `find` finds is the least. Assumes nothing.
use mathlib.Core.Bool.{true, false, not}
use mathlib.Core.Path.{◌≡◌, ◌∙◌}
use Prim.Native.Nat.{ℕ, ◌+◌}
use lib.Dec.{eqb}
use lib.ListN.{get_or}
use borrow.Author.Rules.{rules}
use borrow.Author.Tests.{tests}
use Rattle.std.proofs.lemmas.Iterator.{first_from_Range}
use Rattle.lists.specs.Items.{least_found}
use Rattle.function.proofs.colouring.first_unmarked.Goals as goal

pub returns : goal.returns
returns c =
    let f = λ (k : ℕ). not (eqb (get_or c.args.marks.now k 0) (c.args.i + 1)) in
    let h = first_from_Range _ _ _ _ (λ k. f k ≡ true) (λ k. f k ≡ false) c.find.ensures.ran (λ x q k. search (rules, tests)) (λ x q k. search (rules, tests)) in
    c.unwrap_or.ensures ∙ least_found c.args.i f _ h
