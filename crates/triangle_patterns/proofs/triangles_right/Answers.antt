-- `triangle_patterns::triangles_right` meets its contract: each return has the tests that led there. Assumes nothing.
use mathlib.Core.Path.{sym, ◌∙◌}
use native.Mathlib.Nat.{add-zero}
use Rattle.lists.specs.Bool.{◌and◌}
use Rattle.triangle_patterns.specs.TrianglesFacts.{first_missing, second_missing, third_missing, none_missing}
use Rattle.triangle_patterns.proofs.triangles_right.Goals as goal

pub returns-then-not-has_entity : goal.returns-then-not-has_entity
returns-then-not-has_entity c = first_missing c.args.rows.rows.now c.args.i c.args.j c.requires.i_value.0 c.requires.i_value.1 c.requires.by_index c.has_entity.ensures c.if-not-has_entity.true-raw

pub returns-then-not-has_entity-2 : goal.returns-then-not-has_entity-2
returns-then-not-has_entity-2 c = second_missing c.args.rows.rows.now c.args.i c.args.j c.requires.i_value.0 c.requires.i_value.1 c.requires.by_index c.has_entity-2.ensures c.if-not-has_entity-2.true-raw

pub returns-then-not-has_entity-3 : goal.returns-then-not-has_entity-3
returns-then-not-has_entity-3 c = third_missing c.args.rows.rows.now c.args.i c.args.j c.requires.i_value.0 c.requires.i_value.1 c.requires.by_index c.has_entity-3.ensures c.if-not-has_entity-3.true-raw

pub returns : goal.returns
unfolding ◌and◌
returns c =
    let e = none_missing c.args.rows.rows.now c.args.i c.args.j c.requires.i_value.0 c.requires.i_value.1 c.requires.by_index c.has_entity.ensures c.if-not-has_entity.false-raw c.has_entity-2.ensures c.if-not-has_entity-2.false-raw in
    sym (e c.has_entity-3.ensures c.if-not-has_entity-3.false-raw ∙ simp add-zero)
