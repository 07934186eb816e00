-- `triangle_patterns::triangles_pattern` meets its contract: the pattern of the three places. Assumes nothing.
use mathlib.Core.Path.{subst}
use Rattle.cell_pairs.specs.Records.{IsPattern}
use Rattle.triangle_patterns.specs.TrianglesFacts.{found_places, found_pattern}
use Rattle.triangle_patterns.proofs.triangles_pattern.Goals as goal

pub pattern_at-requires : goal.pattern_at-requires
pattern_at-requires c =
    found_places c.args.rows.rows.now c.args.i c.args.j c.place_of-a.ensures c.place_of-b.ensures c.place_of-c.ensures c.requires.i_value.1

pub returns : goal.returns
returns c =
    subst (IsPattern c.pattern_at.result)
    (found_pattern c.args.rows.rows.now c.args.i c.args.j c.place_of-a.ensures c.place_of-b.ensures c.place_of-c.ensures c.requires.i_value.0)
    c.pattern_at.ensures
