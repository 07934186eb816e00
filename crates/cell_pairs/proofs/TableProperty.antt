-- The proofs to `specs/TableProperty.antt`. Assumes nothing.
use Rattle.cell_pairs.proofs.TableFacts.{table_many, table_blocks, table_places, table_formula, table_once, table_triangles, table_cases, triangles_number}
use Rattle.cell_pairs.specs.TableProperty.{TableProperty}

pub table_property : TableProperty
table_property =
    record {
      many = table_many;
      blocks = table_blocks;
      places = table_places;
      formula = table_formula;
      once = table_once;
      triangles = table_triangles;
      cases = table_cases;
      numbers = triangles_number;
    }
