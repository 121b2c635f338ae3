-- What a pivot takes its points from.
use Rattle.std.specs.Prelude.{◌≡◌, ℕ, ◌+◌, List, [], ◌∷◌, ◌++◌, length, map}
use Rattle.std.specs.List.{range_with_len}
use Rattle.vtl_cell.specs.Row.{Row, column_of}
use Rattle.vtl_cell.specs.declared.cell.Cell.{Cell}
use Rattle.vtl_cell.specs.declared.cell.Cell.TheVariants as c
use Rattle.vtl_rows.specs.Places.{row_at}
use Rattle.vtl_rows.specs.Tables.{cells_at}
use Rattle.vtl_index.specs.Seekers.{Sought, first_meant}
use Rattle.vtl_tree.specs.Environment.{DataSet}
use Rattle.vtl_tree.specs.Structure.{columns_of}
use Rattle.vtl_tree.specs.declared.structure.Structure.{Structure}
use Rattle.vtl_tree.specs.Columns.{place_of, places_in}
use Rattle.vtl_meaning.specs.Turned.{codes_of, other_identifiers}
use Rattle.vtl_combine.specs.declared.pivoting.CodedPoints.{CodedPoints}

-- the measure's value at a key of the other identifiers and a code
abbrev pub coded : CodedPoints → Row → List ℕ → Cell
coded x k code = column_of x.measure (row_at x.table.now.rows (first_meant x.seeker (k ++ c.Text code ∷ [])))

-- the point that has the other identifiers of a row
abbrev pub pivoted : CodedPoints → Row → Row
pivoted x r = cells_at x.others.items r ++ map (coded x (cells_at x.others.items r)) x.codes.now

-- the places of the other identifiers
abbrev pub other_places : List ℕ → Structure → List ℕ
other_places id a = places_in (columns_of a) (other_identifiers id a)

-- the points by the other identifiers and by the identifier behind them, which rows that ask have in their order
abbrev pub sought_codes : DataSet → List ℕ → Sought
sought_codes d id = record {
  own = other_places id d.structure ++ place_of id (columns_of d.structure) ∷ [];
  asked = range_with_len 0 (length (other_places id d.structure) + 1);
  rows = d.points;
}

pub record AreCoded (d : DataSet) (id measure : List ℕ) (x : CodedPoints) : Type 0 where
  pub rows : x.table.now.rows ≡ d.points
  pub others : x.others.items ≡ other_places id d.structure
  pub seeker : x.seeker ≡ sought_codes d id
  pub codes : x.codes.now ≡ codes_of id d.structure
  pub measured : x.measure ≡ place_of measure (columns_of d.structure)
