-- The CSV text of a data set.
use Rattle.std.specs.Prelude.{ℕ, Bool, List, ◌∷◌, map, flat_map, take, encode_utf8_all}
use Rattle.csv.specs.Writing.{default_writer, row_text}
use Rattle.vtl_lists.specs.Aliases.{Bytes, Record}
use Rattle.vtl_decimal.specs.Settings.{Settings}
use Rattle.vtl_lists.specs.Sorting.{le_by, sorted_by}
use Rattle.vtl_cell.specs.Row.{Row, row_cmp}
use Rattle.vtl_tree.specs.declared.structure.Component.{Component}
use Rattle.vtl_tree.specs.declared.structure.Structure.{Structure}
use Rattle.vtl_tree.specs.Structure.{columns_of}
use Rattle.vtl_cell.specs.Writing.{text_of}

-- the fields of the header
abbrev pub header_of : List Component → Record
header_of columns = map (λ x. encode_utf8_all x.name) columns

-- a header, and then a record for each row
abbrev pub csv_rows : Settings → List Component → List Row → Bytes
csv_rows p columns rows = flat_map (row_text default_writer) (header_of columns ∷ map (map (text_of p)) rows)

-- at most, by the first n cells from the left
abbrev pub le_key : ℕ → Row → Row → Bool
le_key n x y = le_by row_cmp (take n x) (take n y)

-- The CSV text of the data set with these columns and points: the header, and the points in order of their cells from
-- the left. The identifiers stand first, so the points rise by their identifiers.
abbrev pub csv_in : Settings → List Component → List Row → Bytes
csv_in p columns points = csv_rows p columns (sorted_by (le_by row_cmp) points)

abbrev pub csv_of : Settings → Structure → List Row → Bytes
csv_of p s points = csv_in p (columns_of s) points
