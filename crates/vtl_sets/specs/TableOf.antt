-- The tables of data sets.
use Rattle.std.specs.Prelude.{◌≡◌, List, map}
use Rattle.vtl_rows.specs.declared.column.Column.{Column}
use Rattle.vtl_rows.specs.Tables.{Listed}
use Rattle.vtl_tree.specs.DataSet.{IsDataSet}
use Rattle.vtl_tree.specs.Structure.{columns_of}
use Rattle.vtl_tree.specs.declared.structure.Component.{Component}
use Rattle.vtl_tree.specs.declared.structure.Structure.{Structure}

-- the column of a component
abbrev pub column_for : Component → Column
column_for x = record { name = x.name; kind = x.kind }

-- the columns of a data set's table
abbrev pub table_columns : Structure → List Column
table_columns s = map column_for (columns_of s)

-- the table is one of a data set of the structure
pub record IsTableOf (s : Structure) (t : Listed) : Type 0 where
  pub columns : t.columns ≡ table_columns s
  pub points : IsDataSet s t.rows
