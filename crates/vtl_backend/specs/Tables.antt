-- Tables that stand for data sets.
use Rattle.vtl_rows.specs.Tables.{Listed}
use Rattle.vtl_tree.specs.DataSet.{StandsFor}
use Rattle.vtl_tree.specs.Environment.{DataSet}
use Rattle.vtl_sets.specs.TableOf.{IsTableOf}

-- the table has the columns of the data set, and its points in any order
pub record Shows (d : DataSet) (t : Listed) : Type 0 where
  pub table : IsTableOf d.structure t
  pub same : StandsFor t.rows d.points
