-- Selects of groups of the rows of a table.
use Rattle.std.specs.Prelude.{List, [], map, Option, None}
use Rattle.vtl_cell.specs.declared.operator.AggKind.TheVariants as agg
use Rattle.vtl_tree.specs.declared.structure.Component.{Component}
use Rattle.sql_tree.specs.Trees.{Exp, ItemTree, SelectTree, aggregate, constant}
use Rattle.sql_tree.specs.declared.parts.Column.{Column}
use Rattle.sql_tree.specs.declared.parts.Constant.TheVariants as constants
use Rattle.sql_tree.specs.declared.parts.Source.{Source}
use Rattle.expressions_to_sql.specs.ToSql.{column_of}
use Rattle.selects_to_sql.specs.Queries.{first_alias}

-- a select of groups of all rows of a source
abbrev pub grouped_as : List ItemTree → Source → List Column → Option Exp → SelectTree
grouped_as items source group having = record { items = items; source = source; joins = []; condition = None; group = group; having = having }

-- the columns by which rows are grouped
abbrev pub group_of : List Component → List Column
group_of xs = map (λ x. column_of first_alias x.name) xs

-- null for a group of no rows, which there is where no other identifier is
abbrev pub has_rows : Exp
has_rows = aggregate agg.Min (constant constants.True)
