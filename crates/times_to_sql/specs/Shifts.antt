-- The query of `timeshift`.
use Rattle.std.specs.Prelude.{ℤ, [], ◌∷◌, map, None, if◌then◌else◌}
use Rattle.vtl_decimal.specs.Settings.{Settings}
use Rattle.vtl_cell.specs.declared.cell.Cell.{Cell}
use Rattle.vtl_cell.specs.declared.cell.Cell.TheVariants as c
use Rattle.vtl_cell.specs.declared.operator.ScalarOp.TheVariants as op
use Rattle.vtl_tree.specs.Structure.{columns_of}
use Rattle.vtl_tree.specs.declared.structure.Component.{Component}
use Rattle.vtl_tree.specs.declared.structure.Structure.{Structure}
use Rattle.vtl_timing.specs.Times.{is_time}
use Rattle.sql_tree.specs.Trees as tree
use Rattle.sql_tree.specs.Trees.{Exp, ItemTree, QueryTree, Text}
use Rattle.expressions_to_sql.specs.Constants.{const_to_sql}
use Rattle.selects_to_sql.specs.Items.{first_column}
use Rattle.selects_to_sql.specs.Queries.{first_alias, item_as, select_as, source_as}

-- a column so many periods later
abbrev pub later : Settings → (periods : Cell) → Text → Exp
later p n name = tree.call op.PeriodShift (tree.exp (first_column name) (tree.exp (const_to_sql p n) tree.no_exps))

-- the time shifted, another column as it is
abbrev pub shifted_column : Settings → (periods : Cell) → Component → Exp
shifted_column p n x = if is_time x then later p n x.name else first_column x.name

abbrev pub shifted_item : Settings → (periods : Cell) → Component → ItemTree
shifted_item p n x = item_as x.name (shifted_column p n x)

-- each column at its place
abbrev pub shift_query : Settings → ℤ → Structure → (table : Text) → QueryTree
shift_query p n a table = select_as (map (shifted_item p (c.Int n)) (columns_of a)) (source_as first_alias table) [] None ∷ []
