-- Items of selects and conditions, as they are written.
use Rattle.std.specs.Prelude.{List, [], ◌∷◌, Option, map}
use Rattle.std.specs.Option.{option_map_or}
use Rattle.vtl_decimal.specs.Settings.{Settings}
use Rattle.vtl_lists.specs.Balanced.{balanced}
use Rattle.vtl_cell.specs.declared.operator.ScalarOp.TheVariants as op
use Rattle.vtl_tree.specs.declared.structure.Component.{Component}
use Rattle.vtl_meaning.specs.Operators.{target_named, value_exp, with_measure}
use Rattle.vtl_tree.specs.Trees.{ItemTree as Target, MeasureTree}
use Rattle.vtl_tree.specs.declared.clauses.SubItem.{SubItem}
use Rattle.vtl_tree.specs.CompExp.{CompExp, const}
use Rattle.sql_tree.specs.Trees as tree
use Rattle.sql_tree.specs.Trees.{Exp, ItemTree, QueryTree, SelectTree, Text}
use Rattle.sql_tree.specs.declared.parts.Constant.TheVariants as constant
use Rattle.expressions_to_sql.specs.ToSql.{Naming, column_of, to_sql}
use Rattle.selects_to_sql.specs.Queries.{all_to_sql, first_alias, item_as, items_as, of_one, select_as, source_as}

-- ---- items

-- an item for each two components
abbrev pub for_each_two : (Component → Component → ItemTree) → List Component → List Component → List ItemTree
for_each_two f (x ∷ xs) (y ∷ ys) = f x y ∷ for_each_two f xs ys
for_each_two f xs ys = []

-- expressions as the columns of components
abbrev pub items_for : Settings → Naming → List CompExp → List Component → List ItemTree
items_for p at es ys = items_as (all_to_sql p at es) ys

-- a column of the first source
abbrev pub first_column : Text → Exp
first_column name = tree.column (column_of first_alias name)

-- a column under the name of another one
abbrev pub renamed_item : Component → Component → ItemTree
renamed_item x y = item_as y.name (first_column x.name)

-- columns under their own names
abbrev pub own_item : Component → ItemTree
own_item y = renamed_item y y

abbrev pub own_items : List Component → List ItemTree
own_items ys = map own_item ys

-- the value of a target, or the column as it was
abbrev pub calculated_item : Settings → List Target → Component → ItemTree
calculated_item p items y = item_as y.name (option_map_or (λ i. to_sql p of_one (value_exp i.value)) (target_named items y.name) (first_column y.name))

-- the operator at a measure, which becomes another one
abbrev pub measured_item : Settings → MeasureTree → List Component → Component → Component → ItemTree
measured_item p m xs x y = item_as y.name (to_sql p of_one (with_measure m xs x y))

-- ---- conditions

abbrev pub both_of : Exp → Exp → Exp
both_of e f = tree.binary e op.And f

-- all of them, joined from the left
abbrev pub all_of : List Exp → Exp
all_of es = balanced both_of (tree.constant constant.True) es

-- an identifier has a value
abbrev pub value_equality : Settings → SubItem → Exp
value_equality p i = tree.binary (first_column i.id) op.Equal (to_sql p of_one (const i.value))

-- ---- selects

-- from one table
abbrev pub from_one : List ItemTree → Option Exp → Text → SelectTree
from_one items condition table = select_as items (source_as first_alias table) [] condition

abbrev pub from_table : List ItemTree → Option Exp → Text → QueryTree
from_table items condition table = from_one items condition table ∷ []
