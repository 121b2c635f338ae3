-- Items of an aggregate's query, as they are written.
use Rattle.std.specs.Prelude.{List, map, if◌then◌else◌}
use Rattle.std.specs.Option.{option_map_or}
use Rattle.vtl_tree.specs.Structure.{same_role}
use Rattle.vtl_tree.specs.declared.expression.AggCall.{AggCall}
use Rattle.vtl_tree.specs.declared.structure.Component.{Component}
use Rattle.vtl_tree.specs.declared.structure.Role.TheVariants as role
use Rattle.vtl_meaning.specs.Aggregates.{call_for}
use Rattle.expressions_to_sql.specs.ToSql.{aggregate_to_sql}
use Rattle.vtl_tree.specs.declared.specifications.AggItems.{AggItems}
use Rattle.sql_tree.specs.Trees.{Exp, ItemTree, Text, constant}
use Rattle.sql_tree.specs.declared.parts.Constant.TheVariants as constants
use Rattle.selects_to_sql.specs.Items.{first_column}
use Rattle.selects_to_sql.specs.Queries.{item_as, of_one}

-- an aggregate of a component, or how many rows there are
abbrev pub call_value : AggCall → Exp
call_value a = aggregate_to_sql of_one a.kind a.component

-- what makes the column of a name
abbrev pub made_value : AggItems → (name : Text) → Exp
made_value i name = option_map_or call_value (call_for i name) (constant constants.Null)

-- a grouping identifier, or what makes another column
abbrev pub aggregated_value : AggItems → Component → Exp
aggregated_value i y = if same_role y.role role.Identifier then first_column y.name else made_value i y.name

abbrev pub aggregated_item : AggItems → Component → ItemTree
aggregated_item i y = item_as y.name (aggregated_value i y)

abbrev pub aggregated_items : AggItems → List Component → List ItemTree
aggregated_items i ys = map (aggregated_item i) ys
