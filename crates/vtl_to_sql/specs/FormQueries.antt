-- The query of each form of one operand, of two and of three, over the tables of its operands.
use Rattle.std.specs.Prelude.{[]}
use Rattle.vtl_decimal.specs.Settings.{Settings}
use Rattle.vtl_tree.specs.declared.structure.Structure.{Structure}
use Rattle.vtl_tree.specs.Trees as nodes
use Rattle.vtl_tree.specs.Trees.{FormTree, structure_of}
use Rattle.sql_tree.specs.Trees.{QueryTree, Text}
use Rattle.groups_to_sql.specs.Grouped.{aggregate_query}
use Rattle.selects_to_sql.specs.Queries.{calc_query, choose_query, left_query, measures_query, pair_query, rename_query, sub_query}
use Rattle.vtl_to_sql.specs.Sets.{difference_query, existence_query, symmetric_difference_query}
use Rattle.groups_to_sql.specs.Turned.{pivot_query, unpivot_query}
use Rattle.groups_to_sql.specs.Windowed.{analytic_query}
use Rattle.rules_to_sql.specs.CheckQueries.{check_query, imbalance_query}
use Rattle.rules_to_sql.specs.PointQueries.{datapoint_query}

abbrev pub query_of_one : Settings → FormTree → (s : Structure) → (table : Text) → QueryTree
query_of_one p (nodes.measures m a) s = measures_query p m (structure_of a) s
query_of_one p (nodes.member a m) s = left_query p (structure_of a) s
query_of_one p (nodes.calc a items) s = calc_query p items (structure_of a) s
query_of_one p (nodes.keep a names) s = left_query p (structure_of a) s
query_of_one p (nodes.drop_named a names) s = left_query p (structure_of a) s
query_of_one p (nodes.rename a pairs) s = rename_query p (structure_of a) s
query_of_one p (nodes.sub a items) s = sub_query p items (structure_of a) s
query_of_one p (nodes.pivot a id m) s = pivot_query p id m (structure_of a) s
query_of_one p (nodes.aggregate a spec) s = aggregate_query p spec (structure_of a) s
query_of_one p (nodes.analytic_of a spec) s = analytic_query p spec (structure_of a) s
query_of_one p (nodes.unpivot a id m) s = unpivot_query p (structure_of a) s
query_of_one p (nodes.check a nodes.no_node spec) s = check_query p spec (structure_of a) s
query_of_one p (nodes.check_datapoint a rules out) s = datapoint_query p rules.rules out (structure_of a) s
query_of_one p other s = λ x. []

abbrev pub query_of_two : Settings → FormTree → (s : Structure) → (first second : Text) → QueryTree
query_of_two p (nodes.pair o a b) s = pair_query p o (structure_of a) (structure_of b) s
query_of_two p (nodes.set_diff a b) s = difference_query p (structure_of a) (structure_of b) s
query_of_two p (nodes.sym_diff a b) s = symmetric_difference_query p (structure_of a) (structure_of b) s
query_of_two p (nodes.exists_in a b kept) s = existence_query p kept (structure_of a) (structure_of b) s
query_of_two p (nodes.check a (nodes.some_node i) spec) s = imbalance_query p spec (structure_of a) (structure_of i) s
query_of_two p other s = λ x y. []

abbrev pub query_of_three : Settings → FormTree → (s : Structure) → (first second third : Text) → QueryTree
query_of_three p (nodes.choose t a b) s = choose_query p (structure_of t) (structure_of a) (structure_of b) s
query_of_three p other s = λ x y z. []
