-- The table for operands that stand in a list, in written order.
use Rattle.std.specs.Prelude.{ℕ, List, [], slice_get, slice_index_or}
use Rattle.vtl_tree.specs.Trees as nodes
use Rattle.vtl_tree.specs.Trees.{FormTree, NodeTree}
use Rattle.vtl_tree.specs.declared.structure.Structure.{Structure}
use Rattle.vtl_sources.specs.Lineage.{Past, lineage, operand_of, sources_named}
use Rattle.vtl_sources.specs.Sources.{Sources, Traced, sources, traced}
use Rattle.vtl_sources.specs.Table.{of_aggregate, of_check, of_choice, of_datapoint, of_filter, of_join, of_left, of_made, of_measured, of_measures, of_pair, of_pivot, of_points, of_set, points_of_all}
use Rattle.vtl_lineage.specs.Numbers.{Numbers, merged}

-- the data set of an expression
abbrev pub traced_node : Past Numbers → NodeTree → Traced Numbers
traced_node past n = operand_of n (lineage merged [] past n)

-- an operand; a form has as many as it asks for here
abbrev pub untraced : Traced Numbers
untraced = traced (record { components = [] }) (sources [] [])

abbrev pub operand : List (Traced Numbers) → ℕ → Traced Numbers
operand ds i = slice_index_or ds i untraced

abbrev pub form_line : Past Numbers → Structure → FormTree → List (Traced Numbers) → Sources Numbers
form_line past s (nodes.named name) ds = sources_named [] name past
form_line past s (nodes.measures m a) ds = of_measures merged [] (operand ds 0) m s
form_line past s (nodes.pair o a b) ds = of_pair merged [] (operand ds 0) (operand ds 1) s
form_line past s (nodes.choose t a b) ds = of_choice merged [] (operand ds 0) (operand ds 1) (operand ds 2) s
form_line past s (nodes.member a m) ds = of_left merged [] (operand ds 0) s
form_line past s (nodes.filter a e) ds = of_filter merged [] (operand ds 0) e
form_line past s (nodes.calc a items) ds = of_made merged [] (operand ds 0) (nodes.of_items items) s
form_line past s (nodes.keep a names) ds = of_left merged [] (operand ds 0) s
form_line past s (nodes.drop_named a names) ds = of_left merged [] (operand ds 0) s
form_line past s (nodes.rename a pairs) ds = (operand ds 0).sources
form_line past s (nodes.sub a items) ds = of_left merged [] (operand ds 0) s
form_line past s (nodes.pivot a id m) ds = of_pivot merged [] (operand ds 0) m s
form_line past s (nodes.unpivot a id m) ds = of_measured merged [] (operand ds 0) s
form_line past s (nodes.join os spec) ds = of_join merged [] ds
form_line past s (nodes.union ns) ds = of_set merged [] ds s
form_line past s (nodes.intersect ns) ds = of_set merged [] ds s
form_line past s (nodes.set_diff a b) ds = of_set merged [] ds s
form_line past s (nodes.sym_diff a b) ds = of_set merged [] ds s
form_line past s (nodes.exists_in a b r) ds = of_points merged [] (points_of_all merged [] ds) s
form_line past s (nodes.aggregate a spec) ds = of_aggregate merged [] (operand ds 0) spec s
form_line past s (nodes.analytic_of a spec) ds = of_made merged [] (operand ds 0) spec s
form_line past s (nodes.time a o) ds = of_left merged [] (operand ds 0) s
form_line past s (nodes.check a i spec) ds = of_check merged [] (operand ds 0) (slice_get ds 1)
form_line past s (nodes.check_datapoint a rules out) ds = of_datapoint merged [] (operand ds 0) rules.rules out
form_line past s (nodes.check_hierarchy a rules m out) ds = of_measured merged [] (operand ds 0) s
form_line past s (nodes.hierarchy a rules m i out) ds = of_measured merged [] (operand ds 0) s

abbrev pub node_line : Past Numbers → NodeTree → List (Traced Numbers) → Sources Numbers
node_line past (nodes.node s form) ds = form_line past s form ds
