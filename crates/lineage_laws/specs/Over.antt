-- The table over sets of pairs.
use Rattle.std.specs.Prelude.{ℕ, List, Option}
use Rattle.vtl_tree.specs.CompExp.{CompExp, CompExps}
use Rattle.vtl_tree.specs.Trees.{AggTree, AnalyticTree, FormTree, MaybeNode, MeasureTree, NodeTree, NodeTrees, OperandTrees, PointRuleTree, ValueTree}
use Rattle.vtl_tree.specs.declared.calls.Window.{Window}
use Rattle.vtl_tree.specs.declared.specifications.AggItems.{AggItems}
use Rattle.vtl_tree.specs.declared.structure.Component.{Component}
use Rattle.vtl_tree.specs.declared.structure.Structure.{Structure}
use Rattle.vtl_syntax.specs.declared.word_groups.CheckOut.{CheckOut}
use Rattle.vtl_scripts.specs.Meaning.{Statement}
use Rattle.vtl_sources.specs.Lineage as script
use Rattle.vtl_sources.specs.Links.{Pairs, either, none}
use Rattle.vtl_sources.specs.Sources as sets
use Rattle.vtl_sources.specs.Table as table

-- a data set with what it depends on
abbrev pub Operand : Type 0
Operand = sets.Traced Pairs

abbrev pub Found : Type 0
Found = sets.Sources Pairs

abbrev pub Past : Type 0
Past = script.Past Pairs

-- no pairs
abbrev pub no_pairs : Pairs
no_pairs = none

abbrev pub columns_from : Structure → Found → List Pairs
columns_from = sets.columns_from either none

abbrev pub source_at : Operand → ℕ → Pairs
source_at = sets.source_at either none

abbrev pub source_named : Operand → List ℕ → Pairs
source_named = sets.source_named either none

abbrev pub source_if_named : Operand → Option (List ℕ) → Pairs
source_if_named = sets.source_if_named either none

abbrev pub each_source : Operand → List Component → List Pairs
each_source = sets.each_source either none

abbrev pub measure_sources : Operand → List Pairs
measure_sources = sets.measure_sources either none

abbrev pub attribute_sources : Operand → List Pairs
attribute_sources = sets.attribute_sources either none

abbrev pub with_all : Pairs → List Pairs → Pairs
with_all = sets.with_all either none

abbrev pub with_names : Operand → Pairs → List (List ℕ) → Pairs
with_names = sets.with_names either none

abbrev pub with_expression : Operand → Pairs → CompExp → Pairs
with_expression = sets.with_expression either none

abbrev pub with_expressions : Operand → Pairs → CompExps → Pairs
with_expressions = sets.with_expressions either none

abbrev pub points_of_all : List Operand → Pairs
points_of_all = table.points_of_all either none

abbrev pub namesakes : List Operand → Component → Pairs
namesakes = table.namesakes either none

abbrev pub with_measures : Operand → Pairs
with_measures = table.with_measures either none

abbrev pub with_measure : Operand → Pairs → Pairs
with_measure = table.with_measure either none

abbrev pub with_window : Operand → Pairs → Window → Pairs
with_window = table.with_window either none

abbrev pub source_of_value : Operand → ValueTree → Pairs
source_of_value = table.source_of_value either none

abbrev pub source_made : Operand → AnalyticTree → Component → Pairs
source_made = table.source_made either none

abbrev pub source_counted : Operand → AggItems → Component → Pairs
source_counted = table.source_counted either none

abbrev pub with_rule : Operand → Pairs → PointRuleTree → Pairs
with_rule = table.with_rule either none

abbrev pub of_points : Pairs → Structure → Found
of_points = table.of_points either none

abbrev pub of_measures : Operand → MeasureTree → Structure → Found
of_measures = table.of_measures either none

abbrev pub of_pair : Operand → Operand → Structure → Found
of_pair = table.of_pair either none

abbrev pub of_choice : Operand → Operand → Operand → Structure → Found
of_choice = table.of_choice either none

abbrev pub of_left : Operand → Structure → Found
of_left = table.of_left either none

abbrev pub of_filter : Operand → CompExp → Found
of_filter = table.of_filter either none

abbrev pub of_made : Operand → AnalyticTree → Structure → Found
of_made = table.of_made either none

abbrev pub of_pivot : Operand → List ℕ → Structure → Found
of_pivot = table.of_pivot either none

abbrev pub of_measured : Operand → Structure → Found
of_measured = table.of_measured either none

abbrev pub of_join : List Operand → Found
of_join = table.of_join either none

abbrev pub of_set : List Operand → Structure → Found
of_set = table.of_set either none

abbrev pub of_aggregate : Operand → AggTree → Structure → Found
of_aggregate = table.of_aggregate either none

abbrev pub of_check : Operand → Option Operand → Found
of_check = table.of_check either none

abbrev pub of_datapoint : Operand → List PointRuleTree → CheckOut → Found
of_datapoint = table.of_datapoint either none

abbrev pub lineage : Past → NodeTree → Found
lineage = script.lineage either none

abbrev pub operand_of : NodeTree → Found → Operand
operand_of = script.operand_of

-- of the data set of this name
abbrev pub found_named : List ℕ → Past → Found
found_named = script.sources_named none

abbrev pub form_lineage : Past → Structure → FormTree → Found
form_lineage = script.form_lineage either none

abbrev pub maybe_lineage : Past → MaybeNode → Option Operand
maybe_lineage = script.maybe_lineage either none

abbrev pub nodes_lineage : Past → NodeTrees → List Operand
nodes_lineage = script.nodes_lineage either none

abbrev pub operands_lineage : Past → OperandTrees → List Operand
operands_lineage = script.operands_lineage either none

abbrev pub outputs_lineage : Past → List Statement → List (List ℕ × Operand)
outputs_lineage = script.outputs_lineage either none
