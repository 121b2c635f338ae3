-- What the program holds of the rulesets of a script.
use Rattle.std.specs.Prelude.{map}
use Rattle.vtl_syntax.specs.View.{point_rule_tree, statement_tree}
use Rattle.vtl_tree.specs.Names.{name_of}
use Rattle.check_expressions.specs.Rulesets.{Definitions, HierDefinition, PointDefinition}
use Rattle.check_expressions.specs.declared.datapoints.PointDefinition as points
use Rattle.check_expressions.specs.declared.defined.Defined.{Defined}
use Rattle.check_expressions.specs.declared.hierarchies.HierDefinition as items

abbrev pub definitions_of : Defined → Definitions
definitions_of d = map (λ e. (e.0, statement_tree e.1.now)) d.statements

abbrev pub point_definition_view : points.PointDefinition → PointDefinition
point_definition_view d = record { variables = map name_of d.variables.now; rules = map point_rule_tree d.rules.now }

abbrev pub hier_definition_view : items.HierDefinition → HierDefinition
hier_definition_view d = record { item = d.item.now; rules = d.rules.now }
