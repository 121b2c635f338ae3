-- What calls of defined rulesets give. No ruleset is known inside a condition.
use Rattle.std.specs.Prelude.{ℕ, Bool, not, List, [], ◌∷◌, map, Option, Some, None, Result, Ok, Err, unwrap_or}
use Rattle.std.specs.List.{list_any}
use Rattle.std.specs.Map.{keys_of, lookup}
use Rattle.vtl_lists.specs.Results.{◌>>=◌}
use Rattle.vtl_syntax.specs.Trees as tree
use Rattle.vtl_syntax.specs.Trees.{Exp, PointRuleTree, StatementTree}
use Rattle.vtl_syntax.specs.declared.parts.Comp.{Comp}
use Rattle.vtl_syntax.specs.declared.statements.HierRule.{HierRule}
use Rattle.vtl_syntax.specs.declared.word_groups.CheckOut.{CheckOut}
use Rattle.vtl_syntax.specs.declared.word_groups.CheckOut.TheVariants as out
use Rattle.vtl_syntax.specs.declared.word_groups.HierInput.{HierInput}
use Rattle.vtl_syntax.specs.declared.word_groups.HierInput.TheVariants as input
use Rattle.vtl_syntax.specs.declared.word_groups.HierOut.{HierOut}
use Rattle.vtl_syntax.specs.declared.word_groups.HierOut.TheVariants as points
use Rattle.vtl_syntax.specs.declared.word_groups.Mode.{Mode}
use Rattle.vtl_syntax.specs.declared.word_groups.Mode.TheVariants as mode
use Rattle.vtl_tree.specs.CompExp.{CompExp}
use Rattle.vtl_tree.specs.Names.{name_of}
use Rattle.vtl_tree.specs.Structure.{same_name}
use Rattle.vtl_tree.specs.Trees as nodes
use Rattle.vtl_tree.specs.Trees.{NodeTree, structure_of}
use Rattle.vtl_tree.specs.declared.rules.HierRules.{HierRules}
use Rattle.check_faults.specs.InTurn.{in_turn}
use Rattle.check_faults.specs.Rules.{ruled}
use Rattle.check_faults.specs.declared.rules.Rule.{Rule}
use Rattle.check_faults.specs.declared.rules.Rule.TheVariants as rule
use Rattle.check_operators.specs.Places.{Env, at_points, columns_in}
use Rattle.check_operators.specs.Sets.{level_typed}
use Rattle.check_operators.specs.Typed.{TypedTree, condition_in, dataset_in, made_of}
use Rattle.check_operators.specs.declared.places.Inside.{Inside}
use Rattle.check_operators.specs.declared.places.Place.{Place}
use Rattle.check_operators.specs.declared.places.Place.TheVariants as place
use Rattle.check_rules.specs.Calls.{hierarchy_checked, hierarchy_made, point_checked, seen_columns, sees_names, variables_known}
use Rattle.check_rules.specs.Order.{hierarchy_order}
use Rattle.check_expressions.specs.Rulings.{Rulings, plain_sight}
use Rattle.check_expressions.specs.Typing.{typed}

-- definitions of rulesets by name
abbrev pub Definitions : Type 0
Definitions = List (List ℕ × StatementTree)

pub record PointDefinition : Type 0 where
  pub variables : List (List ℕ)
  pub rules : List PointRuleTree

pub record HierDefinition : Type 0 where
  pub item : List ℕ
  pub rules : List HierRule

-- a name that is unknown, or that of the other form, breaks `UnknownRuleset`
abbrev pub point_definition : Option StatementTree → Result PointDefinition Rule
point_definition (Some (tree.datapoint name variables rules last)) = Ok (record { variables = map name_of variables; rules = rules })
point_definition other = Err rule.UnknownRuleset

abbrev pub hier_definition : Option StatementTree → Result HierDefinition Rule
hier_definition (Some (tree.hierarchical name item rules last)) = Ok (record { item = name_of item; rules = rules })
hier_definition other = Err rule.UnknownRuleset

abbrev pub is_defined : List ℕ → Definitions → Bool
is_defined name definitions = list_any (same_name name) (keys_of definitions)

abbrev pub definition_named : Definitions → List ℕ → Option StatementTree
definition_named definitions name = lookup (same_name name) definitions

-- ---- datapoint rulesets
-- the points of the operand, as far as conditions see them
abbrev pub at_variables : List (List ℕ) → NodeTree → Inside
at_variables names a = record (at_points None a) { components = seen_columns names (columns_in a) }

-- a place whose names are variables alone
abbrev pub seeing : List (List ℕ) → Place → Place
seeing names place.Outside = place.Outside
seeing names (place.Inside i) = place.Inside (record i { components = seen_columns names i.components })

abbrev pub condition_typed : Env → Place → Exp → Result CompExp Rule
condition_typed env at e = typed (plain_sight env) at e >>= condition_in >>= λ c. ruled ((rule.UnknownComponent, not (sees_names c)) ∷ []) c

abbrev pub antecedent_typed : Env → Place → Option Exp → Result (Option CompExp) Rule
antecedent_typed env at None = Ok None
antecedent_typed env at (Some e) = condition_typed env at e >>= λ c. Ok (Some c)

-- a rule: the antecedent, then the condition
abbrev pub point_rule_typed : Env → Place → PointRuleTree → Result nodes.PointRuleTree Rule
point_rule_typed env at (tree.point_rule name antecedent holds error) =
    antecedent_typed env at antecedent
    >>= λ a. condition_typed env at holds
    >>= λ c. level_typed env.settings error.level
    >>= λ level. Ok (record { name = name; antecedent = a; condition = c; errorcode = error.code; errorlevel = level })

abbrev pub point_rules_typed : Env → Place → List PointRuleTree → Result (List nodes.PointRuleTree) Rule
point_rules_typed env at rules = in_turn (λ done r. point_rule_typed env at r) [] rules

abbrev pub checked_points : CheckOut → NodeTree → List (List ℕ) → List nodes.PointRuleTree → Result TypedTree Rule
checked_points o a names rules = point_checked o (structure_of a) >>= made_of (nodes.check_datapoint a (record { variables = names; rules = rules }) o)

abbrev pub datapoint_typed : Env → Option CheckOut → PointDefinition → NodeTree → Result TypedTree Rule
datapoint_typed env o d a =
    variables_known d.variables (structure_of a)
    >>= λ names. point_rules_typed env (place.Inside (at_variables names a)) d.rules
    >>= checked_points (unwrap_or o out.Invalid) a names

-- ---- hierarchical rulesets
-- the component that a call names is the ruleset's variable
abbrev pub variable_of : Option Comp → HierDefinition → Result (List ℕ) Rule
variable_of None d = Ok d.item
variable_of (Some c) d = ruled ((rule.UnknownRuleset, not (same_name (name_of c) d.item)) ∷ []) d.item

abbrev pub hier_rules : List ℕ → List HierRule → Option (List ℕ) → HierRules
hier_rules variable rules order = record { variable = variable; rules = rules; order = order }

abbrev pub check_hierarchy_typed : Mode → CheckOut → List HierRule → (variable : List ℕ) → NodeTree → Result TypedTree Rule
check_hierarchy_typed m o rules variable a = hierarchy_checked o variable (structure_of a) >>= made_of (nodes.check_hierarchy a (hier_rules variable rules None) m o)

abbrev pub hierarchy_typed : Mode → HierInput → HierOut → List HierRule → (variable : List ℕ) → NodeTree → Result TypedTree Rule
hierarchy_typed m i o rules variable a =
    hierarchy_made variable (structure_of a)
    >>= λ s. hierarchy_order rules
    >>= λ order. made_of (nodes.hierarchy a (hier_rules variable rules (Some order)) m i o) s

-- ---- calls
-- each of what a statement defines
abbrev pub datapoint_called : Option StatementTree → Env → Option CheckOut → TypedTree → Result TypedTree Rule
datapoint_called s env o x = point_definition s >>= λ d. dataset_in x >>= datapoint_typed env o d

abbrev pub check_called : Option StatementTree → Option Comp → Option Mode → Option CheckOut → TypedTree → Result TypedTree Rule
check_called s r m o x =
    hier_definition s >>= λ d. variable_of r d >>= λ v. dataset_in x
    >>= check_hierarchy_typed (unwrap_or m mode.NonNull) (unwrap_or o out.Invalid) d.rules v

abbrev pub hierarchy_called : Option StatementTree → Option Comp → Option Mode → Option HierInput → Option HierOut → TypedTree → Result TypedTree Rule
hierarchy_called s r m i o x =
    hier_definition s >>= λ d. variable_of r d >>= λ v. dataset_in x
    >>= hierarchy_typed (unwrap_or m mode.NonNull) (unwrap_or i input.Rule) (unwrap_or o points.Computed) d.rules v

abbrev pub rulings_of : Definitions → Rulings
rulings_of definitions = record {
  datapoint = λ env name o x. datapoint_called (definition_named definitions name) env o x;
  check_hierarchy = λ name r m o x. check_called (definition_named definitions name) r m o x;
  hierarchy = λ name r m i o x. hierarchy_called (definition_named definitions name) r m i o x;
}
