-- What calls of rulesets ask of their operand, which columns conditions see, and the structures that calls give.
use Rattle.std.specs.Prelude.{ℕ, Bool, true, false, not, ◌&&◌, cond, List, [], ◌∷◌, ◌++◌, map, Option, Some, None, Result, Err}
use Rattle.vtl_lists.specs.Results.{◌>>=◌}
use Rattle.vtl_cell.specs.Kinds.{same_kind}
use Rattle.vtl_cell.specs.declared.kind.Kind.TheVariants as k
use Rattle.vtl_syntax.specs.declared.word_groups.CheckOut.{CheckOut}
use Rattle.vtl_tree.specs.Checks.{ruled_measures, ruleid, sided_measures, without_codes}
use Rattle.vtl_tree.specs.Choices.{is_identifier}
use Rattle.vtl_tree.specs.Columns.{identifiers_of, measures_of}
use Rattle.vtl_tree.specs.CompExp.{CompExp, CompExps, column, const, call, aggregate, no_comp_exps, comp_exp}
use Rattle.vtl_tree.specs.Names.{component_of, is_among}
use Rattle.vtl_tree.specs.Operands.{has_one_measure}
use Rattle.vtl_tree.specs.declared.names.Wanted.TheVariants as wanted
use Rattle.vtl_tree.specs.declared.structure.Component.{Component}
use Rattle.vtl_tree.specs.declared.structure.Structure.{Structure}
use Rattle.check_faults.specs.Rules.{ruled}
use Rattle.check_faults.specs.declared.rules.Rule.{Rule}
use Rattle.check_faults.specs.declared.rules.Rule.TheVariants as rule
use Rattle.check_shapes.specs.Names.{all_known}
use Rattle.check_shapes.specs.Shape.{shaped}

-- ---- datapoint rules
-- the variables are components of the operand
abbrev pub variables_known : List (List ℕ) → Structure → Result (List (List ℕ)) Rule
variables_known names a = all_known wanted.Any a.components names

-- Conditions see the variables alone. A column keeps its place, and has no name where it is none of them.
abbrev pub seen_column : List (List ℕ) → Component → Component
seen_column names x = cond (is_among x.name names) x (record x { name = [] })

abbrev pub seen_columns : List (List ℕ) → List Component → List Component
seen_columns names xs = map (seen_column names) xs

abbrev pub has_name : List ℕ → Bool
has_name [] = false
has_name name = true

-- each column that an expression names has a name
abbrev mutual
  pub sees_names : CompExp → Bool
  sees_names (column place name kind) = has_name name
  sees_names (const v) = true
  sees_names (call o kind args) = all_see_names args
  sees_names (aggregate a kind) = true

  pub all_see_names : CompExps → Bool
  all_see_names no_comp_exps = true
  all_see_names (comp_exp e es) = sees_names e && all_see_names es

abbrev pub point_checked : CheckOut → Structure → Result Structure Rule
point_checked o a = shaped (identifiers_of a ++ (ruleid ∷ ruled_measures o a))

-- ---- hierarchical rules
-- the identifier of the items holds texts
abbrev pub is_of_items : Component → Bool
is_of_items x = is_identifier x && same_kind x.kind k.Text

abbrev pub itemized_by : Option Component → Structure → Result (Unit {0}) Rule
itemized_by None a = Err rule.UnknownComponent
itemized_by (Some x) a = ruled ((rule.WrongRole, not (is_of_items x)) ∷ (rule.MeasuresDisagree, not (has_one_measure k.Num a.components)) ∷ []) (tt {0})

-- the variable is such an identifier of the operand, whose only measure is an integer or a number
abbrev pub itemized : List ℕ → Structure → Result (Unit {0}) Rule
itemized variable a = itemized_by (component_of variable a.components) a

abbrev pub hierarchy_checked : CheckOut → List ℕ → Structure → Result Structure Rule
hierarchy_checked o variable a = itemized variable a >>= λ u. shaped (without_codes variable (identifiers_of a) ++ (ruleid ∷ sided_measures o a))

abbrev pub hierarchy_made : List ℕ → Structure → Result Structure Rule
hierarchy_made variable a = itemized variable a >>= λ u. shaped (without_codes variable (identifiers_of a) ++ measures_of a)
