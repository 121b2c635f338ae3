-- What the definitions of rulesets have to be by themselves. Conditions are typed at each call.
use Rattle.std.specs.Prelude.{ℕ, ◌+◌, Bool, true, not, List, [], ◌∷◌, map, Option, Result, Ok}
use Rattle.std.specs.List.{list_all}
use Rattle.std.specs.Option.{is_some, option_map_or}
use Rattle.vtl_lists.specs.Apart.{all_apart}
use Rattle.vtl_lists.specs.Results.{◌>>=◌}
use Rattle.vtl_text.specs.Texts.{same_text}
use Rattle.vtl_decimal.specs.Settings.{Settings}
use Rattle.vtl_cell.specs.Literals.{integer_written}
use Rattle.vtl_syntax.specs.Trees.{PointRuleTree, point_rule}
use Rattle.vtl_syntax.specs.declared.parts.Comp.{Comp}
use Rattle.vtl_syntax.specs.declared.parts.ErrorPart.{ErrorPart}
use Rattle.vtl_syntax.specs.declared.statements.HierRule.{HierRule}
use Rattle.vtl_tree.specs.Structure.{same_name}
use Rattle.check_faults.specs.Rules.{ruled}
use Rattle.check_faults.specs.declared.rules.Rule.{Rule}
use Rattle.check_faults.specs.declared.rules.Rule.TheVariants as rule
use Rattle.vtl_tree.specs.Names.{name_of}
use Rattle.vtl_tree.specs.RuleItems.{items_of}
use Rattle.vtl_tree.specs.Checks.{rule_id}

-- the identifiers of rules, of which the first has this number
abbrev pub identifiers_from : ℕ → List (Option (List ℕ)) → List (List ℕ)
identifiers_from n [] = []
identifiers_from n (name ∷ names) = rule_id n name ∷ identifiers_from (n + 1) names

abbrev pub identifiers : List (Option (List ℕ)) → List (List ℕ)
identifiers names = identifiers_from 1 names

-- no two rules have the same identifier
abbrev pub are_told_apart : List (Option (List ℕ)) → Bool
are_told_apart names = all_apart same_text (identifiers names)

abbrev pub point_rule_name : PointRuleTree → Option (List ℕ)
point_rule_name (point_rule name condition holds error) = name

abbrev pub point_rule_error : PointRuleTree → ErrorPart
point_rule_error (point_rule name condition holds error) = error

-- a level is an integer in range
abbrev pub level_fits : Settings → ErrorPart → Bool
level_fits p e = option_map_or (λ digits. is_some (integer_written p digits)) e.level true

-- a datapoint ruleset: its variables, then the level of each rule, then all identifiers
abbrev pub datapoint_defined : Settings → List Comp → List PointRuleTree → Result (Unit {0}) Rule
datapoint_defined p variables rules =
    ruled (
    (rule.RepeatedName, not (all_apart same_name (map name_of variables)))
    ∷ (rule.WrongLiteral, not (list_all (λ r. level_fits p (point_rule_error r)) rules))
    ∷ (rule.RepeatedRule, not (are_told_apart (map point_rule_name rules))) ∷ []
    ) (tt {0})

-- a hierarchical rule: its level, then its items
abbrev pub hier_rule_defined : Settings → HierRule → Result (Unit {0}) Rule
hier_rule_defined p r = ruled ((rule.WrongLiteral, not (level_fits p r.error)) ∷ (rule.RepeatedRule, not (all_apart same_name (items_of r))) ∷ []) (tt {0})

abbrev pub hier_rules_defined : Settings → List HierRule → Result (Unit {0}) Rule
hier_rules_defined p [] = Ok (tt {0})
hier_rules_defined p (r ∷ rs) = hier_rule_defined p r >>= λ u. hier_rules_defined p rs

-- a hierarchical ruleset: its rules one after the other, then all identifiers
abbrev pub hierarchical_defined : Settings → List HierRule → Result (Unit {0}) Rule
hierarchical_defined p rules = hier_rules_defined p rules >>= λ u. ruled ((rule.RepeatedRule, not (are_told_apart (map (λ r. r.name) rules))) ∷ []) (tt {0})
