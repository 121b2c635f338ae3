-- `check_datapoint`: a truth value for each rule and point; and `check`: one for each point.
use Rattle.std.specs.Prelude.{ℕ, suc, ◌+◌, true, false, cond, List, ◌∷◌, ◌++◌, drop, length, take, Option, Some, None, Ok}
use Rattle.std.specs.List.{filter_map, flat_map}
use Rattle.std.specs.Option.{option_map_or}
use Rattle.vtl_decimal.specs.Settings.{Settings}
use Rattle.vtl_decimal.specs.declared.number.Fault.{Fault}
use Rattle.vtl_cell.specs.Conversion.{as_kind}
use Rattle.vtl_cell.specs.Outcome.{Outcome, after, fault_in, faults_by, unless}
use Rattle.vtl_cell.specs.Row.{Row, column_of}
use Rattle.vtl_cell.specs.declared.cell.Cell.{Cell}
use Rattle.vtl_cell.specs.declared.cell.Cell.TheVariants as c
use Rattle.vtl_cell.specs.declared.kind.Kind.TheVariants as k
use Rattle.vtl_syntax.specs.declared.word_groups.CheckOut.{CheckOut}
use Rattle.vtl_tree.specs.Columns.{measures_of}
use Rattle.vtl_tree.specs.CompExp.{CompExp}
use Rattle.vtl_tree.specs.Environment.{DataSet}
use Rattle.vtl_tree.specs.Structure.{key_width}
use Rattle.vtl_tree.specs.Trees.{PointRuleTree}
use Rattle.vtl_tree.specs.Value.{value}
use Rattle.vtl_tree.specs.declared.specifications.CheckSpec.{CheckSpec}
use Rattle.vtl_tree.specs.declared.structure.Structure.{Structure}
use Rattle.vtl_meaning.specs.Agreement.{first_agreeing, key_of, values_in}
use Rattle.vtl_meaning.specs.Points.{cell_or_null}
use Rattle.vtl_rulings.specs.Outputs.{code_cell, errors_at, is_basic_shown, is_false, is_shown, level_cell}
use Rattle.vtl_tree.specs.Checks.{output_parts, with_ids}

-- ---- rules
-- what holds under an antecedent: where it is false the rule holds, where it is null nothing is known
abbrev pub under : (antecedent : Cell) → (consequent : Outcome Cell) → Outcome Cell
under (c.Bool true) consequent = consequent
under (c.Bool false) consequent = Ok (c.Bool true)
under antecedent consequent = Ok c.Null

-- a condition behind its antecedent, where one is written; the condition is evaluated only where the antecedent is true
abbrev pub held : Settings → (antecedent : Option CompExp) → (condition : CompExp) → Row → Outcome Cell
held p None condition r = value p condition r
held p (Some antecedent) condition r = after (value p antecedent r) (λ t. under t (value p condition r))

-- the truth value of a rule at a point
abbrev pub truth_of : Settings → PointRuleTree → Row → Outcome Cell
truth_of p rule r = held p rule.antecedent rule.condition r

abbrev pub errors_of : PointRuleTree → (truth : Cell) → Row
errors_of rule truth = errors_at (code_cell rule.errorcode) (level_cell rule.errorlevel) truth

-- ---- `check_datapoint`
-- a rule with its identifier
abbrev pub PointRule : Type 0
PointRule = List ℕ × PointRuleTree

abbrev pub point_rules : List PointRuleTree → List PointRule
point_rules rules = with_ids (λ r. r.name) 1 rules

-- the point of a rule at a point of the operand, if the output shows one
abbrev pub ruled_point : CheckOut → Structure → PointRule → Row → (truth : Cell) → Option Row
ruled_point o a rule r truth = cond (is_shown o truth) (Some (key_of a r ++ (c.Text rule.0 ∷ output_parts o (values_in a (measures_of a) r) truth (errors_of rule.1 truth)))) None

-- of one rule at each point
abbrev pub rule_points : Settings → CheckOut → DataSet → PointRule → List Row
rule_points p o a rule = filter_map (λ r. ruled_point o a.structure rule r (cell_or_null (truth_of p rule.1 r))) a.points

-- every rule is evaluated at every point, whatever output is asked for
abbrev pub rule_fault : Settings → DataSet → PointRule → Option Fault
rule_fault p a rule = faults_by (λ r. fault_in (truth_of p rule.1 r)) a.points

-- rule after rule
abbrev pub datapoint_of : Settings → CheckOut → List PointRuleTree → DataSet → Outcome (List Row)
datapoint_of p o rules a = unless (faults_by (rule_fault p a) (point_rules rules)) (flat_map (rule_points p o a) (point_rules rules))

-- ---- one output by another
-- where the truth value stands among the cells of `all_measures`: behind the identifiers, that of the rule and the measures
abbrev pub truth_place : Structure → ℕ
truth_place a = key_width a + suc (length (measures_of a))

-- the other cells of a point whose truth value, at this place, is false
abbrev pub false_without : (place : ℕ) → Row → Option Row
false_without place r = cond (is_false (column_of place r)) (Some (take place r ++ drop (suc place) r)) None

-- ---- `check`
-- the measure of the point that agrees, as a number; null where there is none
abbrev pub imbalance_at : Settings → Structure → (imbalance : Option DataSet) → Row → Cell
imbalance_at p a imbalance r = option_map_or (λ d. option_map_or (λ q. cell_or_null (as_kind p k.Num (column_of (key_width d.structure) q))) (first_agreeing a d r) c.Null) imbalance c.Null

-- the truth value is the measure, which stands behind the identifiers
abbrev pub checked_point : Settings → CheckSpec → Structure → (imbalance : Option DataSet) → Row → (truth : Cell) → Option Row
checked_point p spec a imbalance r truth =
    cond (is_basic_shown spec.output truth) (Some (key_of a r ++ (truth ∷ imbalance_at p a imbalance r ∷ errors_at (code_cell spec.errorcode) (level_cell spec.errorlevel) truth))) None

abbrev pub check_of : Settings → CheckSpec → DataSet → (imbalance : Option DataSet) → List Row
check_of p spec a imbalance = filter_map (λ r. checked_point p spec a.structure imbalance r (column_of (key_width a.structure) r)) a.points
