-- `check_hierarchy`: at each combination of the other identifiers the sides of each rule, of the operand's items.
use Rattle.std.specs.Prelude.{ℕ, Bool, cond, List, [], ◌∷◌, ◌++◌, map, Option, Some, None, option_map}
use Rattle.std.specs.List.{filter_map, find, flat_map}
use Rattle.vtl_decimal.specs.Settings.{Settings}
use Rattle.vtl_decimal.specs.declared.number.Fault.{Fault}
use Rattle.vtl_cell.specs.Outcome.{Outcome, fault_in, faults_by, join, unless}
use Rattle.vtl_cell.specs.Row.{Row, same_row}
use Rattle.vtl_cell.specs.declared.cell.Cell.{Cell}
use Rattle.vtl_cell.specs.declared.cell.Cell.TheVariants as c
use Rattle.vtl_cell.specs.declared.kind.Kind.{Kind}
use Rattle.vtl_syntax.specs.declared.statements.HierRule.{HierRule}
use Rattle.vtl_syntax.specs.declared.word_groups.CheckOut.{CheckOut}
use Rattle.vtl_syntax.specs.declared.word_groups.Mode.{Mode}
use Rattle.vtl_tree.specs.Columns.{identifiers_of, measures_of}
use Rattle.vtl_tree.specs.Environment.{DataSet}
use Rattle.vtl_tree.specs.Structure.{columns_of, same_name}
use Rattle.vtl_tree.specs.declared.structure.Component.{Component}
use Rattle.vtl_tree.specs.declared.structure.Structure.{Structure}
use Rattle.vtl_tuples.specs.Keys.{each_once}
use Rattle.vtl_meaning.specs.Agreement.{values_in}
use Rattle.vtl_meaning.specs.LookUps.{value_named}
use Rattle.vtl_meaning.specs.Points.{cell_or_null}
use Rattle.vtl_meaning.specs.Turned.{is_coded, other_identifiers}
use Rattle.vtl_rulings.specs.Modes.{Items, appears}
use Rattle.vtl_rulings.specs.Outputs.{is_shown}
use Rattle.vtl_tree.specs.Checks.{output_parts, with_ids}
use Rattle.vtl_rulings.specs.Sides.{difference, holds, left_side, rule_errors}
use Rattle.vtl_tree.specs.RuleItems.{left_item, right_items}
use Rattle.vtl_tree.specs.ClauseShapes.{first_kind}
use Rattle.vtl_tree.specs.declared.rules.HierRules.{HierRules}

-- the identifier whose values are the items, and the measure with its kind
pub record Ruled : Type 0 where
  pub id : List ℕ
  pub measure : List ℕ
  pub kind : Kind

abbrev pub only_name : List Component → List ℕ
only_name [] = []
only_name (x ∷ xs) = x.name

-- those of an operand with one measure under rules
abbrev pub ruled_by : HierRules → Structure → Ruled
ruled_by rules a = record { id = rules.variable; measure = only_name (measures_of a); kind = first_kind (measures_of a) }

-- ---- combinations of the other identifiers
-- those that the operand has, each once
abbrev pub combinations : (id : List ℕ) → DataSet → List Row
combinations id a = each_once same_row (map (values_in a.structure (other_identifiers id a.structure)) a.points)

-- what the operand has of the items at a combination
abbrev pub items_at : Ruled → DataSet → (combination : Row) → Items
items_at h a combination item = option_map (λ r. value_named (columns_of a.structure) r h.measure) (find (is_coded a.structure h.id combination item) a.points)

-- the identifiers of an item's point at a combination, in the operand's order
abbrev pub key_cell : (id : List ℕ) → List Component → (combination : Row) → (item : List ℕ) → Component → Cell
key_cell id others combination item y = cond (same_name y.name id) (c.Text item) (value_named others combination y.name)

abbrev pub key_at : (id : List ℕ) → Structure → (combination : Row) → (item : List ℕ) → Row
key_at id a combination item = map (key_cell id (other_identifiers id a) combination item) (identifiers_of a)

-- ---- rules
-- a rule with its identifier
abbrev pub SidedRule : Type 0
SidedRule = List ℕ × HierRule

abbrev pub sided_rules : List HierRule → List SidedRule
sided_rules rules = with_ids (λ r. r.name) 1 rules

-- the items concerned are the left one and those on the right
abbrev pub is_checked : Mode → Items → HierRule → Bool
is_checked m items r = appears m (items (left_item r) ∷ map items (right_items r))

-- where the rule has a point both sides are compared and subtracted, and nothing is evaluated elsewhere
abbrev pub check_fault : Settings → Mode → Kind → Items → HierRule → Option Fault
check_fault p m kind items r = cond (is_checked m items r) (join (fault_in (holds p m kind items r)) (fault_in (difference p m kind items r))) None

-- what stands behind the identifiers of a rule's point
abbrev pub check_cells : Settings → CheckOut → Mode → Kind → Items → HierRule → (truth : Cell) → Row
check_cells p o m kind items r truth = output_parts o (left_side m kind items r ∷ []) truth (cell_or_null (difference p m kind items r) ∷ rule_errors p r truth)

module _ (p : Settings) (o : CheckOut) (h : Ruled) (m : Mode) (a : DataSet) where
  -- the point of a rule at a combination, if there is one and the output shows it
  abbrev pub check_point : SidedRule → Row → Option Row
  check_point rule combination =
      let items = items_at h a combination in
      let truth = cell_or_null (holds p m h.kind items rule.1) in
      cond (is_checked m items rule.1) (cond (is_shown o truth) (Some (key_at h.id a.structure combination (left_item rule.1) ++ (c.Text rule.0 ∷ check_cells p o m h.kind items rule.1 truth))) None) None

  -- rule after rule, at each combination
  abbrev pub check_hierarchy_of : List HierRule → Outcome (List Row)
  check_hierarchy_of rules =
      let all = combinations h.id a in
      unless (faults_by (λ rule. faults_by (λ k. check_fault p m h.kind (items_at h a k) rule.1) all) (sided_rules rules)) (flat_map (λ rule. filter_map (check_point rule) all) (sided_rules rules))
