-- The sides of a rule, of what there is of its items, and what a check shows of them.
use Rattle.std.specs.Prelude.{ℕ, cond, List, [], ◌∷◌, ◌++◌, map, Option, None, Some}
use Rattle.std.specs.Option.{option_and_then}
use Rattle.vtl_decimal.specs.Settings.{Settings}
use Rattle.vtl_decimal.specs.declared.number.Fault.{Fault}
use Rattle.vtl_cell.specs.Conversion.{as_kind}
use Rattle.vtl_cell.specs.Literals.{integer_written}
use Rattle.vtl_cell.specs.Outcome.{Outcome, after, fault_in, join}
use Rattle.vtl_cell.specs.Outcomes.{result_of}
use Rattle.vtl_cell.specs.Row.{Row}
use Rattle.vtl_cell.specs.declared.cell.Cell.{Cell}
use Rattle.vtl_cell.specs.declared.cell.Cell.TheVariants as c
use Rattle.vtl_cell.specs.declared.kind.Kind.{Kind}
use Rattle.vtl_cell.specs.declared.kind.Kind.TheVariants as k
use Rattle.vtl_cell.specs.declared.operator.ScalarOp.TheVariants as op
use Rattle.vtl_rows.specs.Tables.{cells_at}
use Rattle.vtl_syntax.specs.declared.statements.HierRule.{HierRule}
use Rattle.vtl_syntax.specs.declared.word_groups.CheckOut.{CheckOut}
use Rattle.vtl_syntax.specs.declared.word_groups.HierInput.TheVariants as input
use Rattle.vtl_syntax.specs.declared.word_groups.Mode.{Mode}
use Rattle.vtl_tree.specs.Checks.{output_parts}
use Rattle.vtl_tree.specs.RuleItems.{left_item, right_items}
use Rattle.vtl_meaning.specs.Points.{cell_or_null}
use Rattle.vtl_rulings.specs.Modes.{Found, appears, counted}
use Rattle.vtl_rulings.specs.Outputs.{code_cell, errors_at, is_shown, level_cell}
use Rattle.vtl_rulings.specs.Sides.{comparison_op, sum_of}
use Rattle.vtl_rules.specs.Itemized.{Itemized, Sourced, combination_at, item_key, source_of, taken_at}

-- ---- the sides
abbrev pub right_value : Settings → Mode → Kind → HierRule → List Found → Outcome Cell
right_value p m kind r right = sum_of p kind r (map (counted m kind) right)

-- whether they compare as the rule says
abbrev pub truth_between : Settings → HierRule → (left : Cell) → Outcome Cell → Outcome Cell
truth_between p r left right = after right (λ v. result_of p (comparison_op r.comparison) k.Bool (left ∷ v ∷ []))

-- the left one less the right one, as a number
abbrev pub less_between : Settings → Kind → (left : Cell) → Outcome Cell → Outcome Cell
less_between p kind left right = after right (λ v. after (result_of p op.Subtract kind (left ∷ v ∷ [])) (as_kind p k.Num))

-- ---- checks
-- a rule with its identifier, where it takes its items from, and the text and the level of an error
pub record Sided : Type 0 where
  pub id : List ℕ
  pub rule : HierRule
  pub left : Sourced
  pub right : List Sourced
  pub code : Cell
  pub level : Cell

abbrev pub sided_of : Settings → List ℕ × HierRule → Sided
sided_of p x = record {
  id = x.0;
  rule = x.1;
  left = source_of input.Dataset [] (left_item x.1);
  right = map (source_of input.Dataset []) (right_items x.1);
  code = code_cell x.1.error.code;
  level = level_cell (option_and_then (integer_written p) x.1.error.level);
}

module _ (p : Settings) (o : CheckOut) (m : Mode) (kind : Kind) (x : Sided) (left : Found) (right : List Found) where
  abbrev pub truth_by : Outcome Cell
  truth_by = truth_between p x.rule (counted m kind left) (right_value p m kind x.rule right)

  abbrev pub less_by : Outcome Cell
  less_by = less_between p kind (counted m kind left) (right_value p m kind x.rule right)

  -- where the rule has a point both are evaluated
  abbrev pub sided_fault : Option Fault
  sided_fault = cond (appears m (left ∷ right)) (join (fault_in truth_by) (fault_in less_by)) None

  -- the point with this key, where the rule has one and the output shows it
  abbrev pub sided_row : (key : Row) → Option Row
  sided_row key =
      let truth = cell_or_null truth_by in
      cond (appears m (left ∷ right)) (cond (is_shown o truth) (Some (key ++ (c.Text x.id ∷ output_parts o (counted m kind left ∷ []) truth (cell_or_null less_by ∷ errors_at x.code x.level truth)))) None) None

-- at the combination of a number
module _ (p : Settings) (o : CheckOut) (m : Mode) (kind : Kind) (items : Itemized) (x : Sided) (n : ℕ) where
  abbrev pub fault_at : Option Fault
  fault_at = let row = combination_at items n in sided_fault p o m kind x (taken_at items n row x.left) (map (taken_at items n row) x.right)

  abbrev pub checked_at : Option Row
  checked_at = let row = combination_at items n in sided_row p o m kind x (taken_at items n row x.left) (map (taken_at items n row) x.right) (cells_at items.places (item_key row (left_item x.rule)))
