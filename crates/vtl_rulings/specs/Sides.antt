-- The sides of a hierarchical rule: items with signs, and how the sides compare.
use Rattle.std.specs.Prelude.{List, [], ◌∷◌, map, Option, None, Some, Ok}
use Rattle.std.specs.Option.{option_and_then}
use Rattle.vtl_decimal.specs.Settings.{Settings}
use Rattle.vtl_cell.specs.Conversion.{as_kind}
use Rattle.vtl_cell.specs.Literals.{integer_written}
use Rattle.vtl_cell.specs.Outcome.{Outcome, after}
use Rattle.vtl_cell.specs.Outcomes.{result_of}
use Rattle.vtl_cell.specs.Row.{Row}
use Rattle.vtl_cell.specs.declared.cell.Cell.{Cell}
use Rattle.vtl_cell.specs.declared.cell.Cell.TheVariants as c
use Rattle.vtl_cell.specs.declared.kind.Kind.{Kind}
use Rattle.vtl_cell.specs.declared.kind.Kind.TheVariants as k
use Rattle.vtl_cell.specs.declared.operator.ScalarOp.{ScalarOp}
use Rattle.vtl_cell.specs.declared.operator.ScalarOp.TheVariants as op
use Rattle.vtl_syntax.specs.declared.parts.SignedComp.{SignedComp}
use Rattle.vtl_syntax.specs.declared.statements.HierRule.{HierRule}
use Rattle.vtl_syntax.specs.declared.word_groups.Addition.{Addition}
use Rattle.vtl_syntax.specs.declared.word_groups.Addition.TheVariants as sign
use Rattle.vtl_syntax.specs.declared.word_groups.Comparison.{Comparison}
use Rattle.vtl_syntax.specs.declared.word_groups.Comparison.TheVariants as compared
use Rattle.vtl_syntax.specs.declared.word_groups.Mode.{Mode}
use Rattle.vtl_rulings.specs.Modes.{Items, counted}
use Rattle.vtl_rulings.specs.Outputs.{code_cell, errors_at, level_cell}
use Rattle.vtl_tree.specs.RuleItems.{left_item, right_items}

-- ---- the right side, of what its items count as: the first with its sign, then one after the other from the left
abbrev pub first_value : Settings → Kind → Option Addition → Cell → Outcome Cell
first_value p kind None v = Ok v
first_value p kind (Some sign.Plus) v = result_of p op.Identity kind (v ∷ [])
first_value p kind (Some sign.Minus) v = result_of p op.Negate kind (v ∷ [])

abbrev pub sign_op : Addition → ScalarOp
sign_op sign.Plus = op.Add
sign_op sign.Minus = op.Subtract

abbrev pub next_values : Settings → Kind → (total : Outcome Cell) → List SignedComp → Row → Outcome Cell
next_values p kind total (x ∷ xs) (v ∷ vs) = next_values p kind (after total (λ u. result_of p (sign_op x.sign) kind (u ∷ v ∷ []))) xs vs
next_values p kind total xs vs = total

abbrev pub sum_of : Settings → Kind → HierRule → Row → Outcome Cell
sum_of p kind r [] = Ok c.Null
sum_of p kind r (v ∷ vs) = next_values p kind (first_value p kind r.sign v) r.others vs

-- ---- a rule, by what there is of the items at a combination
abbrev pub right_side : Settings → Mode → Kind → Items → HierRule → Outcome Cell
right_side p m kind items r = sum_of p kind r (map (λ name. counted m kind (items name)) (right_items r))

abbrev pub left_side : Mode → Kind → Items → HierRule → Cell
left_side m kind items r = counted m kind (items (left_item r))

abbrev pub comparison_op : Comparison → ScalarOp
comparison_op compared.Equal = op.Equal
comparison_op compared.Less = op.Less
comparison_op compared.LessOrEqual = op.LessOrEqual
comparison_op compared.Greater = op.Greater
comparison_op compared.GreaterOrEqual = op.GreaterOrEqual

-- whether the sides compare as the rule says
abbrev pub holds : Settings → Mode → Kind → Items → HierRule → Outcome Cell
holds p m kind items r = after (right_side p m kind items r) (λ v. result_of p (comparison_op r.comparison) k.Bool (left_side m kind items r ∷ v ∷ []))

-- the left side less the right one, as a number
abbrev pub difference : Settings → Mode → Kind → Items → HierRule → Outcome Cell
difference p m kind items r = after (right_side p m kind items r) (λ v. after (result_of p op.Subtract kind (left_side m kind items r ∷ v ∷ [])) (as_kind p k.Num))

-- the errors of a rule, whose level is written in digits
abbrev pub rule_errors : Settings → HierRule → (truth : Cell) → Row
rule_errors p r truth = errors_at (code_cell r.error.code) (level_cell (option_and_then (integer_written p) r.error.level)) truth
