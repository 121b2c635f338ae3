-- Rules as they are translated: their truth values are typed booleans, and can be written.
use Rattle.std.proofs.Common.{◌≡◌, ◌≤◌, ◌+◌, ◌^◌, ℕ, suc, true, List, [], ◌∷◌, length, Option, Some, None, refl, ap, ◌∙◌, arith}
use Rattle.std.specs.Prelude.{◌&&◌, if◌then◌else◌}
use Rattle.std.specs.List.{AllByRecursion}
use Rattle.std.specs.Option.{IfSome}
use Rattle.vtl_decimal.specs.Settings.{Settings}
use Rattle.vtl_cell.specs.Held.{IsHeld}
use Rattle.vtl_cell.specs.ScalarKinds.{common_kind}
use Rattle.vtl_cell.specs.declared.cell.Cell.TheVariants as c
use Rattle.vtl_cell.specs.declared.kind.Kind.{Kind}
use Rattle.vtl_cell.specs.declared.kind.Kind.TheVariants as k
use Rattle.vtl_tree.specs.CompExp.{CompExp}
use Rattle.vtl_tree.specs.Kinds.{exp_kind}
use Rattle.vtl_tree.specs.Trees.{PointRuleTree}
use Rattle.vtl_tree.specs.declared.structure.Component.{Component}
use Rattle.vtl_meaning.specs.Made.{IsTyped}
use Rattle.vtl_tree.specs.Checks.{with_ids}
use Rattle.vtl_rulings.specs.PointChecks.{PointRule}
use Rattle.vtl_rulings.specs.Shaped.{IsConditionOver, IsPointRuleOver}
use Rattle.vtl_tree.specs.Depths.{comp_depth}
use Rattle.expressions_to_sql.specs.Held.{HoldsValues}
use Rattle.selects_to_sql.specs.Writable.{CanBeWritten, most_depth}
use Rattle.rules_to_sql.specs.Conditions.{boolean_by, held_exp, negated, truth_exp}
use Rattle.rules_to_sql.specs.Writable.{CanBeCondition, CanRuleBeWritten}
use Rattle.rules_to_sql.proofs.RuleIds.{id_held}
use Rattle.rules_to_sql.proofs.Truths.{beside_boolean, boolean_kind}

module _ (p : Settings) (xs : List Component) where
  boolean_typed : (e : CompExp) → IsConditionOver p xs e → (kind : Kind) → IsTyped p xs (boolean_by kind e)
  boolean_typed e h k.Null = (beside_boolean (exp_kind e) h.1, (tt, (h.0, (tt, tt))), refl)
  boolean_typed e h k.Bool = h.0
  boolean_typed e h k.Int = h.0
  boolean_typed e h k.Num = h.0
  boolean_typed e h k.Text = h.0
  boolean_typed e h k.Day = h.0
  boolean_typed e h k.Period = h.0

  condition_negated : (e : CompExp) → IsConditionOver p xs e → IsTyped p xs (negated e)
  condition_negated e h = (ap (λ b. if b && true then Some k.Bool else None) h.1, (h.0, tt), refl)

  held_typed : (antecedent : Option CompExp) (condition : CompExp) → IfSome antecedent (IsConditionOver p xs) → IsConditionOver p xs condition → IsTyped p xs (held_exp antecedent condition) × (exp_kind (held_exp antecedent condition) ≡ k.Bool)
  held_typed None condition h i = (boolean_typed condition i (exp_kind condition), boolean_kind condition i.1)
  held_typed (Some e) condition h i = (
    (
      ap (λ b. if b then common_kind (exp_kind condition ∷ k.Bool ∷ []) else None) h.1 ∙ beside_boolean (exp_kind condition) i.1,
      (h.0, (i.0, (condition_negated e h, tt))),
      refl,
    ),
    refl,
  )

  pub truth_typed : (rule : PointRuleTree) → IsPointRuleOver p xs rule → IsTyped p xs (truth_exp rule) × (exp_kind (truth_exp rule) ≡ k.Bool)
  truth_typed rule i = held_typed rule.antecedent rule.condition i.antecedent i.condition

-- a truth value is at most two deeper than its conditions
pub record IsTruthWritten (e : CompExp) : Type 0 where
  pub constants : HoldsValues e
  pub shallow : comp_depth e + 2 ≤ most_depth

boolean_written : (e : CompExp) → CanBeCondition e → (kind : Kind) → IsTruthWritten (boolean_by kind e)
boolean_written e h k.Null = let low = h.shallow in record { constants = (tt, (h.constants, (tt, tt))); shallow = omega (arith, low) }
boolean_written e h k.Bool = let low = h.shallow in record { constants = h.constants; shallow = omega (arith, low) }
boolean_written e h k.Int = let low = h.shallow in record { constants = h.constants; shallow = omega (arith, low) }
boolean_written e h k.Num = let low = h.shallow in record { constants = h.constants; shallow = omega (arith, low) }
boolean_written e h k.Text = let low = h.shallow in record { constants = h.constants; shallow = omega (arith, low) }
boolean_written e h k.Day = let low = h.shallow in record { constants = h.constants; shallow = omega (arith, low) }
boolean_written e h k.Period = let low = h.shallow in record { constants = h.constants; shallow = omega (arith, low) }

held_written : (antecedent : Option CompExp) (condition : CompExp) → IfSome antecedent CanBeCondition → CanBeCondition condition → IsTruthWritten (held_exp antecedent condition)
held_written None condition h i = boolean_written condition i (exp_kind condition)
held_written (Some e) condition h i =
    let one = h.shallow in
    let two = i.shallow in
    record { constants = (h.constants, (i.constants, ((h.constants, tt), tt))); shallow = omega (arith, one, two) }

pub truth_written : (rule : PointRuleTree) → CanRuleBeWritten rule → IsTruthWritten (truth_exp rule)
truth_written rule h = held_written rule.antecedent rule.condition h.antecedent h.condition

pub as_written : (e : CompExp) → IsTruthWritten e → CanBeWritten e
as_written e h = let low = h.shallow in record { constants = h.constants; shallow = omega (arith, low) }

pub negated_written : (e : CompExp) → IsTruthWritten e → CanBeWritten (negated e)
negated_written e h = let low = h.shallow in record { constants = (h.constants, tt); shallow = omega (arith, low) }

-- a rule as it is translated
pub record IsRule (p : Settings) (xs : List Component) (rule : PointRule) : Type 0 where
  pub id : IsHeld (c.Text rule.0)
  pub typed : IsPointRuleOver p xs rule.1
  pub written : CanRuleBeWritten rule.1

pub all_rules : (p : Settings) (xs : List Component) (n : ℕ) (rules : List PointRuleTree) → AllByRecursion (IsPointRuleOver p xs) rules → AllByRecursion CanRuleBeWritten rules → n + length rules ≤ 2 ^ 64 → AllByRecursion (IsRule p xs) (with_ids (λ r. r.name) n rules)
all_rules p xs n [] i w few = tt
all_rules p xs n (r ∷ rs) i w few = (record { id = id_held n r.name (omega (arith, few)) w.0.name; typed = i.0; written = w.0 }, all_rules p xs (suc n) rs i.1 w.1 (omega (arith, few)))
