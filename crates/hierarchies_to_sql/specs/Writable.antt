-- What is asked of hierarchical rules so that they can be written: their texts are values that a program holds, and no side has too many
-- items.
use Rattle.std.specs.Prelude.{◌≤◌, ℕ, length}
use Rattle.std.specs.List.{AllByRecursion}
use Rattle.std.specs.Option.{IfSome}
use Rattle.vtl_decimal.specs.Settings.{Settings}
use Rattle.vtl_cell.specs.Held.{IsHeld}
use Rattle.vtl_cell.specs.declared.cell.Cell.TheVariants as c
use Rattle.vtl_syntax.specs.declared.statements.HierRule.{HierRule}
use Rattle.vtl_tree.specs.RuleItems.{items_of}
use Rattle.rules_to_sql.specs.Writable.{AreErrorsHeld}
use Rattle.hierarchies_to_sql.specs.SideExps.{level_of}

-- the most items of a rule: each makes its sides one deeper
abbrev pub most_items : ℕ
most_items = 150

pub record CanBeSided (p : Settings) (r : HierRule) : Type 0 where
  pub name : IfSome r.name (λ text. IsHeld (c.Text text))
  pub items : AllByRecursion (λ item. IsHeld (c.Text item)) (items_of r)
  pub errors : AreErrorsHeld r.error.code (level_of p r)
  pub few : length (items_of r) ≤ most_items
