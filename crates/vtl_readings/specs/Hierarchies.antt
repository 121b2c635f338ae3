-- What is said of hierarchies item by item: which points they compute, and that every check of their rules holds.
use Rattle.std.specs.Prelude.{◌≡◌, true, List, map, Ok}
use Rattle.std.specs.List.{AllByRecursion, Contains}
use Rattle.vtl_decimal.specs.Settings.{Settings}
use Rattle.vtl_cell.specs.Row.{Row}
use Rattle.vtl_cell.specs.declared.cell.Cell.{Cell}
use Rattle.vtl_cell.specs.declared.cell.Cell.TheVariants as c
use Rattle.vtl_syntax.specs.declared.statements.HierRule.{HierRule}
use Rattle.vtl_syntax.specs.declared.word_groups.Mode.TheVariants as mode
use Rattle.vtl_tree.specs.Environment.{DataSet}
use Rattle.vtl_tree.specs.RuleItems.{definitions, left_item, right_items}
use Rattle.vtl_tree.specs.Structure.{columns_of}
use Rattle.vtl_tree.specs.declared.structure.Structure.{Structure}
use Rattle.vtl_meaning.specs.Agreement.{values_in}
use Rattle.vtl_meaning.specs.LookUps.{value_named}
use Rattle.vtl_meaning.specs.Turned.{other_identifiers}
use Rattle.vtl_rulings.specs.HierarchyChecks.{Ruled, combinations, is_checked, items_at}
use Rattle.vtl_rulings.specs.Modes.{appears}
use Rattle.vtl_rulings.specs.Sides.{holds}

-- ---- points
-- the item of a point of the result, and its values of the operand's other identifiers
abbrev pub item_in : Ruled → (result : Structure) → Row → Cell
item_in h s q = value_named (columns_of s) q h.id

abbrev pub combination_in : Ruled → (operand result : Structure) → Row → Row
combination_in h a s q = values_in s (other_identifiers h.id a) q

-- the item is the left one of a rule with `=`, and the operand has the combination
pub record IsOfLeftItem (h : Ruled) (rules : List HierRule) (a : DataSet) (s : Structure) (q : Row) : Type 0 where
  pub rule : HierRule
  pub defining : Contains (definitions rules) rule
  pub item : item_in h s q ≡ c.Text (left_item rule)
  pub combination : Contains (combinations h.id a) (combination_in h a.structure s q)

-- ---- checks
-- Where the right items of a rule are all there and not null, so is the left one, and the sides are equal.
abbrev pub HoldsAt : Settings → Ruled → DataSet → HierRule → (combination : Row) → Type 0
HoldsAt p h a r combination =
    let items = items_at h a combination in
    appears mode.NonNull (map items (right_items r)) ≡ true → (is_checked mode.NonNull items r ≡ true) × (holds p mode.NonNull h.kind items r ≡ Ok (c.Bool true))

-- so it is for each rule with `=`, at each combination
abbrev pub EveryCheckHolds : Settings → Ruled → List HierRule → DataSet → Type 0
EveryCheckHolds p h rules a = AllByRecursion (λ r. AllByRecursion (HoldsAt p h a r) (combinations h.id a)) (definitions rules)
