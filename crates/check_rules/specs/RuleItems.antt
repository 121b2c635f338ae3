-- Rules with `=` that define an item.
use Rattle.std.specs.Prelude.{ℕ, Bool, ◌&&◌, List}
use Rattle.vtl_syntax.specs.declared.statements.HierRule.{HierRule}
use Rattle.vtl_tree.specs.RuleItems.{is_equation, left_item}
use Rattle.vtl_tree.specs.Structure.{same_name}

abbrev pub defines : (item : List ℕ) → HierRule → Bool
defines item r = is_equation r && same_name item (left_item r)
