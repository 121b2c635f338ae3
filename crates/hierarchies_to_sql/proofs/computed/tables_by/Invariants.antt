use Rattle.std.proofs.Common.{◌≡◌, take}
use Rattle.std.specs.Map.{lookup}
use Rattle.vtl_text.specs.Texts.{same_text}
use Rattle.sql_tree.specs.Trees.{Text}
use Rattle.hierarchies_to_sql.specs.RuleItems.{found_by}
use Rattle.hierarchies_to_sql.proofs.computed.tables_by.Given as goal

abbrev pub invariant-loop-i : goal.invariant-loop-i
invariant-loop-i l = (q : Text) → lookup (same_text q) l.named ≡ found_by (take l.i l.items) (take l.i l.names) q
