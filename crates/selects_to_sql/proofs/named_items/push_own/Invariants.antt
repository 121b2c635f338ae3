use Rattle.std.proofs.Common.{take}
use Rattle.vtl_tree.specs.Shown.{shown}
use Rattle.selects_to_sql.specs.NamedItems.{AreNext, own_columns}
use Rattle.selects_to_sql.proofs.named_items.push_own.Given as goal

abbrev pub invariant-loop-component : goal.invariant-loop-component
invariant-loop-component l = AreNext l.fn.items.items l.items.items (own_columns (shown (take l.component-index l.components))) (shown l.columns)
