use Rattle.std.proofs.Common.{take}
use Rattle.vtl_tree.specs.Shown.{shown}
use Rattle.selects_to_sql.specs.NamedItems.{AreNext}
use Rattle.rules_to_sql.specs.Items.{columns_as, columns_of_two}
use Rattle.rules_to_sql.proofs.check_queries.push_leading.Given as goal

abbrev pub invariant-loop-identifier : goal.invariant-loop-identifier
invariant-loop-identifier l = AreNext l.fn.items.items l.items.items (columns_as (columns_of_two (shown l.own) (shown (take l.identifier-index l.identifiers)))) (shown l.columns)
