use Rattle.std.proofs.Common.{map, take}
use Rattle.vtl_tree.specs.Shown.{shown}
use Rattle.selects_to_sql.specs.NamedItems.{AreNext}
use Rattle.groups_to_sql.specs.Turned.{coded_item}
use Rattle.groups_to_sql.proofs.pivot_queries.push_coded.Given as goal

abbrev pub invariant-loop-code : goal.invariant-loop-code
invariant-loop-code l = AreNext l.fn.items.items l.items.items (map (coded_item l.id l.measure) (take l.code-index l.codes)) (shown l.columns)
