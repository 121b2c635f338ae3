use Rattle.std.proofs.Common.{◌≡◌, map, take}
use Rattle.sql_tree.specs.View.{expr_tree}
use Rattle.hierarchies_to_sql.specs.RuleItems.{leaves_of}
use Rattle.hierarchies_to_sql.specs.SideItems.{counts_as}
use Rattle.hierarchies_to_sql.proofs.sides.each_counts.Given as goal

abbrev pub invariant-loop-alias : goal.invariant-loop-alias
invariant-loop-alias l = map expr_tree l.conditions.items ≡ map (counts_as l.writer l.measured.kind) (leaves_of l.measured (take l.alias-index l.aliases))
