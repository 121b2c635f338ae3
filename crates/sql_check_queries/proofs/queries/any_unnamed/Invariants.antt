use Rattle.std.proofs.Common.{◌≡◌, drop, map}
use Rattle.std.specs.List.{list_any}
use Rattle.sql_tree.specs.View.{select_tree}
use Rattle.sql_check_parts.specs.Queries.{has_unnamed}
use Rattle.sql_check_queries.proofs.queries.any_unnamed.Given as goal

abbrev pub invariant-loop-select : goal.invariant-loop-select
invariant-loop-select l = list_any (has_unnamed l.tables) (map select_tree (drop l.select-index l.selects)) ≡ list_any (has_unnamed l.tables) (map select_tree l.selects)
