use Rattle.std.proofs.Common.{◌≡◌, drop, map}
use Rattle.std.specs.List.{list_any}
use Rattle.sql_tree.specs.View.{join_tree}
use Rattle.sql_check_parts.specs.Queries.{join_source}
use Rattle.sql_check_parts.specs.Scopes.{lacks_names}
use Rattle.sql_check_queries.proofs.sources.any_unnamed.Given as goal

abbrev pub invariant-loop-join : goal.invariant-loop-join
invariant-loop-join l = list_any (lacks_names l.tables) (map join_source (map join_tree (drop l.join-index l.joins))) ≡ list_any (lacks_names l.tables) (map join_source (map join_tree l.joins))
