use Rattle.std.proofs.Common.{◌≡◌, drop, map}
use Rattle.sql_tree.specs.View.{join_tree}
use Rattle.sql_check_parts.specs.Queries.{joined_scope, joins_break}
use Rattle.sql_check_parts.specs.Rules.{least, lesser}
use Rattle.sql_check_queries.proofs.sources.add_joins.Given as goal

abbrev pub invariant-loop-join : goal.invariant-loop-join
invariant-loop-join l = record {
  grown : joined_scope l.tables l.scope (map join_tree (drop l.join-index l.joins)) ≡ joined_scope l.tables l.initial.scope (map join_tree l.joins);
  fault : lesser l.fault (least (joins_break l.profile l.tables l.scope (map join_tree (drop l.join-index l.joins)))) ≡ least (joins_break l.profile l.tables l.initial.scope (map join_tree l.joins));
}
