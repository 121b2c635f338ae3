use Rattle.std.proofs.Common.{◌≡◌, [], drop, map}
use Rattle.std.specs.List.{fold}
use Rattle.vtl_tree.specs.NodeView.{point_rule_tree}
use Rattle.vtl_sources.specs.Table.{with_rule}
use Rattle.vtl_lineage.specs.Numbers.{merged}
use Rattle.vtl_lineage.proofs.lines.with_rules.Given as goal

abbrev pub invariant-loop-rule : goal.invariant-loop-rule
invariant-loop-rule l = fold (with_rule merged [] l.a) l.set (map point_rule_tree (drop l.rule-index l.rules)) ≡ fold (with_rule merged [] l.a) l.a.sources.points (map point_rule_tree l.rules)
