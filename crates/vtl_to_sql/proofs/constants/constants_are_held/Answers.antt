use Rattle.std.proofs.Common.{subst}
use Rattle.std.specs.List.{AllByRecursion}
use Rattle.vtl_tree.specs.NodeView.{node_tree}
use Rattle.vtl_to_sql.specs.Accepted.{HoldsParts}
use Rattle.vtl_to_sql.proofs.HeldConstants.{of_mapped}
use Rattle.vtl_to_sql.proofs.constants.constants_are_held.Goals as goal

pub returns : goal.returns
returns c = of_mapped HoldsParts node_tree c.args.script.now.nodes (subst (AllByRecursion (λ n. HoldsParts (node_tree n))) c.nodes.ensures.nodes c.nodes_are_held.ensures)
