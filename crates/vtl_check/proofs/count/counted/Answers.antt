use Rattle.std.proofs.Common.{◌≡◌, ◌-◌, ◌+◌, sym, ◌∙◌, arith}
use Rattle.vtl_tree.specs.NodeView.{node_tree}
use Rattle.vtl_check.specs.Count.{count}
use Rattle.vtl_check.specs.Script.{most_nodes}
use Rattle.vtl_check.proofs.CountLemmas.{spent-nothing, spent-some, sum-few, sum-many}
use Rattle.vtl_check.proofs.count.counted.Goals as goal

pub returns-in_err-left-clause-sum : goal.returns-in_err-left-clause-sum
returns-in_err-left-clause-sum c =
    let n = node_tree c.args.node.now in
    let many = sum-many n c.args.before (spent-nothing n (most_nodes - c.args.before) (sym c.spend.ensures ∙ c.in_err-left.was)) in
    cc

pub overflow_sub-result : goal.overflow_sub-result
overflow_sub-result c =
    let n = node_tree c.args.node.now in
    let rest : c.in_ok-left.left + count n ≡ most_nodes - c.args.before = spent-some n (most_nodes - c.args.before) c.in_ok-left.left (sym c.spend.ensures ∙ c.in_ok-left.was) in
    omega arith

pub returns-clause-sum : goal.returns-clause-sum
returns-clause-sum c =
    let n = node_tree c.args.node.now in
    sum-few n c.args.before c.in_ok-left.left c.requires (spent-some n (most_nodes - c.args.before) c.in_ok-left.left (sym c.spend.ensures ∙ c.in_ok-left.was))
