use Rattle.std.proofs.Common.{◌≡◌, ◌+◌, [], drop, option_and_then, sym, ap, ◌∙◌, arith}
use Rattle.std.proofs.lemmas.List.{drop_all}
use Rattle.vtl_tree.specs.NodeView.{node_tree}
use Rattle.vtl_walks.specs.Lent.{lent}
use Rattle.vtl_check.proofs.CountLemmas.{first-left, left_behind, node-gone, node-left, without-none}
use Rattle.vtl_check.proofs.count.+spend.Goals as goal

-- the operand, and what is left behind it
pub loop-i-preserved : goal.loop-i-preserved
loop-i-preserved t c =
    let ops = lent c.operands-operands.result in
    let rest = drop (c.loop-i.i + 1) ops in
    sym (ap (option_and_then (left_behind rest)) (sym c.spend.ensures ∙ c.in_ok-left-2.was))
    ∙ sym (first-left (drop c.loop-i.i ops) (node_tree c.nth.result.now) rest c.loop-i.left c.nth.ensures.rest)
    ∙ c.loop-i.invariant

pub returns-in_err-left : goal.returns-in_err-left
returns-in_err-left t c =
    let gone = node-gone (node_tree c.args.node.now) c.args.left (sym c.spend_alone.ensures ∙ c.in_err-left.was) in
    cc

-- an operand has more nodes than are left
pub returns-in_err-left-2 : goal.returns-in_err-left-2
returns-in_err-left-2 t c =
    let n = node_tree c.args.node.now in
    let ops = lent c.operands-operands.result in
    let rest = drop (c.loop-i.i + 1) ops in
    let all = node-left n ops c.args.left c.in_ok-left.left c.operands-operands.ensures.operands (sym c.spend_alone.ensures ∙ c.in_ok-left.was) in
    let first = first-left (drop c.loop-i.i ops) (node_tree c.nth.result.now) rest c.loop-i.left c.nth.ensures.rest in
    let gone = ap (option_and_then (left_behind rest)) (sym c.spend.ensures ∙ c.in_err-left-2.was) in
    let nothing = all ∙ sym c.loop-i.invariant ∙ first ∙ gone in
    cc

pub returns : goal.returns
returns t c =
    let ops = lent c.operands-operands.result in
    let over : drop c.loop-i.i ops ≡ [] = drop_all c.loop-i.i ops (omega (arith, c.len-i-end.ensures, c.loop-i-test.false)) in
    sym (without-none c.loop-i.left) ∙ sym (ap (λ l. left_behind l c.loop-i.left) over) ∙ c.loop-i.invariant
    ∙ sym (node-left (node_tree c.args.node.now) ops c.args.left c.in_ok-left.left c.operands-operands.ensures.operands (sym c.spend_alone.ensures ∙ c.in_ok-left.was))
