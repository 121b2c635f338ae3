use Rattle.std.proofs.Common.{◌≡◌, ◌++◌, [], append_assoc, append-nil, drop, sym, ap, ◌∙◌, arith}
use Rattle.std.proofs.lemmas.List.{drop_all}
use Rattle.vtl_tree.specs.NodeView.{node_tree}
use Rattle.vtl_walks.specs.Lent.{lent}
use Rattle.vtl_check.specs.Names.{name_at, names_of}
use Rattle.vtl_check.proofs.NameLemmas.{names_by_operands}
use Rattle.vtl_check.proofs.names.+push_names.Goals as goal

pub returns : goal.returns
returns t c =
    let n = node_tree c.args.node.now in
    let ops = lent c.operands-operands.result in
    let before = c.args.out.now.items in
    let over : drop c.loop-i.i ops ≡ [] = drop_all c.loop-i.i ops (omega (arith, c.len-i-end.ensures, c.loop-i-test.false)) in
    sym (append-nil c.loop-i.out.items) ∙ sym (ap (λ l. c.loop-i.out.items ++ names_of l) over) ∙ c.loop-i.invariant
    ∙ ap (λ l. l ++ names_of ops) c.in_ok-push_name.ensures ∙ append_assoc before (name_at n) (names_of ops)
    ∙ ap (λ l. before ++ (name_at n ++ names_of l)) c.operands-operands.ensures.operands
    ∙ ap (λ l. before ++ l) (sym (names_by_operands n))
