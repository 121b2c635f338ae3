use Rattle.std.proofs.Common.{rules, ◌≡◌, ◌≤◌, length, sym}
use Rattle.std.specs.Prelude.{map}
use Rattle.vtl_grammar.specs.Faults.{kinds}
use Rattle.vtl_grammar.specs.ReadExpressions.{read}
use Rattle.vtl_grammar.specs.declared.levels.Level.TheVariants as level
use Rattle.vtl_syntax.specs.Trees as tree
use Rattle.vtl_syntax.specs.Trees.{exps_of}
use Rattle.vtl_syntax.specs.View.{expr_tree}
use Rattle.vtl_syntax.specs.declared.expressions.Expr.TheVariants as expr
use Rattle.read_expressions.proofs.CallLemmas.{set_op_call-read}
use Rattle.read_expressions.proofs.ListTurns.{map-two}
use Rattle.read_expressions.proofs.Views.{views}
use Rattle.read_expressions.proofs.grammar.Grammar.set_op_call.Goals as goal

pub returns : goal.returns
returns g c =
    let es = c.in_ok-operands.operands in
    let two : 2 ≤ length es.tree.items = search (rules, c.len.ensures, c.if-len-lt2.false) in
    let read = set_op_call-read (read c.args.self.now.budget level.Expression) c.args.operator (kinds c.args.tokens.now) (map expr_tree es.tree.items) es.spare (kinds es.rest.now) c.in_ok-operands.ensures (map-two expr_tree es.tree.items two) in
    let view : expr_tree (expr.SetOp c.args.operator es.tree) ≡ tree.set_op c.args.operator (exps_of (map expr_tree es.tree.items)) = search (rules, views) in
    rw (read, sym view) c.node.ensures
