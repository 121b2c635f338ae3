use Rattle.std.proofs.Common.{◌≡◌, drop, map, false}
use Rattle.sql_lexer.specs.declared.token.Word.TheVariants as w
use Rattle.sql_tree.specs.Trees.{branches_of, exps_of}
use Rattle.sql_tree.specs.View.{branch_tree, expr_tree}
use Rattle.sql_print.specs.Onto.{branches_onto, exps_onto, put}
use Rattle.sql_print.proofs.expressions.+printing.Given as goal

abbrev pub invariant-arguments-loop-operand : goal.invariant-arguments-loop-operand
invariant-arguments-loop-operand l = exps_onto l.behind (exps_of (map expr_tree (drop l.operand-index l.operands))) l.out.items ≡ exps_onto false (exps_of (map expr_tree l.operands)) (put w.Open l.fn.out.items)

abbrev pub invariant-all_branches-loop-branch : goal.invariant-all_branches-loop-branch
invariant-all_branches-loop-branch l = branches_onto (branches_of (map branch_tree (drop l.branch-index l.branches))) l.out.items ≡ branches_onto (branches_of (map branch_tree l.branches)) l.fn.out.items
