use Rattle.std.proofs.Common.{◌≡◌, ◌≤◌, map}
use Rattle.vtl_syntax.specs.View.{statement_tree}
use Rattle.vtl_check.specs.Checked.{env_over}
use Rattle.vtl_check.specs.Script.{most_nodes, script_typed}
use Rattle.vtl_check.specs.Steps.{walked}
use Rattle.vtl_check.proofs.StepLemmas.{typed_from}
use Rattle.vtl_check.proofs.script.typed_statements.Given as goal

abbrev pub invariant-loop-i : goal.invariant-loop-i
invariant-loop-i l = record {
  few : l.walk.before ≤ most_nodes;
  typing : typed_from l.statements l.i (walked l.walk) ≡ script_typed (env_over l.fn.scope.profile l.fn.scope.known) (map statement_tree l.statements);
}
