use Rattle.std.proofs.Common.{map, sym, ◌∙◌, arith}
use Rattle.std.specs.Global.{Vec}
use Rattle.vtl_syntax.specs.View.{statement_tree}
use Rattle.vtl_tree.specs.NodeView.{node_tree}
use Rattle.vtl_tree.specs.declared.nodes.Node.{Node}
use Rattle.vtl_check.specs.Checked.{env_over}
use Rattle.vtl_check.specs.Script.{script_typed}
use Rattle.vtl_check.specs.Steps.{walked}
use Rattle.vtl_check.proofs.StepLemmas.{goes_on, stops, typed_all}
use Rattle.vtl_check.proofs.script.typed_statements.Goals as goal

pub loop-i-preserved : goal.loop-i-preserved
loop-i-preserved c = record {
  few = c.in-Ok.ensures.few;
  typing = goes_on c.args.statements.now c.loop-i.i c.index-statements-i.result (omega (arith, c.loop-i-test.true)) c.index-statements-i.is (walked c.loop-i.walk) (walked c.step.new.self) c.in-Ok.field-0
      (script_typed (env_over c.args.scope.profile c.args.scope.known) (map statement_tree c.args.statements.now)) c.in-Ok.ensures.typing c.loop-i.invariant.typing;
}

pub returns-in-Err : goal.returns-in-Err
returns-in-Err c =
    let stopped = stops (λ (v : Vec Node). map node_tree v.items) c.args.statements.now c.loop-i.i c.index-statements-i.result (omega (arith, c.loop-i-test.true)) c.index-statements-i.is (walked c.loop-i.walk) (walked c.step.new.self) c.in-Err.error
    (script_typed (env_over c.args.scope.profile c.args.scope.known) (map statement_tree c.args.statements.now)) c.in-Err.ensures.typing c.loop-i.invariant.typing in
    rw c.fault.ensures stopped

pub returns : goal.returns
returns c =
    sym c.loop-i.invariant.typing ∙ typed_all c.args.statements.now c.loop-i.i (walked c.loop-i.walk) (omega (arith, c.loop-i-test.false))
