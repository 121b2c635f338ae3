use Rattle.std.proofs.Common.{arith}
use Rattle.vtl_syntax.specs.Depth.{exp_depth}
use Rattle.vtl_tree.specs.Trees.{FormTree}
use Rattle.check_operators.specs.Typed.{value, dataset}
use Rattle.check_expressions.specs.Typing.{typed}
use Rattle.check_laws.specs.Depths.{IsHeldUpTo}
use Rattle.check_laws.proofs.DepthBounds.{IsTreeUpTo, node-depth}
use Rattle.check_laws.proofs.DepthScripts.{script-depth, written-depth}
use Rattle.check_laws.proofs.DepthTyping.{deep}
use Rattle.check_laws.proofs.Steps.{given}
use Rattle.check_laws.proofs.laws.typed_trees_are_no_deeper.Goals as goal

abbrev Any : FormTree → Type 0
Any form = Unit {0}

pub returns-clause-values : goal.returns-clause-values
returns-clause-values c = λ sight at e x calls is. given (IsTreeUpTo Any (exp_depth e)) (typed sight at e) (value x) (deep Any sight calls at e (exp_depth e) (omega arith)) is

pub returns-clause-nodes : goal.returns-clause-nodes
returns-clause-nodes c = λ sight at e n b calls is. node-depth (exp_depth e) b n (given (IsTreeUpTo (IsHeldUpTo b) (exp_depth e)) (typed sight at e) (dataset n) (deep (IsHeldUpTo b) sight calls at e (exp_depth e) (omega arith)) is)

pub returns-clause-scripts : goal.returns-clause-scripts
returns-clause-scripts c = script-depth

pub returns-clause-written : goal.returns-clause-written
returns-clause-written c = written-depth
