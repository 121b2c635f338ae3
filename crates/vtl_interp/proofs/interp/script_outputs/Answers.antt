use Rattle.std.proofs.Common.{List, length, map, sym, ap, subst, ◌∙◌}
use Rattle.vtl_syntax.specs.View.{statement_tree}
use Rattle.vtl_syntax.specs.declared.statements.Statement.{Statement}
use Rattle.vtl_check.specs.Transformations.{transformations}
use Rattle.vtl_interp.specs.Results.{ShownBy}
use Rattle.vtl_interp.proofs.MadeStatements.{statements_made}
use Rattle.vtl_interp.proofs.Starts.{meant_by_run, ready_to_run}
use Rattle.vtl_interp.proofs.interp.script_outputs.Goals as goal

pub run_statements-requires-clause-many : goal.run_statements-requires-clause-many
run_statements-requires-clause-many c = c.nodes.ensures.as_many ∙ sym (ap (λ (l : List Statement). length (transformations (map statement_tree l))) c.statements.ensures)

pub run_statements-requires-clause-ready : goal.run_statements-requires-clause-ready
run_statements-requires-clause-ready c =
    ready_to_run c.args.script.now c.args.inputs.now c.in_ok-known.known.entries c.profile.result.now c.statements.result.now c.nodes.result.now c.profile.ensures c.statements.ensures c.nodes.ensures.nodes
    c.nodes.ensures.typed (statements_made c.args.script.now c.nodes.ensures.declared c.nodes.ensures.typed) c.in_ok-known.ensures

pub returns : goal.returns
returns c =
    subst (λ m. ShownBy m c.run_statements.result)
    (meant_by_run c.args.script.now c.args.inputs.now c.in_ok-known.known.entries c.profile.result.now c.statements.result.now c.nodes.result.now c.profile.ensures c.statements.ensures c.nodes.ensures.nodes c.in_ok-known.ensures)
    c.run_statements.ensures
