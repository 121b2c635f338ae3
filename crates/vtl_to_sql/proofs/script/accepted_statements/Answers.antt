use Rattle.vtl_to_sql.proofs.Accepted.{script_accepted}
use Rattle.vtl_to_sql.proofs.script.accepted_statements.Goals as goal

pub returns-clause-accepted : goal.returns-clause-accepted
returns-clause-accepted c =
    let t = c.args.script.now in
    λ low. script_accepted t low c.nodes-nodes.ensures.declared c.nodes-nodes.ensures.typed c.nodes-nodes.ensures.written c.constants_are_held.ensures c.in_ok-statements.ensures.few
