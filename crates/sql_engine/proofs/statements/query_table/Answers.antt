use Rattle.std.proofs.Common.{ap, subst, ◌∙◌}
use Rattle.sql_tree.specs.View.{query_tree}
use Rattle.sql_tree.specs.declared.statements.Query.{Query}
use Rattle.sql_plan.specs.Chosen.{equality_joins}
use Rattle.sql_plan.proofs.Listed.{join_is_listed}
use Rattle.sql_meaning.specs.Selects.{query_value}
use Rattle.sql_exec.specs.Answers.{Gives}
use Rattle.sql_from.specs.Held.{base_held}
use Rattle.sql_engine.proofs.statements.query_table.Goals as goal

pub returns-clause-rows : goal.returns-clause-rows
returns-clause-rows g c = subst (λ (q : Query). Gives (query_value (base_held c.args.p.now c.args.tables.now) (query_tree q)) c.exec.result) c.in_ok-plan.ensures.query c.exec.ensures.rows

pub returns-clause-steps : goal.returns-clause-steps
returns-clause-steps g c s one plain =
    c.exec.ensures.steps s (ap (λ (q : Query). query_tree q) c.in_ok-plan.ensures.query ∙ one)
    (join_is_listed c.in_ok-plan.plan.ways s (c.in_ok-plan.ensures.indexed ∙ ap equality_joins one) plain.one plain.equal) plain
