use Rattle.std.proofs.Common.{◌≡◌, ◌∙◌, ◌+◌, ◌≤◌, map, sym, ap, subst}
use Rattle.std.specs.Prelude.{IfOk}
use Rattle.vtl_rows.specs.Named.{NamedTables}
use Rattle.sql_tree.specs.View.{query_tree, select_tree}
use Rattle.sql_check_parts.specs.Queries.{query_columns}
use Rattle.sql_check_laws.specs.Selects.{IsQueryTyped}
use Rattle.sql_meaning.specs.Profiles.{IsLawful}
use Rattle.sql_meaning.specs.Selects.{query_value}
use Rattle.sql_meaning.specs.Tables.{column_entry}
use Rattle.sql_from.specs.FromTables.{from_given}
use Rattle.sql_from.specs.Held.{base_held, tables_held}
use Rattle.sql_from.specs.Steps.{most_steps}
use Rattle.sql_exec.specs.Answers.{Gives}
use Rattle.sql_exec.proofs.queries.exec.Goals as goal

pub exec_over-requires-clause-typed : goal.exec_over-requires-clause-typed
exec_over-requires-clause-typed g c = subst (λ (h : NamedTables). IsQueryTyped c.args.p.now (tables_held h) (query_tree c.args.plan.now.query)) (sym c.in_ok-given.ensures) c.requires.typed

pub exec_over-requires-clause-lawful : goal.exec_over-requires-clause-lawful
exec_over-requires-clause-lawful g c = subst (λ (h : NamedTables). IsLawful (base_held c.args.p.now h)) (sym c.in_ok-given.ensures) c.requires.lawful

pub exec_over-requires-clause-from : goal.exec_over-requires-clause-from
exec_over-requires-clause-from g c =
    let is : map select_tree c.as_slice-selects.result.now ≡ query_tree c.args.plan.now.query = ap (map select_tree) c.as_slice-selects.ensures ∙ ap query_tree c.query.ensures.query in
    c.deref.ensures.value ∙ c.in_ok-from.ensures ∙ (λ i. map (from_given (sym c.in_ok-given.ensures i)) (is i))

pub returns-clause-columns : goal.returns-clause-columns
returns-clause-columns g c = subst (λ (h : NamedTables). IfOk c.exec_over.result (λ t. map column_entry t.columns ≡ query_columns (tables_held h) (query_tree c.args.plan.now.query))) c.in_ok-given.ensures c.exec_over.ensures.columns

pub returns-clause-rows : goal.returns-clause-rows
returns-clause-rows g c = subst (λ (h : NamedTables). Gives (query_value (base_held c.args.p.now h) (query_tree c.args.plan.now.query)) c.exec_over.result) c.in_ok-given.ensures c.exec_over.ensures.rows

pub returns-clause-steps : goal.returns-clause-steps
returns-clause-steps g c s one listed plain =
    subst (λ (h : NamedTables). c.exec_over.new.steps ≤ c.args.steps.now + most_steps (base_held c.args.p.now h) s) c.in_ok-given.ensures (c.exec_over.ensures.steps s one listed plain)
