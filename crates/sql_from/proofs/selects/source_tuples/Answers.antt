use Rattle.std.proofs.Common.{◌≡◌, ◌∙◌, [], List, ap, subst}
use Rattle.std.proofs.lemmas.Result.{IfOk-weaker}
use Rattle.vtl_cell.specs.Outcome.{Outcome, unless}
use Rattle.vtl_cell.specs.Row.{Row}
use Rattle.vtl_scalar.specs.Answers.{AnswersBy}
use Rattle.vtl_scalar.specs.Seen.{seen_of}
use Rattle.sql_tree.specs.View.{select_tree}
use Rattle.sql_meaning.specs.From.{first_of}
use Rattle.sql_meaning.specs.Plans.{planned_joins, planned_source_rows}
use Rattle.sql_from.specs.Held.{base_held}
use Rattle.sql_from.specs.Sources.{Sourced, scope_held}
use Rattle.sql_from.specs.Standing.{rows_for}
use Rattle.sql_from.specs.declared.tuple_rows.TupleRows.{TupleRows}
use Rattle.sql_from.proofs.Standing.{filtered_kept, scope_filtered}
use Rattle.sql_from.proofs.selects.source_tuples.Goals as goal

pub returns-clause-scope : goal.returns-clause-scope
returns-clause-scope g c =
    let b = base_held c.args.p.now c.args.tables.now in
    let s = select_tree c.args.select.now in
    IfOk-weaker c.finish.result _ _
    (λ r same. ap (λ (z : Sourced). scope_held z.sources) same ∙ c.in_ok-joined.ensures.stands.scope ∙ scope_filtered b s c.args.early.now)
    c.finish.ensures.sources

pub returns-clause-rows : goal.returns-clause-rows
returns-clause-rows g c =
    let p = c.args.p.now in
    let s = select_tree c.args.select.now in
    let b = base_held p c.args.tables.now in
    let j = c.in_ok-joined.field-0 in
    let stands = c.in_ok-joined.ensures.stands in
    let all : unless (seen_of j.walked.seen) (rows_for j.sources j.walked.rows) ≡ planned_source_rows b s [] c.args.early.now =
    (λ i. unless (stands.fault i) (stands.rows i)) ∙ filtered_kept b s.condition (planned_joins b s [] c.args.early.now 0 (first_of b s.source) s.joins) in
    subst (λ (m : Outcome (List Row)). AnswersBy (λ (r : TupleRows). rows_for r.sources r.tuples) c.finish.result m) all c.finish.ensures.rows
