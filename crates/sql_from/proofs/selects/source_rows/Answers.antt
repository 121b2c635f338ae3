use Rattle.std.proofs.Common.{◌≡◌, ◌∙◌, [], List, Ok, ap, refl, rules, subst, sym}
use Rattle.vtl_cell.specs.Outcome.{Outcome}
use Rattle.vtl_cell.specs.Row.{Row}
use Rattle.vtl_rows.specs.Tables.{Tabled}
use Rattle.vtl_scalar.specs.Answers.{AnswersBy}
use Rattle.sql_tree.specs.Trees.{SelectTree}
use Rattle.sql_tree.specs.View.{select_tree}
use Rattle.sql_meaning.proofs.Planned.{joins_by_index}
use Rattle.sql_meaning.specs.From.{first_of, kept_of, source_rows}
use Rattle.sql_meaning.specs.Plans.{planned_source_rows}
use Rattle.sql_meaning.specs.Tables.{Base}
use Rattle.sql_from.specs.Held.{base_held}
use Rattle.sql_from.proofs.selects.source_rows.Goals as goal

-- where nothing is tried early
as_written : (b : Base) (s : SelectTree) → planned_source_rows b s [] [] ≡ source_rows b s
as_written b s = ap (kept_of b s.condition) (joins_by_index b s [] tt s.joins 0 (first_of b s.source) refl)

pub returns-in_err-source_tuples-clause-rows : goal.returns-in_err-source_tuples-clause-rows
returns-in_err-source_tuples-clause-rows g c =
    let b = base_held c.args.p.now c.args.tables.now in
    let s = select_tree c.args.select.now in
    let told : AnswersBy (λ (t : Tabled). t.rows) c.from_residual.result (planned_source_rows b s [] []) = search rules in
    subst (λ (m : Outcome (List Row)). AnswersBy (λ (t : Tabled). t.rows) c.from_residual.result m) (as_written b s) told

pub returns-clause-rows : goal.returns-clause-rows
returns-clause-rows g c =
    sym (as_written (base_held c.args.p.now c.args.tables.now) (select_tree c.args.select.now)) ∙ c.in_ok-source_tuples.ensures.rows ∙ ap (λ (rows : List Row). Ok rows) (sym c.in_ok-table.ensures.rows)
