use Rattle.std.proofs.Common.{◌≡◌, ◌∙◌, [], List, arith, sym, ap, subst}
use Rattle.std.specs.Prelude.{OnOk, zip}
use Rattle.vtl_cell.specs.Outcome.{Outcome}
use Rattle.vtl_cell.specs.Row.{Row}
use Rattle.sql_tree.specs.View.{select_tree}
use Rattle.vtl_rows.specs.Named.{NamedTables}
use Rattle.sql_meaning.specs.Plans.{planned_source_rows}
use Rattle.sql_meaning.specs.Profiles.{IsLawful}
use Rattle.sql_check_parts.specs.Scopes.{Scope, row_of}
use Rattle.sql_meaning.specs.Selects.{second_phase}
use Rattle.sql_meaning.specs.Tables.{RowsFit}
use Rattle.sql_meaning.specs.Values.{at_rows}
use Rattle.sql_from.specs.Held.{base_held}
use Rattle.sql_from.specs.Standing.{rows_for, sight_of}
use Rattle.sql_exec.specs.Outputs.{Adds}
use Rattle.sql_exec.specs.Parts.{phase_of}
use Rattle.sql_exec.proofs.PlannedSelects.{same_rows_fit, same_rows_of_profile}
use Rattle.sql_exec.proofs.selects.add_select.Goals as goal

pub add_phase-requires-clause-fit : goal.add_phase-requires-clause-fit
add_phase-requires-clause-fit g c =
    let rows = rows_for c.in-Ok.rows.sources c.in-Ok.rows.tuples in
    subst (λ (scope : Scope). RowsFit (row_of scope) rows) (sym c.in-Ok.ensures.scope)
    (same_rows_fit (base_held c.args.p.now c.args.tables.now) c.args.kinds.now (select_tree c.args.select.now) c.args.early.now rows c.requires.lawful c.requires.part c.requires.same c.in-Ok.ensures.rows)

pub add_phase-requires-clause-ranged : goal.add_phase-requires-clause-ranged
add_phase-requires-clause-ranged g c =
    same_rows_of_profile (base_held c.args.p.now c.args.tables.now) (select_tree c.args.select.now) c.args.early.now (rows_for c.in-Ok.rows.sources c.in-Ok.rows.tuples) c.requires.lawful c.requires.same c.in-Ok.ensures.rows

pub returns-in-Ok-clause-adds : goal.returns-in-Ok-clause-adds
returns-in-Ok-clause-adds g c =
    let p = c.args.p.now in
    let b = base_held p c.args.tables.now in
    let s = select_tree c.args.select.now in
    let kinds = c.args.kinds.now in
    let wanted = zip s.items kinds in
    let sources = c.in-Ok.rows.sources in
    let rows = rows_for sources c.in-Ok.rows.tuples in
    let same : second_phase (sight_of p sources) wanted s rows ≡ phase_of b kinds s (planned_source_rows b s [] c.args.early.now) =
    (λ i. second_phase (at_rows (base_held p (c.in-Ok.ensures.held i)) (c.in-Ok.ensures.scope i)) wanted s rows) ∙ sym (ap (phase_of b kinds s) c.in-Ok.ensures.rows) in
    subst (λ (m : Outcome (List Row)). OnOk c.add_phase.result (Adds m c.args.out.now c.add_phase.new.out)) same c.add_phase.ensures.adds

pub add_phase-requires-clause-lawful : goal.add_phase-requires-clause-lawful
add_phase-requires-clause-lawful g c = subst (λ (h : NamedTables). IsLawful (base_held c.args.p.now h)) (sym c.in-Ok.ensures.held) c.requires.lawful

pub returns-in-Ok-clause-steps : goal.returns-in-Ok-clause-steps
returns-in-Ok-clause-steps g c listed plain =
    let from = c.source_tuples.ensures.steps listed plain in
    let items = c.add_phase.ensures.steps plain.plain plain.items in
    omega (arith, from, items)
