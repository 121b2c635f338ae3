use Rattle.std.proofs.Common.{◌≡◌, ◌∙◌, List, None, true, false, map, length, refl, sym, ap, subst}
use Rattle.std.specs.Prelude.{zip}
use Rattle.std.specs.List.{AllByRecursion}
use Rattle.std.proofs.lemmas.List.{length-map}
use Rattle.vtl_cell.specs.Outcome.{Outcome}
use Rattle.vtl_cell.specs.Row.{Row}
use Rattle.sql_tree.specs.View.{item_tree, select_tree}
use Rattle.sql_tree.specs.declared.statements.Item.{Item}
use Rattle.sql_check_parts.specs.Queries.{is_grouped}
use Rattle.sql_meaning.specs.Outcomes.{row_at}
use Rattle.sql_meaning.specs.Selects.{grouped_rows, item_value}
use Rattle.sql_check_parts.specs.Expressions.{site}
use Rattle.sql_check_laws.specs.Selects.{IsItemTyped}
use Rattle.sql_from.specs.Held.{base_held}
use Rattle.sql_from.specs.Sources.{scope_held}
use Rattle.sql_from.specs.Standing.{rows_for, sight_of}
use Rattle.sql_exec.specs.Outputs.{Adds}
use Rattle.sql_exec.specs.Parts.{MakesKinds}
use Rattle.sql_exec.specs.declared.output.Output.{Output}
use Rattle.sql_exec.proofs.Added.{behind_added}
use Rattle.sql_exec.proofs.QueryParts.{part_many, phase_grouped, plain_makes, plain_typed}
use Rattle.sql_exec.proofs.selects.add_phase.Goals as goal

pub add_rows-requires-clause-many : goal.add_rows-requires-clause-many
add_rows-requires-clause-many g c =
    let items = c.args.select.now.items in
    part_many (base_held c.args.p.now c.args.rows.now.sources.held) c.args.kinds.now (select_tree c.args.select.now) c.requires.part ∙ length-map items item_tree ∙ ap (λ (l : List Item). length l) (sym c.as_slice-items.ensures)

pub add_rows-requires-clause-fitting : goal.add_rows-requires-clause-fitting
add_rows-requires-clause-fitting g c =
    let s = c.args.rows.now.sources in
    let kinds = c.args.kinds.now in
    let plain : is_grouped (select_tree c.args.select.now) ≡ false = sym c.is_grouped.ensures ∙ c.if-not-is_grouped.true in
    subst (λ (items : List Item). MakesKinds (scope_held s.sources) kinds (λ rows. row_at (item_value (sight_of c.args.p.now s) rows) (zip (map item_tree items) kinds))) (sym c.as_slice-items.ensures)
    (plain_makes (base_held c.args.p.now s.held) kinds (select_tree c.args.select.now) c.requires.part (scope_held s.sources) c.requires.scope plain)

pub returns-in-Ok-clause-adds : goal.returns-in-Ok-clause-adds
returns-in-Ok-clause-adds g c =
    let s = select_tree c.args.select.now in
    let wanted = zip s.items c.args.kinds.now in
    let from = c.args.rows.now in
    let v = sight_of c.args.p.now from.sources in
    let rows = rows_for from.sources from.tuples in
    let old = c.args.out.now in
    let now : Output = record { table = c.push_grouped.new.table; cells = old.cells; seen = old.seen } in
    let grouped : is_grouped s ≡ true = sym c.is_grouped.ensures ∙ c.if-not-is_grouped.false in
    subst (λ (m : Outcome (List Row)). Adds m old now) (sym (phase_grouped v wanted s rows grouped)) (behind_added (grouped_rows v wanted s.group s.having rows) old now c.in-Ok.ensures.columns refl c.in-Ok.ensures.rows)

pub add_rows-requires-clause-typed : goal.add_rows-requires-clause-typed
add_rows-requires-clause-typed g c =
    let s = c.args.rows.now.sources in
    let b = base_held c.args.p.now s.held in
    let plain : is_grouped (select_tree c.args.select.now) ≡ false = sym c.is_grouped.ensures ∙ c.if-not-is_grouped.true in
    subst (λ (items : List Item). AllByRecursion (IsItemTyped (site b.settings b.tables (scope_held s.sources)) None) (map item_tree items)) (sym c.as_slice-items.ensures)
    (plain_typed b c.args.kinds.now (select_tree c.args.select.now) c.requires.part (scope_held s.sources) c.requires.scope plain)
