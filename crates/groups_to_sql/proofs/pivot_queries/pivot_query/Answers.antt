use Rattle.std.proofs.Common.{List, [], ◌∷◌, ap, sym, ◌∙◌}
use Rattle.std.proofs.lemmas.Result.{IfOk-weaker}
use Rattle.vtl_tree.specs.Shown.{shown}
use Rattle.vtl_tree.specs.declared.structure.Component.{Component}
use Rattle.vtl_meaning.specs.Turned.{codes_of, other_identifiers}
use Rattle.sql_tree.specs.Trees.{Text}
use Rattle.selects_to_sql.specs.Queries.{items_as}
use Rattle.groups_to_sql.specs.TurnedItems.{coded_values, grouped_by}
use Rattle.groups_to_sql.proofs.TurnedForms.{pivot_written}
use Rattle.groups_to_sql.proofs.pivot_queries.pivot_query.Goals as goal

pub returns : goal.returns
returns c =
    let id = c.args.id.now in
    let measure = c.args.measure.now in
    let a = c.args.a.now in
    let table = c.args.table.now in
    let xs = other_identifiers id a in
    let items = λ (others : List Component) (codes : List Text) (ys : List Component). items_as (coded_values others id measure codes) ys in
    let others = ap shown c.deref.ensures.value ∙ c.in_ok-others.ensures in
    let columns = ap shown c.deref-2.ensures.value ∙ c.in_ok-columns.ensures in
    let groups = ap shown c.deref-3.ensures.value ∙ c.in_ok-others.ensures in
    IfOk-weaker c.one_select.result _ _
    (λ q e. e ∙ ap (λ x. x ∷ [])
    (c.in_ok-grouped_by.ensures
    ∙ ap (λ l. grouped_by (shown c.deref-3.result.now) l table) c.in_ok-items.ensures
    ∙ ap (λ l. grouped_by l (items (shown c.deref.result.now) c.codes_of-codes.result.now (shown c.deref-2.result.now)) table) groups
    ∙ ap (λ l. grouped_by xs (items l c.codes_of-codes.result.now (shown c.deref-2.result.now)) table) others
    ∙ ap (λ l. grouped_by xs (items xs l (shown c.deref-2.result.now)) table) c.codes_of-codes.ensures
    ∙ ap (λ l. grouped_by xs (items xs (codes_of id a) l) table) columns)
    ∙ sym (pivot_written c.args.writer.now id measure a c.args.s.now table)) c.one_select.ensures
