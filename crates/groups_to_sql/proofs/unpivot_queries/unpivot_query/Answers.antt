use Rattle.std.proofs.Common.{List, ap, map, sym, ◌∙◌}
use Rattle.std.proofs.lemmas.Result.{IfOk-weaker}
use Rattle.vtl_tree.specs.Shown.{shown}
use Rattle.vtl_tree.specs.declared.structure.Component.{Component}
use Rattle.vtl_tree.specs.Columns.{identifiers_of, measures_of}
use Rattle.groups_to_sql.specs.TurnedItems.{measure_select}
use Rattle.groups_to_sql.proofs.TurnedForms.{unpivot_written}
use Rattle.groups_to_sql.proofs.unpivot_queries.unpivot_query.Goals as goal

pub returns : goal.returns
returns c =
    let a = c.args.a.now in
    let s = c.args.s.now in
    let table = c.args.table.now in
    let all = λ (ids ms ys : List Component). map (measure_select ids ys table) ms in
    IfOk-weaker c.measure_selects.result _ _
    (λ q e. e
    ∙ ap (λ ids. all ids (shown c.deref-2.result.now) (shown c.deref-3.result.now)) (ap shown c.deref.ensures.value ∙ c.in_ok-identifiers.ensures)
    ∙ ap (λ ms. all (identifiers_of a) ms (shown c.deref-3.result.now)) (ap shown c.deref-2.ensures.value ∙ c.in_ok-measures.ensures)
    ∙ ap (λ ys. all (identifiers_of a) (measures_of a) ys) (ap shown c.deref-3.ensures.value ∙ c.in_ok-columns.ensures)
    ∙ sym (unpivot_written c.args.writer.now a s table)) c.measure_selects.ensures
