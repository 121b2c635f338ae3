use Rattle.std.proofs.Common.{[], ◌∷◌, ◌++◌, List, Option, ap, sym, ◌∙◌}
use Rattle.std.proofs.lemmas.Result.{IfOk-weaker}
use Rattle.std.specs.Option.{option_map}
use Rattle.vtl_tree.specs.Shown.{shown}
use Rattle.vtl_tree.specs.Structure.{columns_of}
use Rattle.vtl_tree.specs.declared.structure.Component.{Component}
use Rattle.vtl_tree.specs.Columns.{common_identifiers, identifiers_of}
use Rattle.sql_tree.specs.Trees.{Exp}
use Rattle.sql_tree.specs.View.{expr_tree}
use Rattle.vtl_to_sql.specs.Existences.{retained_matches, shown_matches}
use Rattle.selects_to_sql.specs.Items.{from_one}
use Rattle.selects_to_sql.specs.NamedItems.{own_columns}
use Rattle.selects_to_sql.specs.Queries.{items_as}
use Rattle.vtl_to_sql.proofs.ExistenceForms.{existence_written}
use Rattle.vtl_to_sql.proofs.existence_queries.existence_query.Goals as goal

pub returns : goal.returns
returns c =
    let a = c.args.a.now in
    let b = c.args.b.now in
    let s = c.args.s.now in
    let ids = common_identifiers a.structure.now b.structure.now in
    let items = λ (e : Exp). items_as (own_columns (identifiers_of s) ++ e ∷ []) (columns_of s) in
    let condition = option_map expr_tree c.in_ok-condition.condition in
    let ours = ap shown c.deref.ensures.value ∙ c.in_ok-common.ensures in
    let theirs = ap shown c.deref-2.ensures.value ∙ c.in_ok-common.ensures in
    IfOk-weaker c.one_select.result _ _
    (λ q e. e ∙ ap (λ x. x ∷ [])
    (c.in_ok-from_one.ensures
    ∙ ap (λ l. from_one l condition a.table.now) c.in_ok-items.ensures
    ∙ ap (λ x. from_one (items x) condition a.table.now) (c.in_ok-answer.ensures ∙ ap (λ (xs : List Component). shown_matches c.args.kept xs b.table.now) ours)
    ∙ ap (λ (o : Option Exp). from_one (items (shown_matches c.args.kept ids b.table.now)) o a.table.now) (c.in_ok-condition.ensures ∙ ap (λ (xs : List Component). retained_matches c.args.kept xs b.table.now) theirs))
    ∙ sym (existence_written c.args.writer.now c.args.kept a.structure.now b.structure.now s a.table.now b.table.now)) c.one_select.ensures
