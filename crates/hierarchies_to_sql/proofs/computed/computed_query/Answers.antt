use Rattle.std.proofs.Common.{[], ◌∷◌, ◌++◌, List, ap, length, map, ◌∙◌}
use Rattle.std.specs.Option.{option_map}
use Rattle.std.proofs.lemmas.Result.{IfOk-weaker}
use Rattle.vtl_tree.specs.Shown.{shown}
use Rattle.sql_tree.specs.Trees.{SelectTree, Text}
use Rattle.sql_tree.specs.View.{expr_tree, item_tree}
use Rattle.joins_to_sql.specs.JoinItems.{column_from}
use Rattle.selects_to_sql.specs.Queries.{items_as, select_as, source_as}
use Rattle.hierarchies_to_sql.specs.RuleItems.{aliases_from, joins_as, leaves_of, ruled_of, tables_in, true_as}
use Rattle.hierarchies_to_sql.specs.SideItems.{appears_as, right_as}
use Rattle.hierarchies_to_sql.proofs.CheckForms.{computed_is}
use Rattle.hierarchies_to_sql.proofs.computed.computed_query.Goals as goal

pub returns : goal.returns
returns c =
    let p = c.args.writer.now in
    let m = c.args.mode in
    let rule = c.args.rule.now in
    let measured = c.args.shape.now.measured.now in
    let keys = c.args.shape.now.keys.now in
    let others = shown c.args.shape.now.others.now in
    let ys = shown c.args.shape.now.columns.now in
    let f = tables_in c.args.tables.now in
    let first = c.in_ok-first.first in
    let aliases = c.in_ok-aliases.aliases.items in
    let es = map item_tree c.in_ok-items.items.items in
    let w = option_map expr_tree c.in_ok-condition.condition in
    IfOk-weaker c.one_select.result _ _
    (λ q e.
    e
    ∙ ap (λ (x : SelectTree). x ∷ [])
    (c.in_ok-select.ensures
    ∙ ap (λ (l : List Text). select_as es (source_as first keys) (joins_as first others l c.deref-6.result.now) w) c.deref-5.ensures.value
    ∙ ap (λ (l : List Text). select_as es (source_as first keys) (joins_as first others aliases l) w) c.deref-6.ensures.value
    ∙ computed_is p (ruled_of measured) m keys others f rule ys first aliases c.in_ok-names.names.items c.in_ok-found.found.items es w
    c.in_ok-first.ensures c.in_ok-names.ensures (c.in_ok-aliases.ensures ∙ ap (λ (l : List Text). aliases_from 1 (length l)) c.deref.ensures.value) (c.in_ok-found.ensures ∙ ap (map f) c.deref-2.ensures.value)
    (c.in_ok-items.ensures ∙ ap (λ (l : List Text). items_as (map (column_from first) others ++ (right_as p m measured.kind rule (leaves_of measured l) ∷ true_as ∷ [])) ys) c.deref-3.ensures.value)
    (c.in_ok-condition.ensures ∙ ap (λ (l : List Text). appears_as p m measured.kind (leaves_of measured l)) c.deref-4.ensures.value))) c.one_select.ensures
