use Rattle.std.proofs.Common.{[], ◌∷◌, ◌++◌, List, Option, ap, sym, ◌∙◌}
use Rattle.std.proofs.lemmas.Result.{IfOk-weaker}
use Rattle.std.specs.Option.{option_map}
use Rattle.vtl_tree.specs.Columns.{identifiers_of}
use Rattle.vtl_tree.specs.Shown.{shown}
use Rattle.vtl_tree.specs.Structure.{columns_of}
use Rattle.vtl_tree.specs.declared.structure.Component.{Component}
use Rattle.sql_tree.specs.Trees.{Exp, ItemTree, JoinTree}
use Rattle.sql_tree.specs.View.{expr_tree, join_tree}
use Rattle.sql_tree.specs.declared.parts.Column.{Column}
use Rattle.selects_to_sql.specs.PairItems.{from_two}
use Rattle.selects_to_sql.specs.Queries.{items_as}
use Rattle.rules_to_sql.specs.Items.{checked_parts_as, checked_where_as, columns_as, columns_of_two, imbalance_as, left_join_as}
use Rattle.rules_to_sql.proofs.Forms.{imbalance_written}
use Rattle.rules_to_sql.proofs.check_queries.imbalance_query.Goals as goal

pub returns : goal.returns
returns c =
    let p = c.args.writer.now in
    let spec = c.args.spec.now in
    let a = c.args.a.now.structure.now in
    let b = c.args.b.now.structure.now in
    let s = c.args.s.now in
    let x = c.args.a.now.table.now in
    let y = c.args.b.now.table.now in
    let truth = c.in_ok-truth.truth in
    let items = λ (xs : List Component) (t : Column). items_as (columns_as (columns_of_two xs (identifiers_of a)) ++ checked_parts_as t (imbalance_as p b) spec.errorcode spec.errorlevel) (columns_of s) in
    let condition = option_map expr_tree c.in_ok-condition.condition in
    let join = join_tree c.in_ok-join.join in
    let tied = left_join_as (columns_of a) (identifiers_of b) y in
    let one = ap shown c.deref.ensures.value ∙ c.in_ok-own.ensures in
    let two = ap shown c.deref-2.ensures.value ∙ c.in_ok-own.ensures in
    IfOk-weaker c.one_select.result _ _
    (λ q e. e ∙ ap (λ z. z ∷ [])
    (c.in_ok-select.ensures
    ∙ ap (λ (l : List ItemTree). from_two l x join condition) (c.in_ok-items.ensures ∙ ap (λ (xs : List Component). items xs truth) one)
    ∙ ap (λ (j : JoinTree). from_two (items (columns_of a) truth) x j condition) (c.in_ok-join.ensures ∙ ap (λ (xs : List Component). left_join_as xs (identifiers_of b) y) two)
    ∙ ap (λ (o : Option Exp). from_two (items (columns_of a) truth) x tied o) c.in_ok-condition.ensures
    ∙ ap (λ (t : Column). from_two (items (columns_of a) t) x tied (checked_where_as spec.output t)) c.in_ok-truth.ensures)
    ∙ sym (imbalance_written p spec a s x b y)) c.one_select.ensures
