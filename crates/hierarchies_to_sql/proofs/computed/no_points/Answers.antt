use Rattle.std.proofs.Common.{[], ◌∷◌, List, Some, ap, map, sym, ◌∙◌}
use Rattle.std.proofs.lemmas.Result.{IfOk-weaker}
use Rattle.vtl_tree.specs.Shown.{shown}
use Rattle.vtl_tree.specs.Structure.{columns_of}
use Rattle.vtl_tree.specs.declared.structure.Component.{Component}
use Rattle.sql_tree.specs.Trees as tree
use Rattle.sql_tree.specs.declared.parts.Constant.TheVariants as constant
use Rattle.sql_tree.specs.Trees.{Exp, ItemTree}
use Rattle.sql_tree.specs.View.{item_tree}
use Rattle.selects_to_sql.specs.Items.{from_one}
use Rattle.selects_to_sql.specs.NamedItems.{own_columns}
use Rattle.selects_to_sql.specs.Queries.{items_as}
use Rattle.hierarchies_to_sql.proofs.ItemForms.{no_points_written}
use Rattle.hierarchies_to_sql.proofs.computed.no_points.Goals as goal

pub returns : goal.returns
returns c =
    let a = c.args.a.now.structure.now in
    let s = c.args.s.now in
    let x = c.args.a.now.table.now in
    let both = λ (ys zs : List Component). items_as (own_columns ys) zs in
    let one = ap shown c.deref.ensures.value ∙ c.in_ok-columns.ensures in
    let two = ap shown c.deref-2.ensures.value ∙ c.in_ok-columns.ensures in
    IfOk-weaker c.from_table.result _ _
    (λ q e.
    e
    ∙ ap (λ (e : Exp). from_one (map item_tree c.push_own.new.items.items) (Some e) x ∷ []) c.never.ensures
    ∙ ap (λ (l : List ItemTree). from_one l (Some (tree.constant constant.False)) x ∷ [])
    (c.in_ok-push_own.ensures [] (ap (map item_tree) c.in_ok-items.ensures.items) ∙ ap (λ (ys : List Component). both ys (shown c.deref-2.result.now)) one ∙ ap (λ (ys : List Component). both (columns_of s) ys) two)
    ∙ sym (no_points_written c.args.writer.now a s x)) c.from_table.ensures
