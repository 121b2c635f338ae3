use Rattle.std.proofs.Common.{◌++◌, List, None, ap, map, ◌∙◌}
use Rattle.std.proofs.lemmas.Result.{IfOk-weaker}
use Rattle.vtl_tree.specs.Shown.{shown}
use Rattle.vtl_tree.specs.Structure.{columns_of}
use Rattle.vtl_tree.specs.declared.structure.Component.{Component}
use Rattle.vtl_tree.specs.Columns.{identifiers_of, measures_of}
use Rattle.sql_tree.specs.Trees.{on}
use Rattle.sql_tree.specs.View.{join_tree}
use Rattle.sql_tree.specs.declared.word_groups.JoinKind.TheVariants as joining
use Rattle.selects_to_sql.specs.Items.{all_of, for_each_two}
use Rattle.selects_to_sql.specs.PairItems.{agreement_on, from_two, lead_item}
use Rattle.selects_to_sql.specs.Queries.{second_alias, source_as}
use Rattle.times_to_sql.specs.StockItems.{stock_item}
use Rattle.times_to_sql.proofs.stock_queries.stock_select.Goals as goal

pub returns : goal.returns
returns c =
    let a = c.args.a.now in
    let s = c.args.s.now in
    let items = λ (xs : List Component). map (lead_item xs) (identifiers_of s) ++ for_each_two (stock_item xs) (measures_of a.structure.now) (measures_of s) in
    let tie = λ (xs : List Component). on joining.Inner (source_as second_alias c.args.parts.now) (all_of (map (agreement_on xs) (identifiers_of s))) in
    IfOk-weaker c.from_two.result _ _
    (λ x e. e
    ∙ ap (λ l. from_two l a.table.now (join_tree c.in_ok-join.join) None) (c.in_ok-items.ensures ∙ ap items (ap shown c.deref.ensures.value ∙ c.in_ok-columns.ensures))
    ∙ ap (λ j. from_two (items (columns_of a.structure.now)) a.table.now j None) (c.in_ok-join.ensures ∙ ap tie (ap shown c.deref-2.ensures.value ∙ c.in_ok-columns.ensures)))
    c.from_two.ensures
