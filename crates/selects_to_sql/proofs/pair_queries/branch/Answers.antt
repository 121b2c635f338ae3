use Rattle.std.proofs.Common.{◌++◌, List, Some, ap, map, ◌∙◌}
use Rattle.std.proofs.lemmas.Result.{IfOk-weaker}
use Rattle.vtl_tree.specs.Shown.{shown}
use Rattle.vtl_tree.specs.Structure.{columns_of}
use Rattle.vtl_tree.specs.declared.structure.Component.{Component}
use Rattle.vtl_tree.specs.Columns.{identifiers_of, measures_of}
use Rattle.sql_tree.specs.Trees.{on}
use Rattle.sql_tree.specs.View.{expr_tree, join_tree}
use Rattle.sql_tree.specs.declared.word_groups.JoinKind.TheVariants as joining
use Rattle.selects_to_sql.specs.Items.{all_of}
use Rattle.selects_to_sql.specs.PairItems.{agreement_on, from_two, lead_item, second_item}
use Rattle.selects_to_sql.specs.Queries.{second_alias, source_as}
use Rattle.selects_to_sql.proofs.pair_queries.branch.Goals as goal

pub returns : goal.returns
returns c =
    let s = c.args.s.now in
    let other = c.args.branch.now in
    let table = c.args.tested.now.table.now in
    let condition = Some (expr_tree c.args.condition) in
    let items = λ (xs : List Component). map (lead_item xs) (identifiers_of s) ++ map second_item (measures_of s) in
    let tie = λ (xs : List Component). on joining.Inner (source_as second_alias other.table.now) (all_of (map (agreement_on xs) (identifiers_of other.structure.now))) in
    IfOk-weaker c.from_two.result _ _
    (λ x e. e
    ∙ ap (λ l. from_two l table (join_tree c.in_ok-join.join) condition) (c.in_ok-items.ensures ∙ ap items (ap shown c.deref.ensures.value ∙ c.in_ok-columns.ensures))
    ∙ ap (λ j. from_two (items (columns_of c.args.tested.now.structure.now)) table j condition) (c.in_ok-join.ensures ∙ ap tie (ap shown c.deref-2.ensures.value ∙ c.in_ok-columns.ensures)))
    c.from_two.ensures
