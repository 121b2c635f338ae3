use Rattle.std.proofs.Common.{[], ◌∷◌, ◌++◌, List, Some, ap, map, ◌∙◌}
use Rattle.std.proofs.lemmas.Result.{IfOk-weaker}
use Rattle.vtl_tree.specs.Shown.{shown}
use Rattle.sql_tree.specs.Trees.{Exp, ItemTree, SelectTree, Text}
use Rattle.sql_tree.specs.View.{expr_tree, item_tree}
use Rattle.joins_to_sql.specs.JoinItems.{column_from}
use Rattle.selects_to_sql.specs.Queries.{alias_of, items_as, select_as, source_as}
use Rattle.hierarchies_to_sql.specs.RuleItems.{beside_as, joins_as, leaf_of, one_there_as, true_as, value_of_two_as}
use Rattle.hierarchies_to_sql.proofs.computed.merged_query.Goals as goal

pub returns : goal.returns
returns c =
    let leaf = leaf_of c.args.shape.now.measured.now in
    let keys = c.args.shape.now.keys.now in
    let others = shown c.args.shape.now.others.now in
    let ys = shown c.args.shape.now.columns.now in
    let first = c.in_ok-first.first in
    let one = c.in_ok-one.one in
    let two = c.in_ok-two.two in
    let es = map item_tree c.in_ok-items.items.items in
    let w = expr_tree c.in_ok-condition.condition in
    let made = λ (z o t : Text) (l : List Text) (xs : List Text). beside_as z others keys l xs (map (column_from z) others ++ (value_of_two_as (leaf o) (leaf t) ∷ true_as ∷ [])) ys (Some (one_there_as (leaf o) (leaf t))) in
    IfOk-weaker c.one_select.result _ _
    (λ q e.
    e
    ∙ ap (λ (x : SelectTree). x ∷ [])
    (c.in_ok-select.ensures
    ∙ ap (λ (l : List ItemTree). select_as l (source_as first keys) (joins_as first others c.deref.result.now c.deref-2.result.now) (Some w)) c.in_ok-items.ensures
    ∙ ap (λ (x : Exp). select_as (items_as (map (column_from first) others ++ (value_of_two_as (leaf one) (leaf two) ∷ true_as ∷ [])) ys) (source_as first keys) (joins_as first others c.deref.result.now c.deref-2.result.now) (Some x)) c.in_ok-condition.ensures
    ∙ ap (λ (l : List Text). made first one two l c.deref-2.result.now) (c.deref.ensures.value ∙ c.in_ok-aliases.ensures)
    ∙ ap (λ (l : List Text). made first one two (one ∷ two ∷ []) l) (c.deref-2.ensures.value ∙ c.in_ok-tables.ensures ∙ ap (λ (x : Text). x ∷ c.in_ok-share-2.field-0 ∷ []) c.in_ok-share.ensures ∙ ap (λ (x : Text). c.args.made.now ∷ x ∷ []) c.in_ok-share-2.ensures)
    ∙ ap (λ (z : Text). made z one two (one ∷ two ∷ []) (c.args.made.now ∷ c.args.given.now ∷ [])) c.in_ok-first.ensures
    ∙ ap (λ (o : Text). made (alias_of 0) o two (o ∷ two ∷ []) (c.args.made.now ∷ c.args.given.now ∷ [])) c.in_ok-one.ensures
    ∙ ap (λ (t : Text). made (alias_of 0) (alias_of 1) t (alias_of 1 ∷ t ∷ []) (c.args.made.now ∷ c.args.given.now ∷ [])) c.in_ok-two.ensures)) c.one_select.ensures
