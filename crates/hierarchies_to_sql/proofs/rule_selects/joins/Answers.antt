use Rattle.std.proofs.Common.{◌<◌, ◌++◌, ◌∷◌, [], List, min, length, map, subst, sym, ap, take, ◌∙◌, arith}
use Rattle.std.proofs.lemmas.List.{map-append}
use Rattle.vtl_tree.specs.Shown.{shown}
use Rattle.sql_tree.specs.Trees.{JoinTree}
use Rattle.sql_tree.specs.View.{join_tree}
use Rattle.hierarchies_to_sql.specs.RuleItems.{join_as, joins_as}
use Rattle.hierarchies_to_sql.proofs.Beside.{joins_more}
use Rattle.hierarchies_to_sql.proofs.rule_selects.joins.Goals as goal

pub loop-i-preserved : goal.loop-i-preserved
loop-i-preserved c =
    let first = c.args.first.now in
    let ys = shown c.args.columns.now in
    let i = c.loop-i.i in
    let old = c.loop-i.joins.items in
    let within : i < min (length c.args.aliases.now) (length c.args.tables.now) = subst (λ n. i < n) c.min-i-end.ensures c.loop-i-test.true in
    let join = c.in_ok-join.field-0 in
    ap (map join_tree) c.in_ok-push.ensures.items
    ∙ map-append join_tree old (join ∷ [])
    ∙ ap (λ (l : List JoinTree). l ++ join_tree join ∷ []) c.loop-i.invariant
    ∙ ap (λ (j : JoinTree). joins_as first ys (take i c.args.aliases.now) (take i c.args.tables.now) ++ j ∷ []) c.in_ok-join.ensures
    ∙ sym (joins_more first ys c.args.aliases.now c.args.tables.now i c.index-aliases-i.result c.index-tables-i.result (omega (arith, within)) (omega (arith, within)) c.index-aliases-i.is c.index-tables-i.is)
