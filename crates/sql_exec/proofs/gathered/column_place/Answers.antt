use Rattle.std.proofs.Common.{◌≡◌, ◌∙◌, ap, sym}
use Rattle.sql_tree.specs.Trees as tree
use Rattle.sql_tree.specs.View.{item_tree, value_tree}
use Rattle.sql_tree.specs.declared.statements.ItemValue.TheVariants as values
use Rattle.sql_eval.proofs.ResolvedParts.{tree-Column}
use Rattle.sql_exec.proofs.GatheredItems.{column_is}
use Rattle.sql_exec.proofs.gathered.column_place.Goals as goal

pub returns-then-is_same_kind : goal.returns-then-is_same_kind
returns-then-is_same_kind g c =
    let x = c.in-Column.column in
    let is : value_tree c.args.item.now.value ≡ tree.expression (tree.column x) = ap value_tree (c.in-Expr.is ∙ ap values.Expr c.in-Column.is) ∙ ap tree.expression (tree-Column x) in
    column_is (g.N.Names.scope c.args.names.now) x c.in_ok-kind.field-0 c.args.kind (item_tree c.args.item.now) c.place.result is (sym c.in_ok-kind.ensures) (sym c.is_same_kind.ensures ∙ c.if-is_same_kind.true) c.place.ensures
