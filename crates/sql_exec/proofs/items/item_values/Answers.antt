use Rattle.std.proofs.Common.{◌≡◌, ◌<◌, None, length, map, ap, subst, sym}
use Rattle.std.specs.List.{AllByRecursion}
use Rattle.sql_tree.specs.View.{value_tree}
use Rattle.sql_tree.specs.Trees as tree
use Rattle.sql_check_parts.specs.Expressions.{site}
use Rattle.sql_from.specs.Held.{tables_held}
use Rattle.sql_check_parts.specs.Scopes.{row_of}
use Rattle.sql_from.specs.Sources.{scope_held}
use Rattle.sql_check_laws.specs.Selects.{IsValueTyped}
use Rattle.sql_from.specs.Standing.{rows_for, sight_of}
use Rattle.sql_meaning.specs.Values.{place_in}
use Rattle.sql_meaning.specs.Windows.{told_apart, window_value}
use Rattle.sql_exec.specs.Items.{HasValuesOf}
use Rattle.sql_exec.specs.declared.items.ItemValues.TheVariants as values
use Rattle.sql_exec.proofs.PlacedColumns.{order_within, partition_within}
use Rattle.sql_exec.proofs.RowItems.{cells_have, expression_has}
use Rattle.sql_exec.proofs.Steps.{along}
use Rattle.sql_exec.proofs.items.item_values.Goals as goal

pub returns-in_ok-resolved-in-Expr : goal.returns-in_ok-resolved-in-Expr
returns-in_ok-resolved-in-Expr c =
    let s = c.args.rows.now.sources in
    let rows = rows_for s c.args.rows.now.tuples in
    let resolved = c.in_ok-resolved-in-Expr.resolved in
    subst (λ w. HasValuesOf (sight_of c.args.p.now s) rows w (values.Expression resolved.exp)) (sym (ap value_tree c.in-Expr.is)) (expression_has c.args.p.now s rows _ resolved c.in_ok-resolved-in-Expr.ensures)

pub returns-in_ok-window_values-in-Window : goal.returns-in_ok-window_values-in-Window
returns-in_ok-window_values-in-Window c =
    let p = c.args.p.now in
    let s = c.args.rows.now.sources in
    let rows = rows_for s c.args.rows.now.tuples in
    let w = c.in-Window.window in
    let cells = c.in_ok-window_values-in-Window.field-0 in
    let made = along c.in_ok-tabled-in-Window.ensures (λ z. cells.items ≡ map (window_value (sight_of p z.sources) w (rows_for z.sources z.tuples)) (told_apart (rows_for z.sources z.tuples))) c.in_ok-window_values-in-Window.ensures in
    subst (λ w. HasValuesOf (sight_of p s) rows w (values.Window cells)) (sym (ap value_tree c.in-Window.is)) (cells_have (sight_of p s) rows w cells.items made)

pub window_values-requires-clause-partition : goal.window_values-requires-clause-partition
window_values-requires-clause-partition c =
    let s = c.args.rows.now.sources in
    let at = site c.args.p.now (tables_held s.held) (scope_held s.sources) in
    let w = c.in-Window.window in
    let typed : IsValueTyped at None (tree.window w) = subst (IsValueTyped at None) (ap value_tree c.in-Window.is) c.requires in
    along (sym c.in_ok-tabled-in-Window.ensures) (λ z. AllByRecursion (λ x. place_in (scope_held z.sources.sources) x < length (row_of (scope_held z.sources.sources))) w.over.partition) (partition_within at w typed)

pub window_values-requires-clause-order : goal.window_values-requires-clause-order
window_values-requires-clause-order c =
    let s = c.args.rows.now.sources in
    let at = site c.args.p.now (tables_held s.held) (scope_held s.sources) in
    let w = c.in-Window.window in
    let typed : IsValueTyped at None (tree.window w) = subst (IsValueTyped at None) (ap value_tree c.in-Window.is) c.requires in
    along (sym c.in_ok-tabled-in-Window.ensures) (λ z. AllByRecursion (λ x. place_in (scope_held z.sources.sources) x.column < length (row_of (scope_held z.sources.sources))) w.over.order) (order_within at w typed)
