use Rattle.std.proofs.Common.{◌≡◌, None, subst, ◌∙◌}
use Rattle.std.specs.Vec.Iter.{into_iter_items}
use Rattle.sql_tree.specs.Trees as tree
use Rattle.sql_tree.specs.View.{item_tree}
use Rattle.sql_check_parts.specs.Expressions.{site}
use Rattle.sql_from.specs.Held.{base_held, tables_held}
use Rattle.sql_meaning.specs.Selects.{Wanted}
use Rattle.sql_from.specs.Sources.{scope_held}
use Rattle.sql_from.specs.Standing.{rows_for, sight_of}
use Rattle.sql_check_laws.specs.Selects.{IsValueTyped}
use Rattle.sql_exec.specs.Gathered.{IsColumnAt}
use Rattle.sql_exec.specs.SimpleItems.{IsSimple}
use Rattle.sql_exec.proofs.PlacedColumns.{order_within, partition_within}
use Rattle.sql_exec.proofs.SimpleRows.{made_values, own_values}
use Rattle.sql_exec.proofs.simple_items.cells_of.Goals as goal

pub returns-in-Column : goal.returns-in-Column
returns-in-Column c =
    let s = c.args.rows.now.rows.now.sources in
    let scope = scope_held s.sources in
    let w : Wanted = (item_tree c.args.item.now, c.args.kind) in
    let is : IsColumnAt scope w c.in-Column.place = subst (IsSimple scope w) c.in-Column.is c.requires.simple in
    own_values (base_held c.args.p.now s.held) scope w c.in-Column.place is (rows_for s c.args.rows.now.rows.now.tuples) c.requires.fit

pub returns-in_ok-window_values-in-Window : goal.returns-in_ok-window_values-in-Window
returns-in_ok-window_values-in-Window c =
    let s = c.args.rows.now.rows.now.sources in
    let window = c.in-Window.window.now in
    let w : Wanted = (item_tree c.args.item.now, c.args.kind) in
    let is : w.0.value ≡ tree.window window = subst (IsSimple (scope_held s.sources) w) c.in-Window.is c.requires.simple in
    made_values (sight_of c.args.p.now s) (rows_for s c.args.rows.now.rows.now.tuples) w window (into_iter_items c.into_iter.result) is (c.into_iter.ensures.rest ∙ c.in_ok-window_values-in-Window.ensures)

pub window_values-requires-clause-partition : goal.window_values-requires-clause-partition
window_values-requires-clause-partition c =
    let s = c.args.rows.now.rows.now.sources in
    let at = site c.args.p.now (tables_held s.held) (scope_held s.sources) in
    let window = c.in-Window.window.now in
    let w : Wanted = (item_tree c.args.item.now, c.args.kind) in
    let is : w.0.value ≡ tree.window window = subst (IsSimple (scope_held s.sources) w) c.in-Window.is c.requires.simple in
    let typed : IsValueTyped at None (tree.window window) = subst (IsValueTyped at None) is c.requires.typed in
    partition_within at window typed

pub window_values-requires-clause-order : goal.window_values-requires-clause-order
window_values-requires-clause-order c =
    let s = c.args.rows.now.rows.now.sources in
    let at = site c.args.p.now (tables_held s.held) (scope_held s.sources) in
    let window = c.in-Window.window.now in
    let w : Wanted = (item_tree c.args.item.now, c.args.kind) in
    let is : w.0.value ≡ tree.window window = subst (IsSimple (scope_held s.sources) w) c.in-Window.is c.requires.simple in
    let typed : IsValueTyped at None (tree.window window) = subst (IsValueTyped at None) is c.requires.typed in
    order_within at window typed
