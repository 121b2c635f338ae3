use Rattle.std.proofs.Common.{◌<◌, ◌∙◌, None, length, get_or, map, ap, arith}
use Rattle.std.proofs.lemmas.List.{get_or_default}
use Rattle.vtl_cell.specs.declared.kind.Kind.TheVariants as k
use Rattle.sql_tree.specs.View.{item_tree}
use Rattle.sql_check_parts.specs.Expressions.{site}
use Rattle.sql_from.specs.Held.{tables_held}
use Rattle.sql_meaning.specs.Selects.{Wanted, item_value}
use Rattle.sql_from.specs.Sources.{scope_held}
use Rattle.sql_from.specs.Standing.{rows_for, sight_of}
use Rattle.sql_check_laws.specs.Selects.{IsItemTyped}
use Rattle.sql_meaning.specs.Windows.{told_apart}
use Rattle.sql_exec.specs.ItemCells.{values_in}
use Rattle.sql_exec.proofs.SimpleRows.{listed_more, simple_at, simple_many}
use Rattle.sql_exec.proofs.Steps.{holds_mapped, zipped_all}
use Rattle.sql_exec.proofs.simple_items.item_cells.Goals as goal

pub bounds-simple-i : goal.bounds-simple-i
bounds-simple-i c =
    let many = simple_many (scope_held c.args.rows.now.rows.now.sources.sources) c.args.items.now c.args.kinds.now c.args.simple.now c.requires.many c.requires.simple in
    omega (arith, many, c.loop-i-test.true)

pub cells_of-requires-clause-typed : goal.cells_of-requires-clause-typed
cells_of-requires-clause-typed c =
    let s = c.args.rows.now.rows.now.sources in
    let items = c.args.items.now in
    let h : c.loop-i.i < length items = omega (arith, c.loop-i-test.true) in
    holds_mapped (IsItemTyped (site c.args.p.now (tables_held s.held) (scope_held s.sources)) None) item_tree items c.loop-i.i c.index-items-i.result c.requires.typed h c.index-items-i.is

pub cells_of-requires-clause-simple : goal.cells_of-requires-clause-simple
cells_of-requires-clause-simple c =
    let scope = scope_held c.args.rows.now.rows.now.sources.sources in
    let items = c.args.items.now in
    let simple = c.args.simple.now in
    let i = c.loop-i.i in
    let h : i < length items = omega (arith, c.loop-i-test.true) in
    let l : i < length c.args.kinds.now = omega (arith, c.requires.many) in
    simple_at scope items c.args.kinds.now simple i c.index-items-i.result (get_or c.args.kinds.now i k.Null) c.index-simple-i.result h l c.index-items-i.is (get_or_default _ _ _ _ l) c.index-simple-i.is c.requires.simple

pub loop-i-preserved : goal.loop-i-preserved
loop-i-preserved c =
    let p = c.args.p.now in
    let s = c.args.rows.now.rows.now.sources in
    let rows = rows_for s c.args.rows.now.rows.now.tuples in
    let items = c.args.items.now in
    let i = c.loop-i.i in
    let h : i < length items = omega (arith, c.loop-i-test.true) in
    let l : i < length c.args.kinds.now = omega (arith, c.requires.many) in
    listed_more (values_in p rows) (λ (w : Wanted). map (item_value (sight_of p s) rows w) (told_apart rows)) items c.args.kinds.now i c.index-items-i.result (get_or c.args.kinds.now i k.Null) c.in_ok-cells_of.field-0 c.loop-i.cells.items c.push.new.self.items
    h l c.index-items-i.is (get_or_default _ _ _ _ l) c.loop-i.invariant c.in_ok-cells_of.ensures c.in_ok-push.ensures.items

pub returns : goal.returns
returns c =
    let p = c.args.p.now in
    let s = c.args.rows.now.rows.now.sources in
    let rows = rows_for s c.args.rows.now.rows.now.tuples in
    c.loop-i.invariant ∙ ap (map (λ (w : Wanted). map (item_value (sight_of p s) rows w) (told_apart rows))) (zipped_all item_tree c.args.items.now c.args.kinds.now c.loop-i.i (omega (arith, c.loop-i-test.false)))
