use Rattle.std.proofs.Common.{◌<◌, None, length, get_or, ap, subst, arith}
use Rattle.std.proofs.lemmas.List.{get_or_default}
use Rattle.sql_tree.specs.View.{item_tree}
use Rattle.sql_check_parts.specs.Expressions.{site}
use Rattle.sql_from.specs.Held.{tables_held}
use Rattle.sql_from.specs.Sources.{scope_held}
use Rattle.sql_check_laws.specs.Selects.{IsItemTyped}
use Rattle.sql_from.specs.Standing.{rows_for, sight_of}
use Rattle.sql_exec.specs.Items.{HaveValuesOf}
use Rattle.sql_exec.proofs.RowItems.{items_more}
use Rattle.sql_exec.proofs.Steps.{holds_mapped, zipped_all}
use Rattle.sql_exec.proofs.items.row_items.Goals as goal

pub loop-i-preserved : goal.loop-i-preserved
loop-i-preserved c =
    let v = sight_of c.args.p.now c.args.rows.now.sources in
    let rows = rows_for c.args.rows.now.sources c.args.rows.now.tuples in
    let h : c.loop-i.i < length c.args.items.now = omega (arith, c.loop-i-test.true) in
    let l : c.loop-i.i < length c.args.kinds.now = omega (arith, c.requires.many) in
    let item = get_or c.args.items.now c.loop-i.i c.index-items-i.result in
    items_more v rows c.args.items.now c.args.kinds.now c.loop-i.i item _ c.in_ok-item_values.field-0 c.loop-i.row_items.items c.push.new.self.items h l (ap (get_or c.args.items.now c.loop-i.i) c.index-items-i.is) (get_or_default _ _ _ _ l) c.loop-i.invariant c.in_ok-item_values.ensures c.in_ok-push.ensures.items

pub returns : goal.returns
returns c =
    let v = sight_of c.args.p.now c.args.rows.now.sources in
    let rows = rows_for c.args.rows.now.sources c.args.rows.now.tuples in
    subst (λ w. HaveValuesOf v rows w c.loop-i.row_items.items) (zipped_all item_tree c.args.items.now c.args.kinds.now c.loop-i.i (omega (arith, c.loop-i-test.false))) c.loop-i.invariant

pub item_values-requires : goal.item_values-requires
item_values-requires c =
    let s = c.args.rows.now.sources in
    let items = c.args.items.now in
    let h : c.loop-i.i < length items = omega (arith, c.loop-i-test.true) in
    let item = get_or items c.loop-i.i c.index-items-i.result in
    holds_mapped (IsItemTyped (site c.args.p.now (tables_held s.held) (scope_held s.sources)) None) item_tree items c.loop-i.i item c.requires.typed h (ap (get_or items c.loop-i.i) c.index-items-i.is)
