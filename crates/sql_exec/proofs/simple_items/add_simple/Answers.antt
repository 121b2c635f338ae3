use Rattle.std.proofs.Common.{◌≡◌, ◌<◌, ◌≤◌, ◌+◌, ◌∙◌, [], true, List, None, length, map, get_or, drop, ap, subst, sym, refl, arith}
use Rattle.std.specs.Prelude.{zip}
use Rattle.std.specs.List.{AllByRecursion}
use Rattle.std.proofs.lemmas.List.{get_or_default, with_items_is}
use Rattle.vtl_cell.specs.Outcome.{Outcome}
use Rattle.vtl_cell.specs.Row.{Row}
use Rattle.vtl_rows.specs.Tables.{column_kinds, fits_kinds}
use Rattle.sql_tree.specs.View.{item_tree}
use Rattle.sql_check_parts.specs.Expressions.{site}
use Rattle.sql_from.specs.Held.{tables_held}
use Rattle.sql_meaning.specs.Outcomes.{row_at, row_fault}
use Rattle.sql_check_parts.specs.Scopes.{row_of}
use Rattle.sql_meaning.specs.Selects.{item_value}
use Rattle.sql_from.specs.Sources.{scope_held}
use Rattle.sql_from.specs.Standing.{rows_for, sight_of}
use Rattle.sql_meaning.specs.Tables.{RowsFit}
use Rattle.sql_check_laws.specs.Selects.{IsItemTyped}
use Rattle.sql_meaning.specs.Windows.{told_apart}
use Rattle.sql_exec.specs.ItemCells.{values_in}
use Rattle.sql_exec.specs.Items.{told_row}
use Rattle.sql_exec.specs.Outputs.{Adds}
use Rattle.sql_exec.specs.SimpleItems.{AreSimple}
use Rattle.sql_exec.specs.declared.item_cells.ItemCells.{ItemCells}
use Rattle.sql_exec.proofs.Added.{added_all, added_more, added_none}
use Rattle.sql_exec.proofs.PlainRows.{each_is, one_row}
use Rattle.sql_exec.proofs.RowItems.{told_first, told_long}
use Rattle.sql_exec.proofs.SimpleRows.{next_fits, next_left, next_made}
use Rattle.sql_exec.proofs.Steps.{along, holds_at}
use Rattle.sql_exec.proofs.simple_items.add_simple.Goals as goal

pub item_cells-requires-clause-typed : goal.item_cells-requires-clause-typed
item_cells-requires-clause-typed c =
    along (sym c.in_ok-tabled.ensures) (λ z. AllByRecursion (IsItemTyped (site c.args.p.now (tables_held z.sources.held) (scope_held z.sources.sources)) None) (map item_tree c.args.items.now)) c.requires.typed

pub item_cells-requires-clause-simple : goal.item_cells-requires-clause-simple
item_cells-requires-clause-simple c =
    along (sym c.in_ok-tabled.ensures) (λ z. AreSimple (scope_held z.sources.sources) (zip (map item_tree c.args.items.now) c.args.kinds.now) c.args.simple.now) c.requires.simple

pub item_cells-requires-clause-fit : goal.item_cells-requires-clause-fit
item_cells-requires-clause-fit c =
    along (sym c.in_ok-tabled.ensures) (λ z. RowsFit (row_of (scope_held z.sources.sources)) (rows_for z.sources z.tuples)) c.requires.fit

pub loop-number-init : goal.loop-number-init
loop-number-init c =
    let p = c.args.p.now in
    let wanted = zip (map item_tree c.args.items.now) c.args.kinds.now in
    let cells = c.in_ok-cells.cells.items in
    record {
      adds = added_none c.args.out.now _ c.in_ok-reserve_rows.ensures.columns c.in_ok-reserve_rows.ensures.rows refl;
      left = along c.in_ok-tabled.ensures
          (λ z. map (values_in p (rows_for z.sources z.tuples)) cells ≡ map (λ w. map (item_value (sight_of p z.sources) (rows_for z.sources z.tuples) w) (told_apart (rows_for z.sources z.tuples))) wanted) c.in_ok-cells.ensures;
    }

pub add_across-requires : goal.add_across-requires
add_across-requires c none =
    let p = c.args.p.now in
    let s = c.args.rows.now.sources in
    let rows = rows_for s c.args.rows.now.tuples in
    let wanted = zip (map item_tree c.args.items.now) c.args.kinds.now in
    let i = c.loop-number.number in
    let long = c.len-number-end.ensures ∙ along c.in_ok-tabled.ensures (λ z. length (rows_for c.in_ok-tabled.tabled.rows.now.sources c.in_ok-tabled.tabled.rows.now.tuples) ≡ length (rows_for z.sources z.tuples)) refl in
    let h : i < length rows = omega (arith, long, c.loop-number-test.true) in
    let r = c.row.result.now in
    let here : r ≡ get_or rows i r = c.row.ensures ∙ along c.in_ok-tabled.ensures (λ z. get_or (rows_for c.in_ok-tabled.tabled.rows.now.sources c.in_ok-tabled.tabled.rows.now.tuples) i r ≡ get_or (rows_for z.sources z.tuples) i r) refl in
    let kinds = row_of (scope_held s.sources) in
    let x = get_or rows i [] in
    let fit : fits_kinds kinds x ≡ true = holds_at (λ y. fits_kinds kinds y ≡ true) rows i x c.requires.fit h (get_or_default rows i [] x h) in
    let first = ap (fits_kinds kinds) (told_first rows i h) ∙ fit in
    next_fits p (sight_of p s) rows wanted i r h here c.loop-number.cells.items c.deref_mut.result.now c.deref_mut.ensures.value c.loop-number.invariant.left
    c.loop-number.out.table.columns c.args.kinds.now (ap column_kinds c.loop-number.invariant.adds.columns ∙ c.requires.columns) (c.requires.fitting rows (told_row rows i) c.requires.fit first)

pub loop-number-preserved : goal.loop-number-preserved
loop-number-preserved c =
    let p = c.args.p.now in
    let s = c.args.rows.now.sources in
    let v = sight_of p s in
    let rows = rows_for s c.args.rows.now.tuples in
    let told = told_apart rows in
    let wanted = zip (map item_tree c.args.items.now) c.args.kinds.now in
    let at = item_value v rows in
    let m = one_row (row_fault at wanted) (row_at at wanted) in
    let i = c.loop-number.number in
    let long = c.len-number-end.ensures ∙ along c.in_ok-tabled.ensures (λ z. length (rows_for c.in_ok-tabled.tabled.rows.now.sources c.in_ok-tabled.tabled.rows.now.tuples) ≡ length (rows_for z.sources z.tuples)) refl in
    let h : i < length rows = omega (arith, long, c.loop-number-test.true) in
    let r = c.row.result.now in
    let here : r ≡ get_or rows i r = c.row.ensures ∙ along c.in_ok-tabled.ensures (λ z. get_or (rows_for c.in_ok-tabled.tabled.rows.now.sources c.in_ok-tabled.tabled.rows.now.tuples) i r ≡ get_or (rows_for z.sources z.tuples) i r) refl in
    let many = told_long rows in
    let l : i < length told = omega (arith, h, many) in
    let lent = c.deref_mut.result.now in
    let same = c.deref_mut.ensures.value in
    let left = c.loop-number.invariant.left in
    let one = next_made p v rows wanted i r h here c.loop-number.cells.items lent same left in
    let rest = drop (i + 1) rows in
    let then = c.add_across.new.items in
    let len : length then ≡ c.loop-number.cells.len = omega (arith, ap (λ (xs : List ItemCells). length xs) same, c.loop-number.cells.ok.0, c.add_across.auto.items) in
    record {
      adds =
          added_more m told i (told_row rows i) l (get_or_default told i ([], 0) (told_row rows i) l) c.args.out.now c.loop-number.out c.add_across.new.self c.loop-number.invariant.adds
          (subst (λ (n : Outcome (List Row)). Adds n c.loop-number.out c.add_across.new.self) one c.in_ok-add_across.ensures.adds);
      left =
          next_left p v rows wanted i r h here c.loop-number.cells.items lent same left _
          (ap (map (values_in p rest)) (with_items_is c.loop-number.cells then len) ∙ c.in_ok-add_across.ensures.others rest);
    }

pub returns-clause-adds : goal.returns-clause-adds
returns-clause-adds c =
    let s = c.args.rows.now.sources in
    let wanted = zip (map item_tree c.args.items.now) c.args.kinds.now in
    let rows = rows_for s c.args.rows.now.tuples in
    let at = item_value (sight_of c.args.p.now s) rows in
    let f = row_fault at wanted in
    let g = row_at at wanted in
    let many = told_long rows in
    let long = c.len-number-end.ensures ∙ along c.in_ok-tabled.ensures (λ z. length (rows_for c.in_ok-tabled.tabled.rows.now.sources c.in_ok-tabled.tabled.rows.now.tuples) ≡ length (rows_for z.sources z.tuples)) refl in
    let h : length (told_apart rows) ≤ c.loop-number.number = omega (arith, many, long, c.loop-number-test.false) in
    subst (λ (n : Outcome (List Row)). Adds n c.args.out.now c.loop-number.out) (each_is f g (told_apart rows)) (added_all (one_row f g) (told_apart rows) c.loop-number.number c.args.out.now c.loop-number.out h c.loop-number.invariant.adds)
