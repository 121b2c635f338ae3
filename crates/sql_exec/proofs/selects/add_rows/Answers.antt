use Rattle.std.proofs.Common.{◌≡◌, ◌<◌, ◌≤◌, ◌∙◌, [], true, ℕ, Global, List, Ok, Option, Vec, length, map, get_or, ap, subst, sym, refl, arith}
use Rattle.std.specs.Prelude.{IfSome, zip}
use Rattle.std.proofs.lemmas.List.{get_or_default, length-map}
use Rattle.vtl_cell.specs.Outcome.{Outcome}
use Rattle.vtl_cell.specs.Row.{Row}
use Rattle.vtl_rows.specs.Tables.{cells_at, column_kinds, fits_kinds}
use Rattle.sql_tree.specs.View.{item_tree}
use Rattle.sql_from.specs.Columns.{kinds_at}
use Rattle.sql_from.specs.Held.{base_held}
use Rattle.sql_check_parts.specs.Scopes.{row_of}
use Rattle.sql_meaning.specs.Outcomes.{row_at, row_fault}
use Rattle.sql_meaning.specs.Selects.{item_value, plain_rows}
use Rattle.sql_from.specs.Sources.{scope_held}
use Rattle.sql_from.specs.Standing.{rows_for, sight_of}
use Rattle.sql_meaning.specs.Windows.{told_apart}
use Rattle.sql_exec.specs.Gathered.{AreColumnsAt}
use Rattle.sql_exec.specs.Items.{told_row}
use Rattle.sql_exec.specs.Outputs.{Adds}
use Rattle.sql_exec.proofs.Added.{added_all, added_more, added_none}
use Rattle.sql_exec.proofs.GatheredItems.{plain_gathered, second_of_zip}
use Rattle.sql_exec.proofs.MadeRows.{made_fits, made_row}
use Rattle.sql_exec.proofs.PlainRows.{each_is, one_row}
use Rattle.sql_exec.proofs.RowItems.{told_first, told_long}
use Rattle.sql_exec.proofs.Steps.{holds_at}
use Rattle.sql_exec.proofs.selects.add_rows.Goals as goal

pub add_gathered-requires-clause-kinds : goal.add_gathered-requires-clause-kinds
add_gathered-requires-clause-kinds g c =
    let scope = scope_held c.args.rows.now.sources.sources in
    let items = c.args.items.now in
    let kinds = c.args.kinds.now in
    let wanted = zip (map item_tree items) kinds in
    let are : AreColumnsAt scope wanted c.in-Some.places.items = subst (λ (o : Option (Vec ℕ Global)). IfSome o (λ v. AreColumnsAt scope wanted v.items)) c.in-Some.is c.in_ok-places.ensures in
    c.requires.columns ∙ sym (second_of_zip (map item_tree items) kinds (c.requires.many ∙ sym (length-map items item_tree))) ∙ are.kinds ∙ ap (λ ps. kinds_at ps (row_of scope)) (sym c.deref.ensures.value)

pub returns-in-Some-clause-adds : goal.returns-in-Some-clause-adds
returns-in-Some-clause-adds g c =
    let s = c.args.rows.now.sources in
    let scope = scope_held s.sources in
    let rows = rows_for s c.args.rows.now.tuples in
    let wanted = zip (map item_tree c.args.items.now) c.args.kinds.now in
    let are : AreColumnsAt scope wanted c.in-Some.places.items = subst (λ (o : Option (Vec ℕ Global)). IfSome o (λ v. AreColumnsAt scope wanted v.items)) c.in-Some.is c.in_ok-places.ensures in
    let plain : plain_rows (sight_of c.args.p.now s) wanted rows ≡ Ok (map (cells_at c.in-Some.places.items) rows) = plain_gathered (base_held c.args.p.now s.held) scope wanted c.in-Some.places.items are rows c.requires.fit in
    subst (λ (m : Outcome (List Row)). Adds m c.args.out.now c.add_gathered.new.out) (ap (λ ps. Ok (map (cells_at ps) rows)) c.deref.ensures.value ∙ sym plain) c.in_ok-add_gathered.ensures

pub loop-number-init : goal.loop-number-init
loop-number-init g c = added_none c.args.out.now _ c.in_ok-reserve_rows.ensures.columns c.in_ok-reserve_rows.ensures.rows refl

pub add_row-requires-clause-fits : goal.add_row-requires-clause-fits
add_row-requires-clause-fits g c none =
    let p = c.args.p.now in
    let s = c.args.rows.now.sources in
    let rows = rows_for s c.args.rows.now.tuples in
    let i = c.loop-number.number in
    let r = get_or rows i [] in
    let h : i < length rows = omega (arith, c.len-number-end.ensures.rows, c.loop-number-test.true) in
    let fit : fits_kinds (row_of (scope_held s.sources)) r ≡ true = holds_at (λ x. fits_kinds (row_of (scope_held s.sources)) x ≡ true) rows i r c.requires.fit h (get_or_default rows i [] r h) in
    let here = ap (fits_kinds (row_of (scope_held s.sources))) (told_first rows i h) ∙ fit in
    made_fits p s rows (zip (map item_tree c.args.items.now) c.args.kinds.now) c.deref-in-loop-number.result.now c.in_ok-resolved.resolved.items c.deref-in-loop-number.ensures.value c.in_ok-resolved.ensures c.partnered.result.row.sources.now c.partnered.ensures.sources i h _ c.partnered.ensures.row
    c.loop-number.out.table.columns c.args.kinds.now (ap column_kinds c.loop-number.invariant.columns ∙ c.requires.columns) (c.requires.fitting rows (told_row rows i) c.requires.fit here)

pub loop-number-preserved : goal.loop-number-preserved
loop-number-preserved g c =
    let p = c.args.p.now in
    let s = c.args.rows.now.sources in
    let rows = rows_for s c.args.rows.now.tuples in
    let i = c.loop-number.number in
    let h : i < length rows = omega (arith, c.len-number-end.ensures.rows, c.loop-number-test.true) in
    let long = told_long rows in
    let l : i < length (told_apart rows) = omega (arith, h, long) in
    let wanted = zip (map item_tree c.args.items.now) c.args.kinds.now in
    let at = item_value (sight_of p s) rows in
    let m = one_row (row_fault at wanted) (row_at at wanted) in
    let one = made_row p s rows wanted c.deref-in-loop-number.result.now c.in_ok-resolved.resolved.items c.deref-in-loop-number.ensures.value c.in_ok-resolved.ensures c.partnered.result.row.sources.now c.partnered.ensures.sources i h _ c.partnered.ensures.row in
    added_more m (told_apart rows) i (told_row rows i) l (get_or_default (told_apart rows) i ([], 0) (told_row rows i) l) c.args.out.now c.loop-number.out c.add_row.new.self c.loop-number.invariant
    (subst (λ (n : Outcome (List Row)). Adds n c.loop-number.out c.add_row.new.self) one c.in_ok-add_row.ensures.adds)

pub returns-clause-adds : goal.returns-clause-adds
returns-clause-adds g c =
    let s = c.args.rows.now.sources in
    let wanted = zip (map item_tree c.args.items.now) c.args.kinds.now in
    let rows = rows_for s c.args.rows.now.tuples in
    let at = item_value (sight_of c.args.p.now s) rows in
    let f = row_fault at wanted in
    let g = row_at at wanted in
    let long = told_long rows in
    let h : length (told_apart rows) ≤ c.loop-number.number = omega (arith, long, c.len-number-end.ensures.rows, c.loop-number-test.false) in
    subst (λ (n : Outcome (List Row)). Adds n c.args.out.now c.loop-number.out) (each_is f g (told_apart rows)) (added_all (one_row f g) (told_apart rows) c.loop-number.number c.args.out.now c.loop-number.out h c.loop-number.invariant)
