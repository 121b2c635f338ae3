use Rattle.std.proofs.Common.{◌≡◌, ◌++◌, ◌∷◌, [], Err, List, Result, map, get_or, rules, sym, ap, ◌∙◌, subst}
use Rattle.std.specs.Prelude.{OnOk}
use Rattle.std.specs.declared.alloc.AllocError.{AllocError}
use Rattle.vtl_cell.specs.Row.{Row}
use Rattle.vtl_rows.specs.Places.{row_at}
use Rattle.vtl_rows.specs.Tables.{cells_at, column_at}
use Rattle.vtl_rows.specs.declared.column.Column.{Column}
use Rattle.vtl_series.specs.Kept.{FitsDated}
use Rattle.vtl_series.specs.Series.{keys_by, tuple_rows}
use Rattle.vtl_series.proofs.FitLemmas.{dated_fits}
use Rattle.vtl_series.proofs.GroupLemmas.{group_front, group_is, group_some, group_within, row_found}
use Rattle.vtl_series.proofs.SeriesLemmas.{one_group}
use Rattle.vtl_series.proofs.series.push_one_group.Goals as goal

pub bounds-places-0 : goal.bounds-places-0
bounds-places-0 c =
    let places = c.rows-places.result.now in
    group_some c.args.by.now c.args.table.now.rows c.args.group places (group_is c.args.by.now c.args.table.now.rows c.args.groups.now c.args.group places c.requires.groups c.requires.group c.rows-places.ensures)

pub row-requires : goal.row-requires
row-requires c =
    let places = c.rows-places.result.now in
    group_front c.args.by.now c.args.table.now.rows c.args.group places (group_is c.args.by.now c.args.table.now.rows c.args.groups.now c.args.group places c.requires.groups c.requires.group c.rows-places.ensures)

pub spans_of_rows-own-requires : goal.spans_of_rows-own-requires
spans_of_rows-own-requires c =
    let places = c.rows-places.result.now in
    group_within c.args.by.now c.args.table.now.rows c.args.group places (group_is c.args.by.now c.args.table.now.rows c.args.groups.now c.args.group places c.requires.groups c.requires.group c.rows-places.ensures)

pub push_group-requires-clause-fits : goal.push_group-requires-clause-fits
push_group-requires-clause-fits c =
    let columns = c.args.table.now.columns in
    let rows = c.args.table.now.rows in
    let by = c.args.by.now in
    let places = c.rows-places.result.now in
    let first = get_or places 0 0 in
    let front = group_front by rows c.args.group places (group_is by rows c.args.groups.now c.args.group places c.requires.groups c.requires.group c.rows-places.ensures) in
    let found = row_found rows first c.row.result.now front c.row.ensures.row in
    let keyed : c.deref.result.now ≡ cells_at by (row_at rows first) = c.deref.ensures.value ∙ c.in_ok-put_key.ensures ∙ ap (cells_at by) found in
    subst (λ (cs : List Column). FitsDated cs c.deref.result.now) (sym c.requires.columns)
    (subst (λ (k : Row). FitsDated (map (column_at columns) (by ++ c.args.on ∷ [])) k) (sym keyed) (dated_fits columns by c.args.on (row_at rows first) c.requires.periods (c.requires.fit first [] front)))

pub returns-in_err-put_key-clause-rows : goal.returns-in_err-put_key-clause-rows
returns-in_err-put_key-clause-rows c =
    let rows = c.args.table.now.rows in
    let by = c.args.by.now in
    let passed : c.from_residual.result ≡ Err c.in_err-put_key.field-0.0 = search rules in
    subst (λ (r : Result (Unit {0}) AllocError). OnOk r (c.args.rows.now.rows ≡ c.args.rows.now.rows ++ tuple_rows c.args.extent c.args.on by rows (row_at (keys_by by rows) c.args.group))) (sym passed) tt

pub returns-clause-rows : goal.returns-clause-rows
returns-clause-rows c =
    let rows = c.args.table.now.rows in
    let by = c.args.by.now in
    let places = c.rows-places.result.now in
    let first = get_or places 0 0 in
    let is = group_is by rows c.args.groups.now c.args.group places c.requires.groups c.requires.group c.rows-places.ensures in
    let found = row_found rows first c.row.result.now (group_front by rows c.args.group places is) c.row.ensures.row in
    let keyed : c.deref.result.now ≡ cells_at by (row_at rows first) = c.deref.ensures.value ∙ c.in_ok-put_key.ensures ∙ ap (cells_at by) found in
    let own = c.spans_of_rows-own.ensures in
    subst (λ (l : List Row). OnOk c.push_group.result (c.push_group.new.rows.rows ≡ c.args.rows.now.rows ++ l))
    (one_group c.args.extent c.args.on by rows c.args.group places is c.deref.result.now c.spans_of_rows-own.result c.args.all.now keyed own.value c.requires.all own.within c.requires.within)
    c.push_group.ensures.rows
