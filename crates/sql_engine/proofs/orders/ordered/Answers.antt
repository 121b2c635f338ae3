use Rattle.std.proofs.Common.{◌≡◌, ◌∙◌, ◌++◌, List, length, map, ap, sym, subst}
use Rattle.std.specs.List.{range_with_len}
use Rattle.vtl_cell.specs.Sorted.{rising}
use Rattle.vtl_rows.specs.Keys.{key_of}
use Rattle.vtl_rows.specs.Tables.{Listed, listed}
use Rattle.vtl_rows.specs.declared.column.Column.{Column}
use Rattle.sql_check_laws.specs.Statements.{AreNames}
use Rattle.sql_meaning.specs.Scripts.{sort_key}
use Rattle.sql_meaning.specs.Tables.{column_entry}
use Rattle.sql_engine.specs.Exported.{ordered_by}
use Rattle.sql_engine.proofs.Ordering.{keys_within, table_ordered}
use Rattle.sql_engine.proofs.orders.ordered.Goals as goal

pub sort_by_columns-requires : goal.sort_by_columns-requires
sort_by_columns-requires c =
    let names = c.args.names.now in
    let e : map key_of c.deref.result.now ≡ map (sort_key (map column_entry c.in_ok-table.table.columns)) names ++ map rising (range_with_len 0 (length c.in_ok-table.table.columns)) =
    ap (map key_of) c.deref.ensures.value ∙ c.in_ok-keys.ensures ∙ ap (λ (l : List Column). map (sort_key (map column_entry l)) names ++ map rising (range_with_len 0 (length l))) c.columns.ensures.columns in
    keys_within c.deref.result.now c.in_ok-table.table.columns names (subst (λ (t : Listed). AreNames (map column_entry t.columns) names) (sym c.in_ok-table.ensures) c.requires) e

pub returns : goal.returns
returns c =
    let names = c.args.names.now in
    let e : map key_of c.deref.result.now ≡ map (sort_key (map column_entry c.in_ok-table.table.columns)) names ++ map rising (range_with_len 0 (length c.in_ok-table.table.columns)) =
    ap (map key_of) c.deref.ensures.value ∙ c.in_ok-keys.ensures ∙ ap (λ (l : List Column). map (sort_key (map column_entry l)) names ++ map rising (range_with_len 0 (length l))) c.columns.ensures.columns in
    table_ordered (listed c.in_ok-table.table) (listed c.sort_by_columns.new.self) c.deref.result.now names e c.columns.ensures.wide c.in_ok-sort_by_columns.ensures.columns c.in_ok-sort_by_columns.ensures.rows
    ∙ ap (ordered_by names) c.in_ok-table.ensures
