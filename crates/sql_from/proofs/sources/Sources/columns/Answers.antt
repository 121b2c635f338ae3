use Rattle.std.proofs.Common.{◌≡◌, ◌∙◌, ◌++◌, ◌∷◌, List, length, length-append, map, take, ap, sym, arith, Some}
use Rattle.std.proofs.lemmas.List.{length-map}
use Rattle.std.specs.Prelude.{slice_get}
use Rattle.vtl_rows.specs.declared.column.Column.{Column}
use Rattle.sql_meaning.specs.Tables.{column_entry}
use Rattle.sql_from.specs.Columns.{columns_below, line_feed, source_columns}
use Rattle.sql_from.specs.Sources.{scope_held}
use Rattle.sql_from.proofs.Parted.{take_got}
use Rattle.sql_from.proofs.Sited.{source_got}
use Rattle.sql_from.proofs.Tabled.{columns_last}
use Rattle.sql_from.proofs.sources.Sources.columns.Goals as goal

pub loop-i-preserved : goal.loop-i-preserved
loop-i-preserved c =
    let ss = c.args.self.now.sources in
    let i = c.loop-i.i in
    let alias = c.at.result.0.now in
    let table = c.at.result.1.now.table.now in
    let got : slice_get ss i ≡ Some (alias, table) = ap (λ s. slice_get s.sources i) (sym c.self.view_is) ∙ source_got c.self.inside.sources i alias c.at.result.1.now c.at.ensures in
    let added = columns_below alias (map column_entry c.columns-own.result.now) in
    let long = length-append c.loop-i.columns.items added in
    let below = length-map {B = Column} (map column_entry c.columns-own.result.now) (λ e. record { name = alias ++ line_feed ∷ e.0; kind = e.1 }) in
    let entries = length-map c.columns-own.result.now column_entry in
    let grown : length c.push_columns.new.columns.items ≡ length (c.loop-i.columns.items ++ added) = ap (λ (l : List Column). length l) c.in_ok-push_columns.ensures in
    record {
      columns = c.in_ok-push_columns.ensures ∙ (λ n. c.loop-i.invariant.columns n ++ columns_below alias (map column_entry ((c.columns-own.ensures.columns ∙ ap (λ t. t.columns) c.table.ensures) n)))
          ∙ sym (ap (λ l. source_columns (scope_held l)) (take_got ss i (alias, table) got) ∙ columns_last (take i ss) alias table);
      some = omega (arith, long, below, entries, grown, c.loop-i.invariant.some, c.columns-own.ensures.some);
    }
