use Rattle.std.proofs.Common.{◌≡◌, ◌∙◌, Option, Some, ap, sym}
use Rattle.std.specs.Option.{option_copied, option_map}
use Rattle.vtl_rows.specs.Named.{table_of}
use Rattle.vtl_rows.specs.Tables.{Listed}
use Rattle.sql_tree.specs.declared.parts.Series.{Series}
use Rattle.sql_from.specs.Sources.{given_table}
use Rattle.sql_from.proofs.GivenTables.{filled_is}
use Rattle.sql_from.proofs.from_tables.FromTable.of.Goals as goal

pub returns : goal.returns
returns c =
    let source = c.args.source.now in
    let own = c.in-Some.table.now in
    let series = c.in-Some-series.series in
    let there : table_of source.table c.args.held.now ≡ Some own = sym c.held.ensures ∙ ap option_copied c.in-Some.is in
    let is : source.series ≡ Some series = c.in-Some-series.is in
    let made : c.in_ok-table_of_series.field-0 ≡ given_table (Some series) own = c.in_ok-table_of_series.ensures ∙ filled_is series own c.in_ok-places.places c.in_ok-places.ensures in
    ap (λ (t : Listed). Some t) made ∙ sym (λ i. option_map (given_table (is i)) (there i))
