use Rattle.std.proofs.Common.{◌≡◌, ◌∙◌, Option, Some, None, ap, if◌then◌else◌, length, sym}
use Rattle.std.specs.Option.{option_copied, option_map}
use Rattle.std.proofs.lemmas.Result.{IfOk-weaker}
use Rattle.vtl_rows.specs.Named.{table_of}
use Rattle.sql_tree.specs.declared.parts.Series.{Series}
use Rattle.sql_check_parts.specs.Scopes.{Columns, columns_from, columns_of, columns_within, maybe_within}
use Rattle.sql_check_parts.proofs.SeriesColumns.{within_none}
use Rattle.sql_meaning.specs.Tables.{place_among}
use Rattle.sql_from.specs.Held.{columns_held, tables_held}
use Rattle.sql_from.proofs.SeriesNames.{inner_is}
use Rattle.sql_from.proofs.Sited.{columns_are, inner_nowhere}
use Rattle.sql_from.proofs.sources.SourcesNames.inner_place.Goals as goal

pub returns-in-Some-series : goal.returns-in-Some-series
returns-in-Some-series c =
    let held = c.args.self.now.held in
    let source = c.args.source.now in
    let x = c.args.column.now in
    let own = columns_held c.in-Some.table.now in
    let within = columns_within own (Some c.in-Some-series.series) in
    let same : option_copied c.held-2.result ≡ table_of source.table held = c.held-2.ensures ∙ (λ i. table_of source.table ((c.held.ensures ∙ ap (λ s. s.held) c.self.view_is) i)) in
    let columns : columns_of (tables_held held) source.table ≡ Some own = columns_are held source.table ∙ ap (option_map columns_held) (sym same ∙ ap option_copied c.in-Some.is) in
    let series : source.series ≡ Some c.in-Some-series.series = c.in-Some-series.is in
    let known : columns_from (tables_held held) source ≡ Some within = λ i. maybe_within (series i) (columns i) in
    IfOk-weaker c.place_in_series.result _ _
    (λ place h. h own ∙ ap (λ b. if b then place_among within x.name else length within) c.eq-is_own.ensures ∙ sym (inner_is source.alias x within (columns_from (tables_held held) source) known))
    c.place_in_series.ensures

pub returns-in-None : goal.returns-in-None
returns-in-None c =
    let held = c.args.self.now.held in
    let source = c.args.source.now in
    let x = c.args.column.now in
    let own = columns_held c.in-Some.table.now in
    let same : option_copied c.held-2.result ≡ table_of source.table held = c.held-2.ensures ∙ (λ i. table_of source.table ((c.held.ensures ∙ ap (λ s. s.held) c.self.view_is) i)) in
    let columns : columns_of (tables_held held) source.table ≡ Some own = columns_are held source.table ∙ ap (option_map columns_held) (sym same ∙ ap option_copied c.in-Some.is) in
    let series : source.series ≡ None = c.in-None.is in
    let known : columns_from (tables_held held) source ≡ Some own = λ i. maybe_within (series i) (columns i) in
    c.place_in_table.ensures ∙ ap (λ b. if b then place_among own x.name else length own) c.eq-is_own.ensures ∙ sym (inner_is source.alias x own (columns_from (tables_held held) source) known)

pub returns-in_default : goal.returns-in_default
returns-in_default c =
    let held = c.args.self.now.held in
    let source = c.args.source.now in
    let same : option_copied c.held-2.result ≡ table_of source.table held = c.held-2.ensures ∙ (λ i. table_of source.table ((c.held.ensures ∙ ap (λ s. s.held) c.self.view_is) i)) in
    let columns : columns_of (tables_held held) source.table ≡ None = columns_are held source.table ∙ ap (option_map columns_held) (sym same ∙ ap option_copied c.in_default.is) in
    inner_nowhere source.alias c.args.column.now (columns_from (tables_held held) source) (ap (maybe_within source.series) columns ∙ within_none source.series)
