use Rattle.std.proofs.Common.{◌≡◌, ◌∙◌, IfOk, ap, sym, subst}
use Rattle.std.specs.Option.{option_copied}
use Rattle.vtl_rows.specs.Named.{table_of}
use Rattle.sql_check_parts.specs.Scopes.{Columns}
use Rattle.sql_eval.specs.Origins.{IsSeriesOf}
use Rattle.sql_from.specs.Held.{columns_held}
use Rattle.sql_from.specs.Sources.{or_nothing}
use Rattle.sql_from.proofs.GivenTables.{named_columns}
use Rattle.sql_from.proofs.sources.SourcesNames.series_places.Goals as goal

pub returns : goal.returns
returns c =
    let held = c.args.self.now.held in
    let name = c.args.table.now in
    let same : option_copied c.held-2.result ≡ table_of name held = c.held-2.ensures ∙ (λ i. table_of name ((c.held.ensures ∙ ap (λ s. s.held) c.self.view_is) i)) in
    subst (λ (columns : Columns). IfOk c.series_places.result (IsSeriesOf columns c.args.series.now)) (ap (λ o. columns_held (or_nothing o)) same ∙ sym (named_columns held name)) c.series_places.ensures
