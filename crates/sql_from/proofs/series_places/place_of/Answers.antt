use Rattle.std.proofs.Common.{◌≡◌, ◌∙◌, ap, length, sym}
use Rattle.std.specs.Option.{option_map}
use Rattle.std.specs.Prelude.{unwrap_or}
use Rattle.std.proofs.lemmas.List.{length-map}
use Rattle.sql_meaning.specs.Tables.{column_entry}
use Rattle.sql_from.specs.Held.{columns_held}
use Rattle.sql_from.proofs.SeriesNames.{number_is}
use Rattle.sql_from.proofs.series_places.place_of.Goals as goal

pub returns-in-Some : goal.returns-in-Some
returns-in-Some c =
    let own = columns_held c.args.table.now in
    ap (λ o. unwrap_or o (length own)) (ap (option_map (λ k. k.place)) (sym c.in-Some.is) ∙ c.column.ensures.place) ∙ number_is own c.args.name.now

pub returns-in-None : goal.returns-in-None
returns-in-None c =
    let table = c.args.table.now in
    let own = columns_held table in
    ap (λ l. length l) (c.columns.ensures.columns ∙ ap (λ t. t.columns) c.table.ensures) ∙ sym (length-map table.columns column_entry)
    ∙ ap (λ o. unwrap_or o (length own)) (ap (option_map (λ k. k.place)) (sym c.in-None.is) ∙ c.column.ensures.place) ∙ number_is own c.args.name.now
