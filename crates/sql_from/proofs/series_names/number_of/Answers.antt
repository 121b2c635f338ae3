use Rattle.std.proofs.Common.{◌≡◌, ◌∙◌, ap, length, sym}
use Rattle.std.specs.Option.{option_copied}
use Rattle.std.specs.Prelude.{unwrap_or}
use Rattle.sql_check_parts.specs.Scopes.{value_among}
use Rattle.sql_from.proofs.SeriesNames.{number_count, number_is}
use Rattle.sql_from.proofs.series_names.number_of.Goals as goal

pub returns-in-Some : goal.returns-in-Some
returns-in-Some c columns is =
    let name = c.args.name.now in
    ap (λ o. unwrap_or o (length columns)) (ap option_copied (sym c.in-Some.is) ∙ c.get.ensures ∙ ap (λ numbers. value_among numbers name) is) ∙ number_is columns name

pub returns-in-None : goal.returns-in-None
returns-in-None c columns is =
    let name = c.args.name.now in
    c.len.ensures ∙ ap (λ l. length l) is ∙ number_count 0 columns
    ∙ ap (λ o. unwrap_or o (length columns)) (ap option_copied (sym c.in-None.is) ∙ c.get.ensures ∙ ap (λ numbers. value_among numbers name) is) ∙ number_is columns name
