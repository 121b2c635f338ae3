use Rattle.std.proofs.Common.{◌≡◌, ◌∙◌, [], Some, ap, if◌then◌else◌, length, sym}
use Rattle.std.specs.List.{fold}
use Rattle.sql_check_parts.specs.Scopes.{Columns, columns_within, numbered}
use Rattle.sql_check_parts.specs.Scopes.{series_names}
use Rattle.sql_meaning.specs.Tables.{place_among}
use Rattle.sql_from.specs.Columns.{and_number}
use Rattle.sql_from.proofs.SeriesNames.{number_count, series_numbered}
use Rattle.sql_from.proofs.series_names.place_in_series.Goals as goal

pub returns-then-is_own : goal.returns-then-is_own
returns-then-is_own c columns =
    let within = columns_within columns (Some c.args.series.now) in
    let name = c.args.name.now in
    let numbers : c.in_ok-numbers.numbers ≡ numbered 0 within = c.in_ok-numbers.ensures ∙ ap (fold and_number []) (c.deref.ensures.value ∙ c.in_ok-names.ensures) ∙ series_numbered columns c.args.series.now in
    c.number_of.ensures within numbers ∙ sym (ap (λ b. if b then place_among within name else length within) c.if-is_own.true)

pub returns : goal.returns
returns c columns =
    let within = columns_within columns (Some c.args.series.now) in
    let name = c.args.name.now in
    let numbers : c.in_ok-numbers.numbers ≡ numbered 0 within = c.in_ok-numbers.ensures ∙ ap (fold and_number []) (c.deref.ensures.value ∙ c.in_ok-names.ensures) ∙ series_numbered columns c.args.series.now in
    c.len.ensures ∙ ap (λ l. length l) numbers ∙ number_count 0 within ∙ sym (ap (λ b. if b then place_among within name else length within) c.if-is_own.false)
