use Rattle.vtl_csv.proofs.PlainLemmas.{plain_columns_same, plain_rows_same}
use Rattle.vtl_csv.proofs.input_laws.reading_asks_for_identifiers_alone.Goals as goal

pub returns-clause-rows : goal.returns-clause-rows
returns-clause-rows c p s t not_null text ok good e = plain_rows_same p s t not_null text ok good e

pub returns-clause-columns : goal.returns-clause-columns
returns-clause-columns c s t e = plain_columns_same s t e
