use Rattle.sql_meaning.proofs.QueryKinds.{query_fit}
use Rattle.sql_meaning.proofs.SourceKinds.{if_ok, source_rows_fit}
use Rattle.sql_check_parts.specs.Queries.{query_columns, scope_of}
use Rattle.sql_check_parts.specs.Scopes.{row_of}
use Rattle.sql_meaning.specs.From.{source_rows}
use Rattle.sql_meaning.specs.Selects.{query_value}
use Rattle.sql_meaning.specs.Tables.{RowsFit, kinds_of}
use Rattle.sql_meaning.proofs.laws.typed_queries_fit.Goals as goal

pub returns-clause-sources : goal.returns-clause-sources
returns-clause-sources c = λ b s fit typed. if_ok (source_rows b s) (RowsFit (row_of (scope_of b.tables s))) (λ rows is. source_rows_fit b fit s rows typed is)

pub returns-clause-queries : goal.returns-clause-queries
returns-clause-queries c = λ b q fit typed. if_ok (query_value b q) (RowsFit (kinds_of (query_columns b.tables q))) (λ rows is. query_fit b fit q rows typed is)
