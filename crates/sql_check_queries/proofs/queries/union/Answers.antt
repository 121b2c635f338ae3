use Rattle.sql_check_queries.proofs.WholeQueries.{union_made}
use Rattle.sql_check_queries.proofs.queries.union.Goals as goal

pub returns : goal.returns
returns c = union_made _ _ _ _ _ _ _ c.in_ok-select.ensures c.in_ok-union.ensures c.in_ok-add_selects.ensures
