use Rattle.vtl_lists.proofs.Perms.{Perm-refl}
use Rattle.sql_check_parts.specs.Queries.{scope_of}
use Rattle.sql_meaning.proofs.Orders.{query_same, second_same, source_rows_same}
use Rattle.sql_meaning.proofs.laws.queries_do_not_see_order.Goals as goal

pub returns-clause-sources : goal.returns-clause-sources
returns-clause-sources c = λ b other s same. source_rows_same b other same s

pub returns-clause-queries : goal.returns-clause-queries
returns-clause-queries c = λ b other q same. query_same b other same q

pub returns-clause-phases : goal.returns-clause-phases
returns-clause-phases c = λ b items s rows other p. second_same b b.rows (λ name. Perm-refl (b.rows name)) (scope_of b.tables s) items s rows other p
