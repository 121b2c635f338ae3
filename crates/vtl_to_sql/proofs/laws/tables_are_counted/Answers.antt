use Rattle.std.proofs.Common.{arith}
use Rattle.selects_to_sql.specs.Tables.{first_number}
use Rattle.vtl_to_sql.proofs.AcceptedTables.{made_counted}
use Rattle.vtl_to_sql.proofs.laws.tables_are_counted.Goals as goal

pub returns-clause-counted : goal.returns-clause-counted
returns-clause-counted c = made_counted

pub returns-clause-few : goal.returns-clause-few
returns-clause-few c = λ p s h. omega (arith, h, made_counted p s.result s.node first_number)
