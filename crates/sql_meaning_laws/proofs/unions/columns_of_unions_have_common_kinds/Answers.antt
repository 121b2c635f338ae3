use Rattle.sql_meaning_laws.proofs.CommonKinds.{columns_are, kinds_are}
use Rattle.sql_meaning_laws.proofs.unions.columns_of_unions_have_common_kinds.Goals as goal

pub returns-clause-kinds : goal.returns-clause-kinds
returns-clause-kinds c = kinds_are

pub returns-clause-columns : goal.returns-clause-columns
returns-clause-columns c = columns_are
