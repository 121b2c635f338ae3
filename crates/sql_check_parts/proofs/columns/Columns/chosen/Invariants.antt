use Rattle.std.proofs.Common.{◌≡◌, take}
use Rattle.sql_check_parts.specs.Scopes.{columns_chosen}
use Rattle.sql_check_parts.proofs.columns.Columns.chosen.Given as goal

abbrev pub invariant-loop-name : goal.invariant-loop-name
invariant-loop-name l = l.columns ≡ columns_chosen l.self (take l.name-index l.names)
