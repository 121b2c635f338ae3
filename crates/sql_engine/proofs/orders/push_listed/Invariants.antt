use Rattle.std.proofs.Common.{◌≡◌, ◌++◌, map, take}
use Rattle.vtl_rows.specs.Keys.{key_of}
use Rattle.sql_meaning.specs.Scripts.{sort_key}
use Rattle.sql_meaning.specs.Tables.{column_entry}
use Rattle.sql_engine.proofs.orders.push_listed.Given as goal

abbrev pub invariant-loop-name : goal.invariant-loop-name
invariant-loop-name l = map key_of l.keys.items ≡ map key_of l.initial.keys.items ++ map (sort_key (map column_entry l.columns)) (take l.name-index l.names)
