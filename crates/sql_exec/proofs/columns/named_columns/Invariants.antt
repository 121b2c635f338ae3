use Rattle.std.proofs.Common.{◌≡◌, map, take}
use Rattle.std.specs.Prelude.{zip}
use Rattle.sql_meaning.specs.Tables.{column_entry}
use Rattle.sql_exec.proofs.columns.named_columns.Given as goal

abbrev pub invariant-loop-i : goal.invariant-loop-i
invariant-loop-i l = map column_entry l.columns.items ≡ take l.i (zip (map (λ item. item.name) l.items) l.kinds)
