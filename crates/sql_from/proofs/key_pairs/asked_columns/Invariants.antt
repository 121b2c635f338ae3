use Rattle.std.proofs.Common.{◌≡◌, take}
use Rattle.sql_from.specs.Keys.{asked_columns}
use Rattle.sql_from.proofs.key_pairs.asked_columns.Given as goal

abbrev pub invariant-loop-key : goal.invariant-loop-key
invariant-loop-key l = l.columns.items ≡ asked_columns (take l.key-index l.keys)
