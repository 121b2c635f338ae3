use Rattle.std.proofs.Common.{◌≡◌, map, take}
use Rattle.joins_to_sql.specs.JoinItems.{column_picked}
use Rattle.joins_to_sql.proofs.join_items.columns_picked.Given as goal

abbrev pub invariant-loop-one : goal.invariant-loop-one
invariant-loop-one l = l.columns.items ≡ map column_picked (take l.one-index l.picked)
