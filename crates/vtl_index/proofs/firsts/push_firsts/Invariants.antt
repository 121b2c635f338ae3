use Rattle.std.proofs.Common.{◌≡◌}
use Rattle.vtl_index.specs.GroupedRows.{lookup_of}
use Rattle.vtl_index.specs.Matches.{firsts_by}
use Rattle.vtl_index.specs.RowKeys.{keys_in}
use Rattle.vtl_index.proofs.firsts.push_firsts.Given as goal

abbrev pub invariant-loop-i : goal.invariant-loop-i
invariant-loop-i l = l.firsts.items ≡ firsts_by (lookup_of l.rows) (keys_in l.asked) l.i
