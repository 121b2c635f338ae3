use Rattle.std.proofs.Common.{◌≡◌, ◌-◌, ◌≤◌}
use Rattle.vtl_index.specs.GroupedRows.{lookup_of}
use Rattle.vtl_index.specs.Matches.{firsts_by}
use Rattle.vtl_index.specs.RowKeys.{keys_in}
use Rattle.vtl_index.proofs.firsts.firsts_of.Given as goal

abbrev pub invariant-loop-first : goal.invariant-loop-first
invariant-loop-first l = record {
  within : l.first ≤ l.count;
  found : l.firsts.items ≡ firsts_by (lookup_of l.rows) (keys_in l.asked) l.first;
}

abbrev pub decreases-loop-first : goal.decreases-loop-first
decreases-loop-first l = l.count - l.first
