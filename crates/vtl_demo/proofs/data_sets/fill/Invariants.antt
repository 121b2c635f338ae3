use Rattle.std.proofs.Common.{◌≡◌, ◌≤◌, ◌+◌, ◌*◌, []}
use Rattle.vtl_sets.specs.TableOf.{table_columns}
use Rattle.vtl_demo.specs.DataSets.{left_points, left_structure, right_points, right_structure}
use Rattle.vtl_demo.specs.Draws.{state}
use Rattle.vtl_demo.proofs.data_sets.fill.Given as goal

abbrev pub invariant-loop-before : goal.invariant-loop-before
invariant-loop-before l = record {
  left : l.left.rows ≡ left_points l.before;
  right : l.right.rows ≡ right_points l.before;
  left_columns : l.left.columns ≡ table_columns left_structure;
  right_columns : l.right.columns ≡ table_columns right_structure;
  left_room : l.points ≤ l.left.spare + l.before;
  right_room : l.points ≤ l.right.spare + l.before;
  draws : l.draws.state ≡ state (3 * l.before);
  none : l.row.items ≡ [];
}
