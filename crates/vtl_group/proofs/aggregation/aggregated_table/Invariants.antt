use Rattle.std.proofs.Common.{◌≡◌, filter, map, take}
use Rattle.vtl_cell.specs.Outcome.{faults_by}
use Rattle.vtl_tree.specs.Structure.{columns_of}
use Rattle.vtl_tree.specs.NodeView.{agg_tree}
use Rattle.vtl_tree.specs.Columns.{others_of}
use Rattle.vtl_scalar.specs.Seen.{seen_of}
use Rattle.vtl_sets.specs.TableOf.{table_columns}
use Rattle.vtl_group.proofs.Recipes.{fault_at, kept, keys, point}
use Rattle.vtl_group.proofs.aggregation.aggregated_table.Given as goal

abbrev pub invariant-loop-group : goal.invariant-loop-group
invariant-loop-group l =
    let spec = agg_tree l.spec in
    let xs = columns_of l.a.structure in
    let ys = others_of l.made in
    let d = l.a.points in
    record {
      columns : l.points.table.columns ≡ table_columns l.made;
      rows : l.points.table.rows ≡ map (point l.p spec xs ys d) (filter (kept l.p spec xs ys d) (take l.group (keys l.p spec xs ys d)));
      seen : seen_of l.points.seen ≡ faults_by (fault_at l.p spec xs ys d) (take l.group (keys l.p spec xs ys d));
    }
