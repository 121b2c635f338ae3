use Rattle.std.proofs.Common.{◌+◌, ◌∙◌, arith}
use Rattle.vtl_demo.specs.DataSets.{left_point, right_point}
use Rattle.vtl_demo.proofs.Numbered.{one_more}
use Rattle.vtl_demo.proofs.data_sets.fill.Goals as goal

pub loop-before-preserved : goal.loop-before-preserved
loop-before-preserved c =
    let before = c.loop-before.before in
    let l = c.loop-before.invariant in
    record {
      left = c.push_cells.ensures.rows ∙ one_more left_point 1 before (before + 1) c.loop-before.left.rows c.fill_left.new.row.items (omega arith) l.left c.in_ok-fill_left.ensures.point;
      right = c.push_cells-in-loop-before.ensures.rows ∙ one_more right_point 1 before (before + 1) c.loop-before.right.rows c.fill_right.new.row.items (omega arith) l.right c.in_ok-fill_right.ensures.point;
      left_columns = c.push_cells.ensures.columns ∙ l.left_columns;
      right_columns = c.push_cells-in-loop-before.ensures.columns ∙ l.right_columns;
      left_room = omega (arith, l.left_room, c.push_cells.ensures.spare);
      right_room = omega (arith, l.right_room, c.push_cells-in-loop-before.ensures.spare);
      draws = c.in_ok-fill_right.ensures.state;
      none = c.push_cells-in-loop-before.ensures.moved;
    }
