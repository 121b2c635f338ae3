use Rattle.std.proofs.Common.{ap, cond, map, true, ◌∙◌}
use Rattle.std.specs.Ordering.{is_eq}
use Rattle.sql_check_parts.specs.Scopes.{column_name, column_order}
use Rattle.sql_check_parts.proofs.Grouped.{column_taken, is_column_among, same_group}
use Rattle.sql_check_parts.proofs.Maps.{taken_whole}
use Rattle.sql_check_parts.proofs.grouping.Grouping.of.Goals as goal

pub loop-column-preserved : goal.loop-column-preserved
loop-column-preserved c =
    column_taken c.loop-column.group.keys _ c.args.columns.now c.loop-column.column-index c.column-item.result c.loop-column-test.true c.column-item.is c.loop-column.invariant
    (λ name. c.in_ok-insert.ensures.updates.0 name ∙ ap (λ k. cond (is_eq (column_order k name)) true (is_column_among name c.loop-column.group.keys)) c.in_ok-column_name.ensures)

pub returns : goal.returns
returns c =
    same_group c.loop-column.group.keys c.args.columns.now
    (λ name. c.loop-column.invariant name ∙ ap (λ cs. is_column_among name (map column_name cs)) (taken_whole c.args.columns.now c.loop-column.column-index c.loop-column-test.false))
