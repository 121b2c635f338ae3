use Rattle.std.proofs.Common.{ap, ◌∙◌}
use Rattle.sql_check_parts.specs.Rules.{lesser}
use Rattle.sql_check_parts.specs.Windows.{column_breaks}
use Rattle.sql_check_parts.proofs.Least.{least_nil, part_taken}
use Rattle.sql_check_parts.proofs.windows.columns_fault.Goals as goal

pub loop-column-init : goal.loop-column-init
loop-column-init c = least_nil

pub loop-column-preserved : goal.loop-column-preserved
loop-column-preserved c =
    c.lesser-least.ensures ∙ ap (lesser c.loop-column.least) c.in_ok-column_fault.ensures
    ∙ part_taken (column_breaks c.args.scope.now c.args.group.now) c.args.columns.now c.loop-column.column-index c.column-item.result c.loop-column.least c.loop-column-test.true c.column-item.is c.loop-column.invariant
