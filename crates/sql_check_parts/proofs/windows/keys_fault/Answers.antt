use Rattle.std.proofs.Common.{ap, ◌∙◌}
use Rattle.sql_check_parts.specs.Rules.{lesser}
use Rattle.sql_check_parts.specs.Windows.{key_breaks}
use Rattle.sql_check_parts.proofs.Least.{least_nil, part_taken}
use Rattle.sql_check_parts.proofs.windows.keys_fault.Goals as goal

pub loop-key-init : goal.loop-key-init
loop-key-init c = least_nil

pub loop-key-preserved : goal.loop-key-preserved
loop-key-preserved c =
    c.lesser-least.ensures ∙ ap (lesser c.loop-key.least) c.in_ok-column_fault.ensures
    ∙ part_taken (key_breaks c.args.scope.now c.args.group.now) c.args.keys.now c.loop-key.key-index c.key-item.result c.loop-key.least c.loop-key-test.true c.key-item.is c.loop-key.invariant
