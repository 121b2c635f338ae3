use Rattle.std.proofs.Common.{ap, ◌∙◌}
use Rattle.sql_check_parts.specs.Rules.{lesser}
use Rattle.sql_check_parts.specs.Exists.{equality_breaks}
use Rattle.sql_check_parts.proofs.Least.{least_nil, part_taken}
use Rattle.sql_check_parts.proofs.existence.equalities_fault.Goals as goal

pub loop-equality-init : goal.loop-equality-init
loop-equality-init c = least_nil

pub loop-equality-preserved : goal.loop-equality-preserved
loop-equality-preserved c =
    c.lesser-least.ensures ∙ ap (lesser c.loop-equality.least) c.in_ok-equality_fault.ensures
    ∙ part_taken (equality_breaks c.args.scope.now c.args.group.now c.args.inner.now) c.args.equalities.now c.loop-equality.equality-index c.equality-item.result c.loop-equality.least c.loop-equality-test.true c.equality-item.is c.loop-equality.invariant
