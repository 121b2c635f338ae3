use Rattle.std.proofs.Common.{ap, ◌∙◌}
use Rattle.sql_check_parts.specs.Rules.{lesser}
use Rattle.sql_check_parts.proofs.Least.{least_nil, tests_taken}
use Rattle.sql_check_parts.proofs.rules.least_broken.Goals as goal

pub loop-test-init : goal.loop-test-init
loop-test-init c = least_nil

pub loop-test-preserved : goal.loop-test-preserved
loop-test-preserved c =
    c.lesser-least.ensures ∙ ap (lesser c.loop-test.least) c.if_broken.ensures
    ∙ tests_taken c.args.tests.now c.loop-test.test-index c.test-item.result c.loop-test.least c.loop-test-test.true c.test-item.is c.loop-test.invariant
