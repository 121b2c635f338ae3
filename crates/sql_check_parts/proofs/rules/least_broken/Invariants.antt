use Rattle.std.proofs.Common.{◌≡◌, take}
use Rattle.sql_check_parts.specs.Rules.{broken, least}
use Rattle.sql_check_parts.proofs.rules.least_broken.Given as goal

abbrev pub invariant-loop-test : goal.invariant-loop-test
invariant-loop-test l = l.least ≡ least (broken (take l.test-index l.tests))
