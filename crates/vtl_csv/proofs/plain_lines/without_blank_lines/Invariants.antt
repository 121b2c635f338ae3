use Rattle.std.proofs.Common.{◌≡◌, length}
use Rattle.csv.specs.Reading.{default_config, records}
use Rattle.vtl_csv.proofs.plain_lines.without_blank_lines.Given as goal

abbrev pub invariant-loop-rest : goal.invariant-loop-rest
invariant-loop-rest l = records default_config l.rest ≡ records default_config l.text

abbrev pub decreases-loop-rest : goal.decreases-loop-rest
decreases-loop-rest l = length l.rest
