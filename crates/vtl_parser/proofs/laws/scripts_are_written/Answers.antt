use Rattle.vtl_parser.proofs.SpelledTrees.{trees_written}
use Rattle.vtl_parser.proofs.WrittenLemmas.{script_written}
use Rattle.vtl_parser.proofs.laws.scripts_are_written.Goals as goal

pub returns-clause-spelled : goal.returns-clause-spelled
returns-clause-spelled c = script_written

pub returns-clause-written : goal.returns-clause-written
returns-clause-written c = trees_written
