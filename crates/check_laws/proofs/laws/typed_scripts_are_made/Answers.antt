use Rattle.check_laws.proofs.Scripts.{script-made, script-reads, script-structures}
use Rattle.check_laws.proofs.laws.typed_scripts_are_made.Goals as goal

pub returns-clause-made : goal.returns-clause-made
returns-clause-made c = script-made

pub returns-clause-structures : goal.returns-clause-structures
returns-clause-structures c = script-structures

pub returns-clause-names : goal.returns-clause-names
returns-clause-names c = script-reads
