use Rattle.grammar_forms.proofs.Scripts.{fault-determined, scripts-unique, whole-no-fault}
use Rattle.sql_tree.specs.Classes.{class}
use Rattle.sql_tree.specs.Grammar.{statement_at}
use Rattle.sql_tree.specs.Texts.{kind, start}
use Rattle.sql_tree.proofs.ScriptLaws.{statement-closed}
use Rattle.sql_tree.proofs.laws.scripts_are_unique.Goals as goal

pub returns-clause-one : goal.returns-clause-one
returns-clause-one c = scripts-unique kind start class statement_at statement-closed 0

pub returns-clause-faults : goal.returns-clause-faults
returns-clause-faults c = fault-determined kind start class statement_at statement-closed 1

pub returns-clause-apart : goal.returns-clause-apart
returns-clause-apart c = whole-no-fault kind start class statement_at statement-closed 1
