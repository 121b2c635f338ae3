use Rattle.vtl_to_sql.proofs.LawfulScripts.{script_is_printable, script_is_typed}
use Rattle.vtl_to_sql.proofs.laws.translated_scripts_are_lawful.Goals as goal

pub returns-clause-typed : goal.returns-clause-typed
returns-clause-typed c = script_is_typed

pub returns-clause-printable : goal.returns-clause-printable
returns-clause-printable c = script_is_printable
