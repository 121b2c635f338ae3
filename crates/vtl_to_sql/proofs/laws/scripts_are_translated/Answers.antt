use Rattle.vtl_to_sql.proofs.TranslatedScripts.{script_means}
use Rattle.vtl_to_sql.proofs.laws.scripts_are_translated.Goals as goal

pub returns : goal.returns
returns c = λ p ls reads ss env inputs script same sets ranged rows. script_means p ls reads ss script env same sets ranged inputs rows
