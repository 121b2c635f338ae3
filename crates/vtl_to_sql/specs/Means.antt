-- What it is for the tables of statements and scripts to mean them.
use Rattle.std.specs.Prelude.{◌≡◌, ◌+◌, ◌<◌, ◌^◌, false, true, List, [], ◌∷◌, ◌++◌, length, Result, Ok, Err}
use Rattle.std.specs.List.{AllByRecursion}
use Rattle.vtl_decimal.specs.Settings.{Settings}
use Rattle.vtl_text.specs.Texts.{same_text}
use Rattle.vtl_text.specs.Words.{is_word}
use Rattle.vtl_scripts.specs.Meaning.{Outputs, Statement}
use Rattle.sql_meaning.specs.Scripts.{Data, NamedFault, tables_in}
use Rattle.selects_to_sql.specs.Runs.{AreLawful, run}
use Rattle.selects_to_sql.specs.Tables.{Table, first_number}
use Rattle.vtl_to_sql.specs.Tables.{made_of}
use Rattle.selects_to_sql.specs.Means.{StandsAs, IsApartFrom}

-- each result has a name that no table of a data set or of another result has, and few tables
abbrev pub AreNamed : Settings → Data → List Statement → Type 0
AreNamed p before [] = Unit {0}
AreNamed p before (s ∷ ss) =
    (is_word s.result ≡ true)
    × IsApartFrom s.result before
    × AllByRecursion (λ t. same_text t.result s.result ≡ false) ss
    × (1 + length (made_of p s.result s.node first_number).tables < 2 ^ 64)
    × AreNamed p before ss

-- each output has a table
abbrev pub AreStored : Data → Outputs → Type 0
AreStored now outputs = AllByRecursion (λ o. StandsAs now o.0 o.1.structure o.1.points) outputs

-- the tables of a script leave those before as they are, break no rule and hold the outputs, or the first that has a fault has the
-- script's
pub record Stores (p : Settings) (before : Data) (tables : List Table) (outputs : Outputs) : Type 0 where
  pub more : Data
  pub ran : run p before tables ≡ Ok (before ++ more)
  pub lawful : AreLawful p (tables_in before) tables
  pub stored : AreStored (before ++ more) outputs

abbrev pub ScriptGives : Settings → Data → List Table → Result Outputs NamedFault → Type 0
ScriptGives p before tables (Ok outputs) = Stores p before tables outputs
ScriptGives p before tables (Err fault) = run p before tables ≡ Err fault
