-- The text of a script in SQL.
use Rattle.std.specs.Prelude.{◌≡◌, ℕ, List, [], ◌∷◌, map, Option, Some, IsUtf8}
use Rattle.vtl_decimal.specs.Settings.{Settings}
use Rattle.vtl_tree.specs.NotNull.{NotNull}
use Rattle.vtl_tree.specs.Structures.{Named}
use Rattle.sql_tree.specs.Texts.{IsScript}
use Rattle.sql_tree.specs.Trees as tree
use Rattle.sql_tree.specs.Trees.{ScriptTree, StatementTree}
use Rattle.sql_tree.specs.declared.statements.SqlInput.{SqlInput}
use Rattle.sql_meaning.specs.Scripts.{Inputs, script_value}
use Rattle.sql_check_parts.specs.Statements.{IsTypedScript, script_settings}
use Rattle.vtl_check.specs.Checked.{TypedScript}
use Rattle.vtl_backend.specs.Inputs.{inputs_of}
use Rattle.vtl_meaning.specs.Profiles.{AllAreOfProfile}
use Rattle.vtl_scripts.specs.Meaning.{Statement, meaning}
use Rattle.vtl_backend.specs.Statements.{statements_of}
use Rattle.vtl_to_sql.specs.Exports.{exported_as}
use Rattle.vtl_to_sql.specs.Inputs.{AreTaken, sets_read}
use Rattle.vtl_to_sql.specs.Scripts.{input_of}

-- the INPUT statements, in order
abbrev pub inputs_in : List StatementTree → List SqlInput
inputs_in [] = []
inputs_in (tree.input s ∷ ss) = s ∷ inputs_in ss
inputs_in (other ∷ ss) = inputs_in ss

-- The text of a script in SQL.
pub record IsTextFor (p : Settings) (ls : NotNull) (reads : Named) (ss : List Statement) (text : List ℕ) : Type 0 where
  pub script : ScriptTree
  -- the text is UTF-8, and spells this script, and no other
  pub utf8 : IsUtf8 text
  pub spelled : IsScript text script
  pub alone : (other : ScriptTree) → IsScript text other → other ≡ script
  -- it breaks no rule
  pub typed : IsTypedScript script
  -- it sets these settings, and reads these data sets: an INPUT for each, in order, whose components on the lists are never null
  pub settings : script_settings script ≡ p
  pub inputs : inputs_in script ≡ map (input_of ls) reads
  -- over all rows of the profile that its INPUTs take, it exports the outputs that the statements mean, or has their fault with its name
  pub means : (inputs : Inputs) → AreTaken inputs ls reads → AllAreOfProfile p (sets_read inputs reads) → script_value script inputs ≡ exported_as (meaning p ss (sets_read inputs reads))

-- the text of a typed script
abbrev pub IsTextOf : TypedScript → List ℕ → Type 0
IsTextOf t text = IsTextFor t.settings t.not_null (inputs_of t) (statements_of t) text

-- there is a text, and it is that of the script
abbrev pub HasTextOf : TypedScript → Option (List ℕ) → Type 0
HasTextOf t last = (text : List ℕ) × (last ≡ Some text) × IsTextOf t text
