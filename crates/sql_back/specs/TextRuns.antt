-- What is asked where a text is run, and what a run of it gives.
use Rattle.std.specs.Prelude.{◌≡◌, ℕ, List, Result, Ok, Err}
use Rattle.vtl_decimal.specs.declared.number.Fault.TheVariants.{DivZero, Range}
use Rattle.vtl_rows.specs.Named.{NamedTables}
use Rattle.sql_tree.specs.Texts.{IsScript}
use Rattle.sql_tree.specs.Trees.{ScriptTree}
use Rattle.sql_engine.specs.InputTables.{AreInputsInRange, HaveInputTables, rows_given}
use Rattle.sql_engine.specs.Runs.{ShowsMeaning}
use Rattle.sql_meaning.specs.Scripts.{Export, NamedFault, script_value}
use Rattle.sql_check_parts.specs.Statements.{IsTypedScript, script_settings}
use Rattle.vtl_scalar.specs.declared.run_error.RunErr.{RunErr}
use Rattle.vtl_scalar.specs.declared.run_error.RunErr.TheVariants as err

-- the text spells a script that breaks no rule, and each of its INPUTs has a table whose rows fit it and whose
-- integers are of the script's profile
pub record CanRun (text : List ℕ) (inputs : NamedTables) : Type 0 where
  pub script : ScriptTree
  pub spelled : IsScript text script
  pub typed : IsTypedScript script
  pub there : HaveInputTables inputs script
  pub in_range : AreInputsInRange (script_settings script) inputs script

-- The answer tells the meaning: the tables are the exports, or the fault is the one that it says, with its name. Where there is a fault
-- or want of memory the tables are as before.
abbrev pub TellsText : Result (List Export) NamedFault → (before now : NamedTables) → Result (Unit {0}) RunErr → Type 0
TellsText meant before now (Ok done) = ShowsMeaning meant now
TellsText meant before now (Err (err.DivZero name)) = (meant ≡ Err (DivZero, name)) × (now ≡ before)
TellsText meant before now (Err (err.Range name)) = (meant ≡ Err (Range, name)) × (now ≡ before)
TellsText meant before now (Err err.OutOfMemory) = now ≡ before

-- a run of whatever script the text spells, over the tables of its inputs, with the tables before it and behind it
abbrev pub RunsText : List ℕ → NamedTables → (before now : NamedTables) → Result (Unit {0}) RunErr → Type 0
RunsText text inputs before now result = (script : ScriptTree) → IsScript text script → TellsText (script_value script (rows_given inputs)) before now result
