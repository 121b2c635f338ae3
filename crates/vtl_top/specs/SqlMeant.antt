-- The exports of an engine in the words of the dialect: what the SQL script means over its inputs.
use Rattle.std.specs.Prelude.{◌≡◌, List, map, Err, Ok, Some, IsUtf8}
use Rattle.vtl_files.specs.Outside.{bytes_at}
use Rattle.vtl_tree.specs.Environment.{Environment}
use Rattle.vtl_decimal.specs.declared.number.Fault.{Fault}
use Rattle.sql_tree.specs.Texts.{IsScript}
use Rattle.sql_tree.specs.Trees.{ScriptTree}
use Rattle.sql_check_parts.specs.Statements.{Fault as Breach, IsTypedScript, script_fault, script_settings}
use Rattle.sql_meaning.specs.Scripts.{Export, script_value}
use Rattle.vtl_top.specs.Expected.{wanted_step}
use Rattle.vtl_top.specs.SqlInputs.{inputs_wanted, rows_by_name}
use Rattle.vtl_top.specs.SqlRun.{export_file}
use Rattle.vtl_top.specs.Steps.{File, Held, Name, Text}
use Rattle.vtl_top.specs.Words.{Engine}

-- The script is that of the file's text.
pub record IsSqlRead (e : Engine) (held : Held) (script : ScriptTree) : Type 0 where
  pub text : Text
  pub file : bytes_at e.sql held ≡ Some text
  pub utf8 : IsUtf8 text
  pub parsed : IsScript text script

-- It breaks no rule, and these are the data sets of its INPUTs.
pub record IsSqlReady (e : Engine) (held : Held) (script : ScriptTree) (inputs : Environment) : Type 0 where
  pub source : IsSqlRead e held script
  pub typed : IsTypedScript script
  pub read : (wanted_step e.input (script_settings script) (inputs_wanted script)).gives held (Ok inputs)

-- The script gives exports over the rows that were read; and the files are named after the exports, in order, and hold their texts.
pub record IsExported (e : Engine) (held : Held) (files : List File) : Type 0 where
  pub script : ScriptTree
  pub inputs : Environment
  pub exports : List Export
  pub ready : IsSqlReady e held script inputs
  pub means : script_value script (rows_by_name inputs) ≡ Ok exports
  pub written : files ≡ map (export_file e.output (script_settings script)) exports

-- The same up to the meaning, which is a fault: it is this one, in the table with this name up to the first `$`.
pub record IsSqlFaulted (e : Engine) (held : Held) (fault : Fault) (name : Name) : Type 0 where
  pub script : ScriptTree
  pub inputs : Environment
  pub ready : IsSqlReady e held script inputs
  pub means : script_value script (rows_by_name inputs) ≡ Err (fault, name)

-- The script breaks a rule: its first statement that does is this one, and this is the least rule that it breaks.
pub record IsSqlMistyped (e : Engine) (held : Held) (breach : Breach) : Type 0 where
  pub script : ScriptTree
  pub source : IsSqlRead e held script
  pub fault : script_fault script ≡ Some breach
