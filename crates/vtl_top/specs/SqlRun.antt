-- What an SQL file and the files that are held give: the exports of its script, or the first refusal.
use Rattle.std.specs.Prelude.{List, map, Option, Some, None, Result, Ok, Err, chars}
use Rattle.vtl_files.specs.Outside.{bytes_at}
use Rattle.vtl_decimal.specs.Settings.{Settings}
use Rattle.vtl_rows.specs.Tables.{Listed}
use Rattle.vtl_csv.specs.TableText.{rows_text}
use Rattle.sql_tree.specs.Trees.{ScriptTree}
use Rattle.sql_check_parts.specs.Rules.{number_of}
use Rattle.sql_check_parts.specs.Statements.{Fault, script_fault, script_settings}
use Rattle.sql_meaning.specs.Scripts.{Export, NamedFault, script_value}
use Rattle.sql_engine.specs.Exported.{shown}
use Rattle.vtl_top.specs.SqlInputs.{inputs_wanted, rows_by_name}
use Rattle.vtl_top.specs.Expected.{fault_status, file_in, wanted_step}
use Rattle.vtl_top.specs.ScriptFile.{IsSqlParsed, Parsed, faulty, no_text, whole}
use Rattle.vtl_top.specs.Steps.{File, Name, Path, Step, Text, ◌>>=◌, looked, read_as, settled}
use Rattle.vtl_top.specs.Words.{Engine}
use Rattle.vtl_status.specs.declared.status.Status.{Status}
use Rattle.vtl_status.specs.declared.status.Status.TheVariants as st

-- ---- the script
-- all bytes of a file, however many
abbrev pub present : Path → Option Text → Result Text Status
present path None = Err (st.NoFile (chars path))
present path (Some bytes) = Ok bytes

abbrev pub read_whole : Path → Step Text
read_whole path = looked (λ held. present path (bytes_at path held)) path

-- the tree of an SQL file, by what it is read as
abbrev pub sql_in : Path → Parsed ScriptTree → Result ScriptTree Status
sql_in path no_text = Err (st.NotText (chars path))
sql_in path (faulty done byte) = Err (st.SqlSyntax done byte)
sql_in path (whole script) = Ok script

abbrev pub sql_of : Path → Text → Step ScriptTree
sql_of path bytes = read_as (IsSqlParsed bytes) (sql_in path)

abbrev pub sql_step : Path → Step ScriptTree
sql_step path = read_whole path >>= sql_of path

-- the status of the first statement that breaks a rule
abbrev pub sql_typing : Option Fault → Result (Unit {0}) Status
sql_typing None = Ok tt
sql_typing (Some fault) = Err (st.SqlType fault.0 (number_of fault.1))

-- ---- the exports
-- the file of a table in a folder: a header of the names of its columns, and then its rows as they stand
abbrev pub table_file : Path → Settings → Name × Listed → File
table_file folder p t = (file_in folder t.0, rows_text p t.1.columns t.1.rows)

abbrev pub export_file : Path → Settings → Export → File
export_file folder p e = table_file folder p (shown e)

-- the files of all exports, in order, or the status of the fault
abbrev pub exports_of : Path → Settings → Result (List Export) NamedFault → Result (List File) Status
exports_of folder p (Ok exports) = Ok (map (export_file folder p) exports)
exports_of folder p (Err fault) = Err (fault_status fault.0 fault.1)

-- ---- the whole
-- a script of an SQL file that is typed
abbrev pub sql_checked_step : Path → Step ScriptTree
sql_checked_step path =
    sql_step path >>= λ tree.
    settled (sql_typing (script_fault tree)) >>= λ typed.
    settled (Ok tree)

-- what an engine makes: the files of the exports. Inputs are read, and exports written, with the settings of SET.
abbrev pub engine_step : Engine → Step (List File)
engine_step e =
    sql_checked_step e.sql >>= λ tree.
    wanted_step e.input (script_settings tree) (inputs_wanted tree) >>= λ env.
    settled (exports_of e.output (script_settings tree) (script_value tree (rows_by_name env)))
