-- The status of a file that was not read, or does not hold what it should.
use Rattle.std.specs.Prelude.{◌≡◌, ◌⊎◌, List, ℕ, chars, Result, Ok, Err, IsUtf8, String, string_bytes}
use Rattle.std.specs.Global.{Global}
use Rattle.vtl_files.specs.declared.read_err.ReadErr.{ReadErr}
use Rattle.vtl_files.specs.declared.read_err.ReadErr.TheVariants as e
use Rattle.vtl_parser.specs.declared.parsing.ParseErr.{ParseErr}
use Rattle.vtl_parser.specs.declared.parsing.ParseErr.TheVariants as parse
use Rattle.vtl_parser.specs.Parsed.{IsFaulty, IsScript}
use Rattle.vtl_syntax.specs.View.{script_tree}
use Rattle.vtl_syntax.specs.declared.statements.Script.{Script}
use Rattle.vtl_cell.specs.Row.{Row}
use Rattle.vtl_rows.specs.Tables.{Tabled, listed}
use Rattle.vtl_scalar.specs.declared.run_error.RunErr.{RunErr}
use Rattle.vtl_scalar.specs.declared.run_error.RunErr.TheVariants as run
use Rattle.vtl_tree.specs.declared.structure.Structure.{Structure}
use Rattle.vtl_sets.specs.TableOf.{IsTableOf}
use Rattle.vtl_csv.specs.InputFile.{Fault}
use Rattle.sql_tree.specs.Texts as texts
use Rattle.sql_tree.specs.View.{script_tree as sql_tree}
use Rattle.sql_tree.specs.declared.statements.SqlScript.{SqlScript}
use Rattle.sql_parser.specs.declared.parsing.SqlErr.{SqlErr}
use Rattle.sql_parser.specs.declared.parsing.SqlErr.TheVariants as sql
use Rattle.sql_check.specs.declared.error.SqlTypeErr.{SqlTypeErr}
use Rattle.sql_check.specs.declared.error.SqlTypeErr.TheVariants as typed
use Rattle.vtl_csv.specs.declared.input.InputErr.{InputErr}
use Rattle.vtl_csv.specs.declared.input.InputErr.TheVariants as input
use Rattle.vtl_top.specs.Expected.{points_or_fault}
use Rattle.vtl_format.specs.Formed.{IsFormed}
use Rattle.vtl_status.specs.declared.status.Status.{Status}
use Rattle.vtl_status.specs.declared.status.Status.TheVariants as st

-- this status, or want of memory
abbrev pub IsOrMemory : Status → Status → Type 0
IsOrMemory wanted status = (status ≡ st.Memory) ⊎ (status ≡ wanted)

-- what an error at the path of this name is
abbrev pub refusal_of : List ℕ → ReadErr → Status
refusal_of path e.Absent = st.NoFile path
refusal_of path e.TooLong = st.TooLong path
refusal_of path e.Failed = st.ReadFault path
refusal_of path e.OutOfMemory = st.Memory

-- what an error in the file of a data set is
abbrev pub input_refusal : List ℕ → InputErr → Status
input_refusal name (input.Fault line column kind) = st.Input name line column kind
input_refusal name input.OutOfMemory = st.Memory

-- the table of a data set of this structure whose points are its rows, or the fault of its file, or want of memory
abbrev pub IsTableRead : List ℕ → Structure → Result (List Row) Fault → Result Tabled Status → Type 0
IsTableRead name s read (Ok t) = IsTableOf s (listed t) × (points_or_fault name read ≡ Ok t.rows)
IsTableRead name s read (Err status) = (status ≡ st.Memory) ⊎ (points_or_fault name read ≡ Err status)

-- the status of a run that gave no tables, or no exports
abbrev pub faulted : RunErr → Status
faulted (run.DivZero name) = st.DivZero name
faulted (run.Range name) = st.Range name
faulted run.OutOfMemory = st.Memory

-- the fault of a text
abbrev pub fault_of : ParseErr → Status
fault_of (parse.Syntax done byte) = st.Syntax done byte
fault_of parse.OutOfMemory = st.Memory

-- the script that a text is, or its fault, or want of memory
abbrev pub IsScriptOfText : List ℕ → Result Script Status → Type 0
IsScriptOfText text (Ok script) = IsScript text (script_tree script)
IsScriptOfText text (Err status) = (status ≡ st.Memory) ⊎ ((done byte : ℕ) × IsFaulty text done byte × (status ≡ st.Syntax done byte))

-- the same of the bytes of the file at this path, which may be no text
abbrev pub IsScriptOf : List ℕ → List ℕ → Result Script Status → Type 0
IsScriptOf path bytes (Ok script) = IsUtf8 bytes × IsScript bytes (script_tree script)
IsScriptOf path bytes (Err status) =
    (status ≡ st.Memory) ⊎ (((¬ IsUtf8 bytes) × (status ≡ st.NotText (chars path))) ⊎ ((done byte : ℕ) × IsUtf8 bytes × IsFaulty bytes done byte × (status ≡ st.Syntax done byte)))

-- the canonical text of the script that a text is, or its fault, or want of memory
abbrev pub IsFormOfText : List ℕ → Result (String Global) Status → Type 0
IsFormOfText text (Ok form) = IsFormed text (string_bytes form)
IsFormOfText text (Err status) = (status ≡ st.Memory) ⊎ ((done byte : ℕ) × IsFaulty text done byte × (status ≡ st.Syntax done byte))

-- the canonical text of the script that the bytes of the file at this path are; they may be no text, or no script
abbrev pub IsFormIn : List ℕ → List ℕ → Result (String Global) Status → Type 0
IsFormIn path bytes (Ok form) = IsUtf8 bytes × IsFormed bytes (string_bytes form)
IsFormIn path bytes (Err status) =
    (status ≡ st.Memory) ⊎ (((¬ IsUtf8 bytes) × (status ≡ st.NotText (chars path))) ⊎ ((done byte : ℕ) × IsUtf8 bytes × IsFaulty bytes done byte × (status ≡ st.Syntax done byte)))

-- the fault of an SQL text
abbrev pub sql_fault_of : SqlErr → Status
sql_fault_of (sql.Syntax done byte) = st.SqlSyntax done byte
sql_fault_of sql.OutOfMemory = st.Memory

-- the script that an SQL text is, or its fault, or want of memory
abbrev pub IsSqlOfText : List ℕ → Result SqlScript Status → Type 0
IsSqlOfText text (Ok script) = texts.IsScript text (sql_tree script)
IsSqlOfText text (Err status) = (status ≡ st.Memory) ⊎ ((done byte : ℕ) × texts.IsFaulty text done byte × (status ≡ st.SqlSyntax done byte))

-- the same of the bytes of the file at this path, which may be no text
abbrev pub IsSqlOf : List ℕ → List ℕ → Result SqlScript Status → Type 0
IsSqlOf path bytes (Ok script) = IsUtf8 bytes × texts.IsScript bytes (sql_tree script)
IsSqlOf path bytes (Err status) =
    (status ≡ st.Memory) ⊎ (((¬ IsUtf8 bytes) × (status ≡ st.NotText (chars path))) ⊎ ((done byte : ℕ) × IsUtf8 bytes × texts.IsFaulty bytes done byte × (status ≡ st.SqlSyntax done byte)))

-- the status of an SQL script that is not typed
abbrev pub sql_mistyped : SqlTypeErr → Status
sql_mistyped (typed.Mistyped statement rule) = st.SqlType statement rule
sql_mistyped typed.OutOfMemory = st.Memory

-- what is settled, as it is seen, or want of memory
abbrev pub SettlesBy : {A X : Type 0} → (X → A) → Result A Status → Result X Status → Type 0
SettlesBy view wanted (Ok x) = wanted ≡ Ok (view x)
SettlesBy view wanted (Err status) = (status ≡ st.Memory) ⊎ (wanted ≡ Err status)

abbrev pub Settles : {A : Type 0} → Result A Status → Result A Status → Type 0
Settles = SettlesBy (λ x. x)
