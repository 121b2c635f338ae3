-- What the words and the files that are held give: the outputs of the run or the text in SQL, or the first refusal.
use Rattle.std.specs.Prelude.{ℕ, List, [], ◌∷◌, ◌++◌, length, map, nat_lt, Option, Some, None, Result, Ok, Err, codes, chars, encode_utf8_all, if◌then◌else◌}
use Rattle.vtl_files.specs.Outside.{bytes_at}
use Rattle.vtl_decimal.specs.declared.number.Fault.TheVariants.{DivZero, Range}
use Rattle.vtl_decimal.specs.declared.number.Fault.{Fault as EvaluationFault}
use Rattle.vtl_cell.specs.Row.{Row}
use Rattle.vtl_decimal.specs.Settings.{Settings}
use Rattle.vtl_syntax.specs.Trees.{ScriptTree}
use Rattle.vtl_tree.specs.Environment.{DataSet, Environment}
use Rattle.vtl_tree.specs.NotNull.{Declared, NotNull}
use Rattle.vtl_tree.specs.Structures.{Named}
use Rattle.vtl_tree.specs.Trees.{NodeTree}
use Rattle.vtl_scripts.specs.Meaning.{Outputs, Statement, meaning}
use Rattle.vtl_backend.specs.Statements.{with_nodes}
use Rattle.vtl_check.specs.Transformations.{transformations}
use Rattle.vtl_tree.specs.declared.structure.Structure.{Structure}
use Rattle.vtl_csv.specs.CsvText.{csv_of}
use Rattle.vtl_csv.specs.InputFile.{Fault, dataset_rows}
use Rattle.vtl_csv.specs.declared.structures.Declared.{Declared as Whole}
use Rattle.vtl_check.specs.Checked.{env_over}
use Rattle.vtl_check.specs.Script.{script_typed}
use Rattle.vtl_check.specs.Uses.{reads}
use Rattle.sql_back.specs.Texts.{IsTextFor}
use Rattle.vtl_top.specs.ScriptFile.{IsFormatted, IsParsed, Parsed, faulty, no_text, whole}
use Rattle.vtl_top.specs.Steps.{File, Held, Name, Path, Step, Text, ◌>>=◌, looked, read_as, settled}
use Rattle.vtl_top.specs.Structures.{structures_in}
use Rattle.vtl_top.specs.Wanted.{Placed, Wanted, all_in, all_wanted_with, entry_of}
use Rattle.vtl_top.specs.Words.{Run, Source, settings_for}
use Rattle.vtl_status.specs.declared.status.Status.{Status}
use Rattle.vtl_status.specs.declared.status.Status.TheVariants as st

-- the file of a data set in a folder
abbrev pub file_in : Path → Name → Path
file_in folder name = folder ++ codes "/" ++ encode_utf8_all name ++ codes ".csv"

-- the most bytes of a file of each sort
abbrev pub script_limit : ℕ
script_limit = 65536

abbrev pub structures_limit : ℕ
structures_limit = 4194304

abbrev pub csv_limit : ℕ
csv_limit = 67108864

-- the bytes of a file
abbrev pub sized : Path → ℕ → Option Text → Result Text Status
sized path limit None = Err (st.NoFile (chars path))
sized path limit (Some bytes) = if nat_lt limit (length bytes) then Err (st.TooLong (chars path)) else Ok bytes

abbrev pub content : Path → ℕ → Held → Result Text Status
content path limit held = sized path limit (bytes_at path held)

-- ---- the steps of a run
-- the bytes of a file
abbrev pub read : Path → ℕ → Step Text
read path limit = looked (content path limit) path

-- the script of a file, by what it is read as
abbrev pub script_in : {A : Type 0} → Path → Parsed A → Result A Status
script_in path no_text = Err (st.NotText (chars path))
script_in path (faulty done byte) = Err (st.Syntax done byte)
script_in path (whole script) = Ok script

abbrev pub script_of : Path → Text → Step ScriptTree
script_of path bytes = read_as (IsParsed bytes) (script_in path)

abbrev pub script_step : Path → Step ScriptTree
script_step path = read path script_limit >>= script_of path

-- the canonical text of the script of a file; it is said whole
abbrev pub form_of : Path → Text → Step Text
form_of path bytes = read_as (IsFormatted bytes) (script_in path)

abbrev pub format_step : Path → Step Text
format_step path = read path script_limit >>= form_of path

-- ---- the inputs
-- the points that a file holds, or the status of its first fault
abbrev pub points_or_fault : Name → Result (List Row) Fault → Result (List Row) Status
points_or_fault name (Ok points) = Ok points
points_or_fault name (Err fault) = Err (st.Input name fault.0 fault.1.0 fault.1.1)

-- the points of a data set, from its file
abbrev pub dataset_step : Settings → Placed → Step (List Row)
dataset_step p w = read (file_in w.0 w.1.name) csv_limit >>= λ bytes. settled (points_or_fault w.1.name (dataset_rows p w.1.structure w.1.not_null bytes))

abbrev pub data_set : Structure → List Row → DataSet
data_set structure points = record { structure = structure; points = points }

abbrev pub with_points : Environment → List ℕ × Structure → List Row → Environment
with_points before e points = before ++ (e.0, data_set e.1 points) ∷ []

-- the data sets before, and one more behind them
abbrev pub one_more_step : Settings → Environment → Placed → Step Environment
one_more_step p before w = dataset_step p w >>= λ points. settled (Ok (with_points before (entry_of w) points))

-- the data sets before, and behind them these, each read in turn
abbrev pub inputs_step : Settings → Environment → List Placed → Step Environment
inputs_step p before [] = settled (Ok before)
inputs_step p before (w ∷ rest) = one_more_step p before w >>= λ more. inputs_step p more rest

-- the data sets of one folder
abbrev pub wanted_step : Path → Settings → List Wanted → Step Environment
wanted_step folder p ws = inputs_step p [] (all_in folder ws)

-- those of these names and structures, with the not-null components of these lists
abbrev pub folder_step : Path → Settings → NotNull → Named → Step Environment
folder_step folder p lists es = wanted_step folder p (all_wanted_with lists es)

-- ---- the outputs
-- the file of a result in a folder
abbrev pub output_of : Path → Settings → Name × DataSet → File
output_of folder p result = (file_in folder result.0, csv_of p result.1.structure result.1.points)

-- the status of a fault, which names the result of its statement
abbrev pub fault_status : EvaluationFault → Name → Status
fault_status DivZero name = st.DivZero name
fault_status Range name = st.Range name

-- the files of all results, in order, or the status of the fault
abbrev pub outputs_of : Path → Settings → Result Outputs (EvaluationFault × Name) → Result (List File) Status
outputs_of folder p (Ok results) = Ok (map (output_of folder p) results)
outputs_of folder p (Err fault) = Err (fault_status fault.0 fault.1)

-- ---- the whole
-- what the structures file declares
abbrev pub structures_step : Path → Step Whole
structures_step path = read path structures_limit >>= λ bytes. settled (structures_in path bytes)

-- the status of the first statement that breaks a rule of typing
abbrev pub typed_or_fault : {A : Type 0} → Result A (ℕ × ℕ) → Result A Status
typed_or_fault (Ok x) = Ok x
typed_or_fault (Err fault) = Err (st.Mistyped fault.0 fault.1)

-- a script with the structures, their not-null lists and the settings that it is typed over, and its nodes, one for each
-- transformation
pub record Typed : Type 0 where
  pub tree : ScriptTree
  pub structures : Named
  pub not_null : NotNull
  pub settings : Settings
  pub nodes : List NodeTree

abbrev pub typed_by : ScriptTree → Declared → Settings → List NodeTree → Typed
typed_by tree d settings nodes = record { tree = tree; structures = d.sets; not_null = d.not_null; settings = settings; nodes = nodes }

-- the settings of a source whose structures file declares this
abbrev pub settings_of : Source → Whole → Settings
settings_of s d = settings_for s.chosen d.profile

-- the typing of a script over structures
abbrev pub typing_of : Settings → ScriptTree → Named → Result (List NodeTree) Status
typing_of p tree structures = typed_or_fault (script_typed (env_over p structures) tree)

-- the script of a source, typed over its structures
abbrev pub typed_step : Source → Step Typed
typed_step s =
    script_step s.script >>= λ tree.
    structures_step s.structures >>= λ d.
    settled (typing_of (settings_of s d) tree d.structures.sets) >>= λ nodes.
    settled (Ok (typed_by tree d.structures (settings_of s d) nodes))

-- its statements
abbrev pub statements_in : Typed → List Statement
statements_in t = with_nodes (transformations t.tree) t.nodes

-- what a script means over the data sets that were read
abbrev pub meant : Typed → Environment → Result Outputs (EvaluationFault × Name)
meant t env = meaning t.settings (statements_in t) env

-- what a run makes: the files of its outputs. Inputs are read, and outputs written, with the settings of the typed script.
abbrev pub run_step : Run → Step (List File)
run_step r =
    typed_step r.source >>= λ t.
    folder_step r.input t.settings t.not_null (reads t.structures t.nodes) >>= λ env.
    settled (outputs_of r.output t.settings (meant t env))

-- ---- the text in SQL
-- a text of a typed script; others may be texts of it, too
abbrev pub IsTextOf : Typed → Text → Type 0
IsTextOf t text = IsTextFor t.settings t.not_null (reads t.structures t.nodes) (statements_in t) text

abbrev pub text_for : Typed → Step Text
text_for t = read_as (IsTextOf t) (λ text. Ok text)

-- a text of the script of a source. No data set is read.
abbrev pub text_step : Source → Step Text
text_step s = typed_step s >>= text_for
