-- The outputs of a run, and the text of a script in SQL, in the words of the language: what the script means over its inputs.
use Rattle.std.specs.Prelude.{◌≡◌, ℕ, List, map, Err, Ok, IsUtf8}
use Rattle.vtl_syntax.specs.Trees.{ScriptTree}
use Rattle.vtl_parser.specs.Parsed.{IsScript}
use Rattle.vtl_tree.specs.Environment.{Environment}
use Rattle.vtl_decimal.specs.declared.number.Fault.{Fault}
use Rattle.vtl_csv.specs.declared.structures.Declared.{Declared as Whole}
use Rattle.vtl_check.specs.Checked.{env_over}
use Rattle.vtl_check.specs.Script.{script_typed}
use Rattle.vtl_check.specs.Uses.{reads}
use Rattle.vtl_scripts.specs.Meaning.{Outputs}
use Rattle.vtl_top.specs.Expected.{IsTextOf, Typed, content, folder_step, meant, output_of, script_limit, settings_of, structures_step}
use Rattle.vtl_format.specs.Formed.{IsFormed}
use Rattle.vtl_top.specs.Steps.{File, Held, Name, Path, Text}
use Rattle.vtl_top.specs.Words.{Run, Source}

-- The script's tree and what is declared are those of the files.
pub record IsRead (s : Source) (held : Held) (tree : ScriptTree) (d : Whole) : Type 0 where
  pub text : Text
  pub script : content s.script script_limit held ≡ Ok text
  pub utf8 : IsUtf8 text
  pub parsed : IsScript text tree
  pub declared : (structures_step s.structures).gives held (Ok d)

-- That script is typed over the structures with the settings that the source chose and the file declares.
pub record IsAccepted (s : Source) (held : Held) (t : Typed) : Type 0 where
  pub declared : Whole
  pub source : IsRead s held t.tree declared
  pub structures : t.structures ≡ declared.structures.sets
  pub lists : t.not_null ≡ declared.structures.not_null
  pub settings : t.settings ≡ settings_of s declared
  pub fits : script_typed (env_over t.settings t.structures) t.tree ≡ Ok t.nodes

-- And these are the data sets that it reads.
pub record IsReady (r : Run) (held : Held) (t : Typed) (inputs : Environment) : Type 0 where
  pub script : IsAccepted r.source held t
  pub read : (folder_step r.input t.settings t.not_null (reads t.structures t.nodes)).gives held (Ok inputs)

-- A script is ready, and its statements mean results over the data sets that it reads; and the files are named after the results
-- that are written, in order, and hold their CSV texts.
pub record IsMeant (r : Run) (held : Held) (files : List File) : Type 0 where
  pub typed : Typed
  pub inputs : Environment
  pub results : Outputs
  pub ready : IsReady r held typed inputs
  pub means : meant typed inputs ≡ Ok results
  pub written : files ≡ map (output_of r.output typed.settings) results

-- The same up to the meaning, which is a fault: it is this one, in the statement with this result.
pub record IsFaulted (r : Run) (held : Held) (fault : Fault) (name : Name) : Type 0 where
  pub typed : Typed
  pub inputs : Environment
  pub ready : IsReady r held typed inputs
  pub means : meant typed inputs ≡ Err (fault, name)

-- The script has this first fault over the structures: the number of the statement, and the rule.
pub record IsMistyped (s : Source) (held : Held) (statement rule : ℕ) : Type 0 where
  pub tree : ScriptTree
  pub declared : Whole
  pub source : IsRead s held tree declared
  pub fault : script_typed (env_over (settings_of s declared) declared.structures.sets) tree ≡ Err (statement, rule)

-- The file at the path holds a script, and this is its canonical text.
pub record IsFormMeant (path : Path) (held : Held) (out : Text) : Type 0 where
  pub text : Text
  pub file : content path script_limit held ≡ Ok text
  pub utf8 : IsUtf8 text
  pub formed : IsFormed text out

-- A script is typed so, and this is a text of it in SQL.
pub record IsTextMeant (s : Source) (held : Held) (text : Text) : Type 0 where
  pub typed : Typed
  pub script : IsAccepted s held typed
  pub text_of : IsTextOf typed text
