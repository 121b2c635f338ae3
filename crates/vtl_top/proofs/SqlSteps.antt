-- Steps of an engine: what is read of an SQL file is one thing, and the rest of its chain from each place on.
use Rattle.std.proofs.Common.{◌≡◌, List, ℕ, Ok}
use Rattle.sql_tree.specs.Texts.{IsFaulty, IsScript}
use Rattle.sql_tree.specs.Trees.{ScriptTree}
use Rattle.sql_check_parts.specs.Statements.{script_fault, script_settings}
use Rattle.sql_meaning.specs.Scripts.{script_value}
use Rattle.vtl_top.specs.SqlInputs.{inputs_wanted, rows_by_name}
use Rattle.sql_parser.proofs.Texts.{not_both, one_fault, one_script}
use Rattle.vtl_top.specs.Expected.{wanted_step}
use Rattle.vtl_top.specs.ScriptFile.{IsSqlParsed, Parsed}
use Rattle.vtl_top.specs.SqlRun.{exports_of, sql_typing}
use Rattle.vtl_top.specs.Steps.{File, Step, ◌>>=◌, settled}
use Rattle.vtl_top.specs.Words.{Engine}
use Rattle.vtl_top.proofs.ReadScripts.{read_once_by}

pub sql_parsed_once : (bytes : List ℕ) (a b : Parsed ScriptTree) → IsSqlParsed bytes a → IsSqlParsed bytes b → a ≡ b
sql_parsed_once = read_once_by IsScript IsFaulty one_script not_both one_fault

abbrev pub after_sql : ScriptTree → Step ScriptTree
after_sql tree = settled (sql_typing (script_fault tree)) >>= λ typed. settled (Ok tree)

abbrev pub after_checked : Engine → ScriptTree → Step (List File)
after_checked e tree = wanted_step e.input (script_settings tree) (inputs_wanted tree) >>= λ env. settled (exports_of e.output (script_settings tree) (script_value tree (rows_by_name env)))
