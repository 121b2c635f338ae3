-- The data sets that a script reads, and its statements.
use Rattle.std.specs.Prelude.{◌≡◌, ℕ, List, Some}
use Rattle.std.specs.Map.{lookup}
use Rattle.vtl_syntax.specs.declared.word_groups.AssignKind.{AssignKind}
use Rattle.vtl_tree.specs.Structure.{same_name}
use Rattle.vtl_tree.specs.declared.structure.Structure.{Structure}
use Rattle.vtl_scripts.specs.Meaning.{Statement}
use Rattle.vtl_tree.specs.Trees.{NodeTree}
use Rattle.vtl_check.specs.Checked.{TypedScript, known_of}
use Rattle.vtl_backend.specs.Statements.{is_written}

-- the name has a structure
pub record IsRead (t : TypedScript) (name : List ℕ) : Type 0 where
  pub structure : Structure
  pub found : lookup (same_name name) (known_of t) ≡ Some structure

-- the statement of a result
abbrev pub statement_of : List ℕ → AssignKind → NodeTree → Statement
statement_of name kind n = record { result = name; persistent = is_written kind; node = n }
