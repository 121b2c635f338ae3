-- A statement as the program comes to it.
use Rattle.std.specs.Prelude.{ℕ, List}
use Rattle.vtl_syntax.specs.declared.word_groups.AssignKind.{AssignKind}
use Rattle.vtl_tree.specs.Trees.{NodeTree}
use Rattle.vtl_backend.specs.Statements.{is_written}
use Rattle.vtl_scripts.specs.Meaning.{Statement}

abbrev pub result_named : List ℕ → AssignKind → NodeTree → Statement
result_named name kind n = record { result = name; persistent = is_written kind; node = n }
