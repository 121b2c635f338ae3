-- The condition and the answer of `exists_in`, as they are written.
use Rattle.std.specs.Prelude.{List, Option, true}
use Rattle.vtl_syntax.specs.declared.word_groups.Retain.{Retain}
use Rattle.vtl_tree.specs.declared.structure.Component.{Component}
use Rattle.sql_tree.specs.Trees.{Exp, Text}
use Rattle.vtl_to_sql.specs.Sets.{answer_shown, is_matched, retained}

abbrev pub retained_matches : Retain → (identifiers : List Component) → (other : Text) → Option Exp
retained_matches kept ids other = retained kept (is_matched true ids other)

abbrev pub shown_matches : Retain → (identifiers : List Component) → (other : Text) → Exp
shown_matches kept ids other = answer_shown kept (is_matched true ids other)
