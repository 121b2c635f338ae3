use Rattle.std.proofs.Common.{◌≡◌, ◌++◌, drop}
use Rattle.grammar_forms.specs.Written.{behind}
use Rattle.sql_lexer.specs.declared.token.Word.TheVariants as w
use Rattle.sql_tree.specs.Printing.{just, written_name}
use Rattle.sql_print.proofs.parts.more_names.Given as goal

abbrev pub invariant-loop-item : goal.invariant-loop-item
invariant-loop-item l = l.out.items ++ behind (just w.Comma) written_name (drop l.item-index l.items) ≡ l.fn.out.items ++ behind (just w.Comma) written_name l.items
