use Rattle.std.proofs.Common.{◌≡◌, ◌++◌, drop, map}
use Rattle.grammar_forms.specs.Written.{behind}
use Rattle.sql_lexer.specs.declared.token.Word.TheVariants as w
use Rattle.sql_tree.specs.Printing.{two_words, written_select}
use Rattle.sql_tree.specs.View.{select_tree}
use Rattle.sql_print.proofs.queries.more_selects.Given as goal

abbrev pub invariant-loop-select : goal.invariant-loop-select
invariant-loop-select l = l.out.items ++ behind (two_words w.Union w.All) written_select (map select_tree (drop l.select-index l.selects)) ≡ l.fn.out.items ++ behind (two_words w.Union w.All) written_select (map select_tree l.selects)
