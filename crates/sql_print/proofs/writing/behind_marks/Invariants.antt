use Rattle.std.proofs.Common.{◌≡◌, ◌++◌, ◌∷◌, [], drop}
use Rattle.grammar_forms.specs.Written.{behind}
use Rattle.sql_lexer.specs.declared.token.TokenKind.TheVariants as t
use Rattle.sql_print.proofs.writing.behind_marks.Given as goal

abbrev pub invariant-loop-item : goal.invariant-loop-item
invariant-loop-item g l = l.out.items ++ behind (t.Word l.mark ∷ []) g.T.Written.tokens (drop l.item-index l.items) ≡ l.fn.out.items ++ behind (t.Word l.mark ∷ []) g.T.Written.tokens l.items
