-- Tokens of some parts.
use Rattle.std.specs.Prelude.{Bool, List, ◌∷◌, ◌++◌}
use Rattle.sql_lexer.specs.declared.token.TokenKind.TheVariants as t
use Rattle.sql_lexer.specs.declared.token.Word.{Word}
use Rattle.sql_lexer.specs.declared.token.Word.TheVariants as w
use Rattle.sql_tree.specs.Grammar.{Tokens}
use Rattle.sql_tree.specs.Printing.{bracketed, commas, just, not_word, written_column, written_literal, written_name}
use Rattle.sql_tree.specs.Trees.{Text}
use Rattle.sql_tree.specs.declared.parts.Column.{Column}
use Rattle.sql_tree.specs.declared.parts.Literal.{Literal}

abbrev pub null_test : Bool → Tokens
null_test negated = t.Word w.Is ∷ (not_word negated ++ just w.Null)

abbrev pub membership : Bool → List Literal → Tokens
membership negated ls = not_word negated ++ (t.Word w.In ∷ bracketed (commas written_literal ls))

-- a function of a column
abbrev pub column_call : Word → Column → Tokens
column_call function x = t.Word function ∷ bracketed (written_column x)

-- the key of an INPUT and its end
abbrev pub input_key : List Text → Tokens
input_key names = t.Word w.Key ∷ (bracketed (commas written_name names) ++ just w.Semicolon)
