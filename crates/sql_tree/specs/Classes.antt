-- The classes of tokens: the place of a word, and a number above them all for each kind of other token.
use Rattle.std.specs.Prelude.{ℕ}
use Rattle.sql_lexer.specs.Places.{place}
use Rattle.sql_lexer.specs.declared.token.TokenKind.{TokenKind}
use Rattle.sql_lexer.specs.declared.token.TokenKind.TheVariants as t

abbrev pub name_class : ℕ
name_class = 200

abbrev pub text_class : ℕ
text_class = 201

abbrev pub int_class : ℕ
int_class = 202

abbrev pub dec_class : ℕ
dec_class = 203

abbrev pub class : TokenKind → ℕ
class (t.Word x) = place x
class (t.Name x) = name_class
class (t.Text x) = text_class
class (t.Int x) = int_class
class (t.Dec x) = dec_class
