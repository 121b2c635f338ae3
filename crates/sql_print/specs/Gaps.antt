-- What stands between two tokens, and what has been written of some.
use Rattle.std.specs.Prelude.{◌++◌, [], ℕ, List, codes}
use Rattle.grammar_forms.specs.Written.{Each}
use Rattle.sql_lexer.specs.Spelling.{IsFormed, spelled}
use Rattle.sql_lexer.specs.Writing.{IsApart, Written}
use Rattle.sql_lexer.specs.declared.token.TokenKind.{TokenKind}
use Rattle.sql_print.specs.declared.gaps.Gap.{Gap}
use Rattle.sql_print.specs.declared.gaps.Gap.TheVariants as gap

abbrev pub gap_text : Gap → List ℕ
gap_text gap.Nothing = []
gap_text gap.Space = codes " "
gap_text gap.Statement = codes "\n"
gap_text gap.Clause = codes "\n  "
gap_text gap.Item = codes "\n    "

-- the token may stand behind these with this gap
abbrev pub Fits : List TokenKind → Gap → TokenKind → Type 0
Fits kinds g kind = IsApart kinds (gap_text g ++ spelled kind)

-- formed tokens are written as this text
abbrev pub WrittenAs : List TokenKind → List TokenKind → List ℕ → Type 0
WrittenAs tokens kinds text = Each IsFormed tokens → Written kinds text
