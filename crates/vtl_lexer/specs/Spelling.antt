-- How each kind of token is spelled. A text is the list of its bytes in UTF-8: 34 is `"`, 39 is `'`, 46 is `.`.
use Rattle.std.specs.Prelude.{◌≡◌, ◌<◌, ◌==◌, ℕ, true, not, List, [], ◌∷◌, ◌++◌, length, chars, codes, if◌then◌else◌}
use Rattle.std.specs.Char.{is_ascii_digit}
use Rattle.std.specs.List.{list_all}
use Rattle.vtl_text.specs.Words.{is_component_name, is_name, quoted}
use Rattle.vtl_lexer.specs.Keywords.{word_of}
use Rattle.vtl_lexer.specs.declared.token.Sign.{Sign}
use Rattle.vtl_lexer.specs.declared.token.Sign.TheVariants as s
use Rattle.vtl_lexer.specs.declared.token.TokenKind.{TokenKind}
use Rattle.vtl_lexer.specs.declared.token.TokenKind.TheVariants as k

abbrev pub spelling : Sign → List ℕ
spelling s.Assign = codes ":="
spelling s.Persist = codes "<-"
spelling s.NotEqual = codes "<>"
spelling s.LessOrEqual = codes "<="
spelling s.GreaterOrEqual = codes ">="
spelling s.Concat = codes "||"
spelling s.Less = codes "<"
spelling s.Greater = codes ">"
spelling s.Equal = codes "="
spelling s.Plus = codes "+"
spelling s.Minus = codes "-"
spelling s.Star = codes "*"
spelling s.Slash = codes "/"
spelling s.OpenBracket = codes "("
spelling s.CloseBracket = codes ")"
spelling s.OpenSquare = codes "["
spelling s.CloseSquare = codes "]"
spelling s.OpenBrace = codes "{"
spelling s.CloseBrace = codes "}"
spelling s.Comma = codes ","
spelling s.Semicolon = codes ";"
spelling s.Colon = codes ":"
spelling s.Hash = codes "#"

-- none of the bytes is this one
abbrev pub Lacks : ℕ → List ℕ → Type 0
Lacks byte bytes = list_all (λ other. not (other == byte)) bytes ≡ true

-- digits, at least one
abbrev pub IsDigits : List ℕ → Type 0
IsDigits bytes = (0 < length bytes) × (list_all is_ascii_digit bytes ≡ true)

-- the bytes with each `"` twice
abbrev pub doubled : List ℕ → List ℕ
doubled [] = []
doubled (byte ∷ bytes) = if byte == 34 then 34 ∷ 34 ∷ doubled bytes else byte ∷ doubled bytes

-- these bytes spell a token of this kind, which holds what stands between its quotes, or else the whole. A name has at most 64 bytes (`is_name`), and so has what a quoted name holds (`is_component_name`).
abbrev pub Spells : TokenKind → List ℕ → Type 0
Spells (k.Name word) bytes = (bytes ≡ word) × (is_name word ≡ true)
Spells (k.Keyword keyword) bytes = bytes ≡ word_of keyword
Spells (k.QuotedName name) bytes = (inner : List ℕ) × (bytes ≡ quoted inner) × Lacks 39 inner × (name ≡ chars inner) × (is_component_name name ≡ true)
Spells (k.Integer digits) bytes = (bytes ≡ digits) × IsDigits digits
Spells (k.Decimal number) bytes = (whole : List ℕ) × (part : List ℕ) × (bytes ≡ number) × (number ≡ whole ++ 46 ∷ part) × IsDigits whole × IsDigits part
Spells (k.String text) bytes = (inner : List ℕ) × (bytes ≡ 34 ∷ (doubled inner ++ 34 ∷ [])) × (text ≡ chars inner)
Spells (k.Sign sign) bytes = bytes ≡ spelling sign
