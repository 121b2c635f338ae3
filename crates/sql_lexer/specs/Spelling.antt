-- How each kind of token is spelled. A text is the list of its characters, and a character is its code: 34 is `"`, 39 is `'`, 46 is `.`.
use Rattle.std.specs.Prelude.{◌≡◌, ◌<◌, ◌==◌, ◌&&◌, ℕ, Bool, true, not, nat_le, List, [], ◌∷◌, ◌++◌, length, codes, encode_utf8_all, if◌then◌else◌}
use Rattle.std.specs.Char.{is_ascii_digit, is_control}
use Rattle.std.specs.List.{list_all}
use Rattle.sql_lexer.specs.declared.token.TokenKind.{TokenKind}
use Rattle.sql_lexer.specs.declared.token.TokenKind.TheVariants as k
use Rattle.sql_lexer.specs.declared.token.Word.{Word}
use Rattle.sql_lexer.specs.declared.token.Word.TheVariants as w

abbrev pub spelling : Word → List ℕ
spelling w.NotEqual = codes "<>"
spelling w.LessOrEqual = codes "<="
spelling w.GreaterOrEqual = codes ">="
spelling w.Concat = codes "||"
spelling w.Less = codes "<"
spelling w.Greater = codes ">"
spelling w.Equal = codes "="
spelling w.Plus = codes "+"
spelling w.Minus = codes "-"
spelling w.Star = codes "*"
spelling w.Slash = codes "/"
spelling w.Open = codes "("
spelling w.Close = codes ")"
spelling w.Comma = codes ","
spelling w.Semicolon = codes ";"
spelling w.Dot = codes "."
spelling w.Abs = codes "ABS"
spelling w.All = codes "ALL"
spelling w.And = codes "AND"
spelling w.Asc = codes "ASC"
spelling w.As = codes "AS"
spelling w.Avg = codes "AVG"
spelling w.Between = codes "BETWEEN"
spelling w.Boolean = codes "BOOLEAN"
spelling w.By = codes "BY"
spelling w.Case = codes "CASE"
spelling w.Ceil = codes "CEIL"
spelling w.Coalesce = codes "COALESCE"
spelling w.Codes = codes "CODES"
spelling w.Count = codes "COUNT"
spelling w.Create = codes "CREATE"
spelling w.Cross = codes "CROSS"
spelling w.Current = codes "CURRENT"
spelling w.Date = codes "DATE"
spelling w.Desc = codes "DESC"
spelling w.Down = codes "DOWN"
spelling w.Else = codes "ELSE"
spelling w.End = codes "END"
spelling w.Exists = codes "EXISTS"
spelling w.Export = codes "EXPORT"
spelling w.False = codes "FALSE"
spelling w.FirstValue = codes "FIRST_VALUE"
spelling w.Floor = codes "FLOOR"
spelling w.Following = codes "FOLLOWING"
spelling w.From = codes "FROM"
spelling w.Full = codes "FULL"
spelling w.Group = codes "GROUP"
spelling w.HalfEven = codes "HALF_EVEN"
spelling w.HalfUp = codes "HALF_UP"
spelling w.Having = codes "HAVING"
spelling w.Inner = codes "INNER"
spelling w.Input = codes "INPUT"
spelling w.Instr = codes "INSTR"
spelling w.Integer = codes "INTEGER"
spelling w.In = codes "IN"
spelling w.Is = codes "IS"
spelling w.Join = codes "JOIN"
spelling w.Key = codes "KEY"
spelling w.Lag = codes "LAG"
spelling w.LastValue = codes "LAST_VALUE"
spelling w.Lead = codes "LEAD"
spelling w.Left = codes "LEFT"
spelling w.Length = codes "LENGTH"
spelling w.Ltrim = codes "LTRIM"
spelling w.Max = codes "MAX"
spelling w.Median = codes "MEDIAN"
spelling w.Min = codes "MIN"
spelling w.Mod = codes "MOD"
spelling w.Not = codes "NOT"
spelling w.Null = codes "NULL"
spelling w.Number = codes "NUMBER"
spelling w.On = codes "ON"
spelling w.Order = codes "ORDER"
spelling w.Or = codes "OR"
spelling w.Over = codes "OVER"
spelling w.Partition = codes "PARTITION"
spelling w.PeriodFrequency = codes "PERIOD_FREQ"
spelling w.PeriodShift = codes "PERIOD_SHIFT"
spelling w.Period = codes "PERIOD"
spelling w.Preceding = codes "PRECEDING"
spelling w.Rank = codes "RANK"
spelling w.RatioToReport = codes "RATIO_TO_REPORT"
spelling w.Replace = codes "REPLACE"
spelling w.Rounding = codes "ROUNDING"
spelling w.Round = codes "ROUND"
spelling w.Rows = codes "ROWS"
spelling w.Row = codes "ROW"
spelling w.Rtrim = codes "RTRIM"
spelling w.Scale = codes "SCALE"
spelling w.Select = codes "SELECT"
spelling w.Series = codes "SERIES"
spelling w.Set = codes "SET"
spelling w.Single = codes "SINGLE"
spelling w.Substr = codes "SUBSTR"
spelling w.Sum = codes "SUM"
spelling w.Table = codes "TABLE"
spelling w.Text = codes "TEXT"
spelling w.Then = codes "THEN"
spelling w.Trim = codes "TRIM"
spelling w.True = codes "TRUE"
spelling w.Trunc = codes "TRUNC"
spelling w.Unbounded = codes "UNBOUNDED"
spelling w.Union = codes "UNION"
spelling w.When = codes "WHEN"
spelling w.Where = codes "WHERE"
spelling w.Xor = codes "XOR"

-- each of these characters twice
abbrev pub doubled : ℕ → List ℕ → List ℕ
doubled quote [] = []
doubled quote (c ∷ cs) = if c == quote then c ∷ c ∷ doubled quote cs else c ∷ doubled quote cs

abbrev pub quoted : ℕ → List ℕ → List ℕ
quoted quote cs = quote ∷ (doubled quote cs ++ quote ∷ [])

-- the characters of a token
abbrev pub spelled : TokenKind → List ℕ
spelled (k.Word word) = spelling word
spelled (k.Name name) = quoted 34 name
spelled (k.Text text) = quoted 39 text
spelled (k.Int digits) = digits
spelled (k.Dec number) = number

-- digits, at least one
abbrev pub IsDigits : List ℕ → Type 0
IsDigits cs = (0 < length cs) × (list_all is_ascii_digit cs ≡ true)

-- digits, a point, digits
pub record IsDecimal (cs : List ℕ) : Type 0 where
  pub whole : List ℕ
  pub part : List ℕ
  pub is : cs ≡ whole ++ 46 ∷ part
  pub before : IsDigits whole
  pub behind : IsDigits part

-- the bytes of a text in UTF-8
abbrev pub size : List ℕ → ℕ
size cs = length (encode_utf8_all cs)

abbrev pub fits_name : ℕ → Bool
fits_name bytes = nat_le 1 bytes && nat_le bytes 256

abbrev pub has_no_control : List ℕ → Bool
has_no_control cs = list_all (λ c. not (is_control c)) cs

-- 1 to 256 bytes without control characters
unfoldable pub is_name : List ℕ → Bool
is_name cs = fits_name (size cs) && has_no_control cs

-- what a token of this kind may hold
abbrev pub IsFormed : TokenKind → Type 0
IsFormed (k.Word word) = Unit {0}
IsFormed (k.Name name) = is_name name ≡ true
IsFormed (k.Text text) = Unit {0}
IsFormed (k.Int digits) = IsDigits digits
IsFormed (k.Dec number) = IsDecimal number
