-- Words, signs and levels are told apart by their places.
use Rattle.std.proofs.Common.{◌≡◌, ◌∙◌, ◌∷◌, [], ℕ, List, true, ap, arith, get_or, refl, sym}
use Rattle.std.specs.Prelude.{nat_eq}
use Rattle.std.proofs.lemmas.Bool.Decides.{nat_tests}
use Rattle.vtl_lexer.specs.Keywords.{place_of}
use Rattle.vtl_lexer.specs.declared.keyword.Keyword.{Keyword}
use Rattle.vtl_lexer.specs.declared.keyword.Keyword.TheVariants as k
use Rattle.vtl_lexer.specs.declared.token.Sign.{Sign}
use Rattle.vtl_lexer.specs.declared.token.Sign.TheVariants as sign
use Rattle.vtl_grammar.specs.Levels.{looseness}
use Rattle.vtl_grammar.specs.Reading.{sign_place}
use Rattle.vtl_grammar.specs.declared.levels.Level.{Level}
use Rattle.vtl_grammar.specs.declared.levels.Level.TheVariants as level

same_number : (a b : ℕ) → nat_eq a b ≡ true → a ≡ b
same_number a b e = grind (arith, nat_tests)

-- the values in the order of their places
abbrev keywords : List Keyword
keywords = k.Abs ∷ k.Aggr ∷ k.All ∷ k.AllMeasures ∷ k.AlwaysNull ∷ k.AlwaysZero ∷ k.And ∷ k.As ∷ k.Asc ∷ k.Attribute ∷ k.Avg ∷ k.Between ∷ k.By ∷ k.Calc ∷ k.Cast ∷ k.Ceil ∷ k.Check ∷ k.CheckDatapoint ∷ k.CheckHierarchy ∷ k.Computed ∷ k.Count ∷ k.CrossJoin ∷ k.Current ∷ k.Data ∷ k.Datapoint ∷ k.Dataset ∷ k.Date ∷ k.Define ∷ k.Desc ∷ k.Drop ∷ k.Else ∷ k.End ∷ k.Errorcode ∷ k.Errorlevel ∷ k.Except ∷ k.ExistsIn ∷ k.False ∷ k.FillTimeSeries ∷ k.Filter ∷ k.FirstValue ∷ k.Floor ∷ k.FlowToStock ∷ k.Following ∷ k.FullJoin ∷ k.Group ∷ k.Having ∷ k.Hierarchical ∷ k.Hierarchy ∷ k.If ∷ k.Imbalance ∷ k.In ∷ k.InnerJoin ∷ k.Instr ∷ k.Intersect ∷ k.Invalid ∷ k.Is ∷ k.Isnull ∷ k.Keep ∷ k.Lag ∷ k.LastValue ∷ k.Lead ∷ k.LeftJoin ∷ k.Length ∷ k.Ltrim ∷ k.Max ∷ k.Measure ∷ k.Median ∷ k.Min ∷ k.Mod ∷ k.NonNull ∷ k.NonZero ∷ k.Not ∷ k.NotIn ∷ k.Null ∷ k.Nvl ∷ k.Or ∷ k.Order ∷ k.Over ∷ k.PartialNull ∷ k.PartialZero ∷ k.Partition ∷ k.Pivot ∷ k.Point ∷ k.Points ∷ k.Preceding ∷ k.Rank ∷ k.RatioToReport ∷ k.Rename ∷ k.Replace ∷ k.Round ∷ k.Rtrim ∷ k.Rule ∷ k.RulePriority ∷ k.Ruleset ∷ k.Setdiff ∷ k.Single ∷ k.StockToFlow ∷ k.Sub ∷ k.Substr ∷ k.Sum ∷ k.Symdiff ∷ k.Then ∷ k.TimePeriod ∷ k.Timeshift ∷ k.To ∷ k.Trim ∷ k.True ∷ k.Trunc ∷ k.Unbounded ∷ k.Union ∷ k.Unpivot ∷ k.Using ∷ k.Variable ∷ k.When ∷ k.Xor ∷ []

keyword_at_place : (x : Keyword) → get_or keywords (place_of x) k.Abs ≡ x
keyword_at_place k.Abs = refl
keyword_at_place k.Aggr = refl
keyword_at_place k.All = refl
keyword_at_place k.AllMeasures = refl
keyword_at_place k.AlwaysNull = refl
keyword_at_place k.AlwaysZero = refl
keyword_at_place k.And = refl
keyword_at_place k.As = refl
keyword_at_place k.Asc = refl
keyword_at_place k.Attribute = refl
keyword_at_place k.Avg = refl
keyword_at_place k.Between = refl
keyword_at_place k.By = refl
keyword_at_place k.Calc = refl
keyword_at_place k.Cast = refl
keyword_at_place k.Ceil = refl
keyword_at_place k.Check = refl
keyword_at_place k.CheckDatapoint = refl
keyword_at_place k.CheckHierarchy = refl
keyword_at_place k.Computed = refl
keyword_at_place k.Count = refl
keyword_at_place k.CrossJoin = refl
keyword_at_place k.Current = refl
keyword_at_place k.Data = refl
keyword_at_place k.Datapoint = refl
keyword_at_place k.Dataset = refl
keyword_at_place k.Date = refl
keyword_at_place k.Define = refl
keyword_at_place k.Desc = refl
keyword_at_place k.Drop = refl
keyword_at_place k.Else = refl
keyword_at_place k.End = refl
keyword_at_place k.Errorcode = refl
keyword_at_place k.Errorlevel = refl
keyword_at_place k.Except = refl
keyword_at_place k.ExistsIn = refl
keyword_at_place k.False = refl
keyword_at_place k.FillTimeSeries = refl
keyword_at_place k.Filter = refl
keyword_at_place k.FirstValue = refl
keyword_at_place k.Floor = refl
keyword_at_place k.FlowToStock = refl
keyword_at_place k.Following = refl
keyword_at_place k.FullJoin = refl
keyword_at_place k.Group = refl
keyword_at_place k.Having = refl
keyword_at_place k.Hierarchical = refl
keyword_at_place k.Hierarchy = refl
keyword_at_place k.If = refl
keyword_at_place k.Imbalance = refl
keyword_at_place k.In = refl
keyword_at_place k.InnerJoin = refl
keyword_at_place k.Instr = refl
keyword_at_place k.Intersect = refl
keyword_at_place k.Invalid = refl
keyword_at_place k.Is = refl
keyword_at_place k.Isnull = refl
keyword_at_place k.Keep = refl
keyword_at_place k.Lag = refl
keyword_at_place k.LastValue = refl
keyword_at_place k.Lead = refl
keyword_at_place k.LeftJoin = refl
keyword_at_place k.Length = refl
keyword_at_place k.Ltrim = refl
keyword_at_place k.Max = refl
keyword_at_place k.Measure = refl
keyword_at_place k.Median = refl
keyword_at_place k.Min = refl
keyword_at_place k.Mod = refl
keyword_at_place k.NonNull = refl
keyword_at_place k.NonZero = refl
keyword_at_place k.Not = refl
keyword_at_place k.NotIn = refl
keyword_at_place k.Null = refl
keyword_at_place k.Nvl = refl
keyword_at_place k.Or = refl
keyword_at_place k.Order = refl
keyword_at_place k.Over = refl
keyword_at_place k.PartialNull = refl
keyword_at_place k.PartialZero = refl
keyword_at_place k.Partition = refl
keyword_at_place k.Pivot = refl
keyword_at_place k.Point = refl
keyword_at_place k.Points = refl
keyword_at_place k.Preceding = refl
keyword_at_place k.Rank = refl
keyword_at_place k.RatioToReport = refl
keyword_at_place k.Rename = refl
keyword_at_place k.Replace = refl
keyword_at_place k.Round = refl
keyword_at_place k.Rtrim = refl
keyword_at_place k.Rule = refl
keyword_at_place k.RulePriority = refl
keyword_at_place k.Ruleset = refl
keyword_at_place k.Setdiff = refl
keyword_at_place k.Single = refl
keyword_at_place k.StockToFlow = refl
keyword_at_place k.Sub = refl
keyword_at_place k.Substr = refl
keyword_at_place k.Sum = refl
keyword_at_place k.Symdiff = refl
keyword_at_place k.Then = refl
keyword_at_place k.TimePeriod = refl
keyword_at_place k.Timeshift = refl
keyword_at_place k.To = refl
keyword_at_place k.Trim = refl
keyword_at_place k.True = refl
keyword_at_place k.Trunc = refl
keyword_at_place k.Unbounded = refl
keyword_at_place k.Union = refl
keyword_at_place k.Unpivot = refl
keyword_at_place k.Using = refl
keyword_at_place k.Variable = refl
keyword_at_place k.When = refl
keyword_at_place k.Xor = refl

pub keyword_by_place : (x y : Keyword) → place_of x ≡ place_of y → x ≡ y
keyword_by_place x y e = sym (keyword_at_place x) ∙ ap (λ n. get_or keywords n k.Abs) e ∙ keyword_at_place y

pub keyword_by_test : (x y : Keyword) → nat_eq (place_of x) (place_of y) ≡ true → x ≡ y
keyword_by_test x y e = keyword_by_place x y (same_number (place_of x) (place_of y) e)

abbrev signs : List Sign
signs = sign.Assign ∷ sign.Persist ∷ sign.NotEqual ∷ sign.LessOrEqual ∷ sign.GreaterOrEqual ∷ sign.Concat ∷ sign.Less ∷ sign.Greater ∷ sign.Equal ∷ sign.Plus ∷ sign.Minus ∷ sign.Star ∷ sign.Slash ∷ sign.OpenBracket ∷ sign.CloseBracket ∷ sign.OpenSquare ∷ sign.CloseSquare ∷ sign.OpenBrace ∷ sign.CloseBrace ∷ sign.Comma ∷ sign.Semicolon ∷ sign.Colon ∷ sign.Hash ∷ []

sign_at_place : (x : Sign) → get_or signs (sign_place x) sign.Assign ≡ x
sign_at_place sign.Assign = refl
sign_at_place sign.Persist = refl
sign_at_place sign.NotEqual = refl
sign_at_place sign.LessOrEqual = refl
sign_at_place sign.GreaterOrEqual = refl
sign_at_place sign.Concat = refl
sign_at_place sign.Less = refl
sign_at_place sign.Greater = refl
sign_at_place sign.Equal = refl
sign_at_place sign.Plus = refl
sign_at_place sign.Minus = refl
sign_at_place sign.Star = refl
sign_at_place sign.Slash = refl
sign_at_place sign.OpenBracket = refl
sign_at_place sign.CloseBracket = refl
sign_at_place sign.OpenSquare = refl
sign_at_place sign.CloseSquare = refl
sign_at_place sign.OpenBrace = refl
sign_at_place sign.CloseBrace = refl
sign_at_place sign.Comma = refl
sign_at_place sign.Semicolon = refl
sign_at_place sign.Colon = refl
sign_at_place sign.Hash = refl

pub sign_by_place : (x y : Sign) → sign_place x ≡ sign_place y → x ≡ y
sign_by_place x y e = sym (sign_at_place x) ∙ ap (λ n. get_or signs n sign.Assign) e ∙ sign_at_place y

pub sign_by_test : (x y : Sign) → nat_eq (sign_place x) (sign_place y) ≡ true → x ≡ y
sign_by_test x y e = sign_by_place x y (same_number (sign_place x) (sign_place y) e)

abbrev levels : List Level
levels = level.Primary ∷ level.Postfix ∷ level.Unary ∷ level.Multiply ∷ level.Add ∷ level.Compare ∷ level.And ∷ level.Or ∷ level.Expression ∷ []

level_at_place : (x : Level) → get_or levels (looseness x) level.Primary ≡ x
level_at_place level.Primary = refl
level_at_place level.Postfix = refl
level_at_place level.Unary = refl
level_at_place level.Multiply = refl
level_at_place level.Add = refl
level_at_place level.Compare = refl
level_at_place level.And = refl
level_at_place level.Or = refl
level_at_place level.Expression = refl

pub level_by_place : (x y : Level) → looseness x ≡ looseness y → x ≡ y
level_by_place x y e = sym (level_at_place x) ∙ ap (λ n. get_or levels n level.Primary) e ∙ level_at_place y

pub level_by_test : (x y : Level) → nat_eq (looseness x) (looseness y) ≡ true → x ≡ y
level_by_test x y e = level_by_place x y (same_number (looseness x) (looseness y) e)
