-- The grammar of the dialect, as forms over the kinds of tokens. Above each form stands its production: words in capitals and marks are tokens, `{ }` is any number of times, `[ ]` is optional, `|` is a choice.
use Rattle.std.specs.Prelude.{ℕ, zero, suc, max, Bool, true, false, List, [], ◌∷◌, ◌++◌, Option, None, Some, nat_eq, if◌then◌else◌}
use Rattle.grammar_forms.specs.Forms.{Form, Deep, deep, limited, token, words, word, seq, made, «as», after, before, or, led, absent, maybe, maybe_after, chain, listed, deep_listed, deep_one, deep_added, gate, nothing}
use Rattle.sql_lexer.specs.Places.{place}
use Rattle.sql_lexer.specs.declared.token.TokenKind.{TokenKind}
use Rattle.sql_lexer.specs.declared.token.TokenKind.TheVariants as t
use Rattle.sql_lexer.specs.declared.token.Word.{Word}
use Rattle.sql_lexer.specs.declared.token.Word.TheVariants as w
use Rattle.vtl_cell.specs.declared.operator.ScalarOp.{ScalarOp}
use Rattle.vtl_cell.specs.declared.operator.ScalarOp.TheVariants as op
use Rattle.vtl_cell.specs.declared.operator.AggKind.{AggKind}
use Rattle.vtl_cell.specs.declared.operator.AggKind.TheVariants as agg
use Rattle.vtl_cell.specs.declared.kind.Kind.{Kind}
use Rattle.vtl_cell.specs.declared.kind.Kind.TheVariants as kind
use Rattle.vtl_decimal.specs.declared.settings.Rounding.{Rounding}
use Rattle.vtl_decimal.specs.declared.settings.Rounding.TheVariants as rounding
use Rattle.sql_tree.specs.Classes.{class, name_class, text_class, int_class, dec_class}
use Rattle.sql_tree.specs.Trees as tree
use Rattle.sql_tree.specs.Trees.{Text, Exp, exps_of, branches_of, ValueTree, ItemTree, JoinTree, SelectTree, QueryTree, StatementTree, ScriptTree}
use Rattle.sql_tree.specs.declared.parts.Column.{Column}
use Rattle.sql_tree.specs.declared.parts.Source.{Source}
use Rattle.sql_tree.specs.declared.parts.Series.{Series}
use Rattle.sql_tree.specs.declared.parts.Equality.{Equality}
use Rattle.sql_tree.specs.declared.parts.Numeral.{Numeral}
use Rattle.sql_tree.specs.declared.parts.Numeral.TheVariants as numeral
use Rattle.sql_tree.specs.declared.parts.Constant.{Constant}
use Rattle.sql_tree.specs.declared.parts.Constant.TheVariants as constant
use Rattle.sql_tree.specs.declared.parts.Literal.{Literal}
use Rattle.sql_tree.specs.declared.parts.Literal.TheVariants as literal
use Rattle.sql_tree.specs.declared.windows.WindowCall.{WindowCall}
use Rattle.sql_tree.specs.declared.windows.WindowCall.TheVariants as call
use Rattle.sql_tree.specs.declared.windows.Over.{Over}
use Rattle.sql_tree.specs.declared.windows.WindowKey.{WindowKey}
use Rattle.sql_tree.specs.declared.windows.Frame.{Frame}
use Rattle.sql_tree.specs.declared.windows.Bound.{Bound}
use Rattle.sql_tree.specs.declared.windows.Bound.TheVariants as bound
use Rattle.sql_tree.specs.declared.word_groups.JoinKind.{JoinKind}
use Rattle.sql_tree.specs.declared.word_groups.JoinKind.TheVariants as joins
use Rattle.sql_tree.specs.declared.word_groups.Direction.{Direction}
use Rattle.sql_tree.specs.declared.word_groups.Direction.TheVariants as direction
use Rattle.sql_tree.specs.declared.word_groups.Side.{Side}
use Rattle.sql_tree.specs.declared.word_groups.Side.TheVariants as side
use Rattle.sql_tree.specs.declared.word_groups.Span.{Span}
use Rattle.sql_tree.specs.declared.word_groups.Span.TheVariants as span
use Rattle.sql_tree.specs.declared.word_groups.ValueFunction.{ValueFunction}
use Rattle.sql_tree.specs.declared.word_groups.ValueFunction.TheVariants as value
use Rattle.sql_tree.specs.declared.word_groups.ShiftFunction.{ShiftFunction}
use Rattle.sql_tree.specs.declared.word_groups.ShiftFunction.TheVariants as shift
use Rattle.sql_tree.specs.declared.statements.InputColumn.{InputColumn}

abbrev pub Tokens : Type 0
Tokens = List TokenKind

abbrev pub SqlForm : Type 0 → Type 1
SqlForm A = Form TokenKind A

-- ---- tokens

abbrev pub key : Word → SqlForm (Unit {0})
key x = word class (place x)

abbrev pub name_at : TokenKind → Option Text
name_at (t.Name x) = Some x
name_at _ = None

abbrev pub text_at : TokenKind → Option Text
text_at (t.Text x) = Some x
text_at _ = None

abbrev pub int_at : TokenKind → Option Text
int_at (t.Int x) = Some x
int_at _ = None

abbrev pub dec_at : TokenKind → Option Text
dec_at (t.Dec x) = Some x
dec_at _ = None

abbrev pub digit_one : ℕ
digit_one = 49

-- the digit 1 alone
abbrev pub is_one : Text → Option (Unit {0})
is_one (d ∷ []) = if nat_eq d digit_one then Some tt else None
is_one _ = None

abbrev pub one_at : TokenKind → Option (Unit {0})
one_at (t.Int x) = is_one x
one_at _ = None

abbrev pub name : SqlForm Text
name = token (name_class ∷ []) name_at

abbrev pub text : SqlForm Text
text = token (text_class ∷ []) text_at

abbrev pub int : SqlForm Text
int = token (int_class ∷ []) int_at

abbrev pub dec : SqlForm Text
dec = token (dec_class ∷ []) dec_at

-- "1"
abbrev pub one : SqlForm (Unit {0})
one = token (int_class ∷ []) one_at

-- ---- words that stand for one thing each

abbrev pub roundings_table : List (ℕ × Rounding)
roundings_table = (place w.HalfUp, rounding.HalfUp) ∷ (place w.HalfEven, rounding.HalfEven) ∷ (place w.Down, rounding.Down) ∷ []

abbrev pub kinds_table : List (ℕ × Kind)
kinds_table = (place w.Boolean, kind.Bool) ∷ (place w.Integer, kind.Int) ∷ (place w.Number, kind.Num) ∷ (place w.Text, kind.Text) ∷ (place w.Date, kind.Day) ∷ (place w.Period, kind.Period) ∷ []

abbrev pub or_ops_table : List (ℕ × ScalarOp)
or_ops_table = (place w.Or, op.Or) ∷ (place w.Xor, op.Xor) ∷ []

abbrev pub and_ops_table : List (ℕ × ScalarOp)
and_ops_table = (place w.And, op.And) ∷ []

abbrev pub compare_ops_table : List (ℕ × ScalarOp)
compare_ops_table =
    (place w.Equal, op.Equal) ∷ (place w.NotEqual, op.NotEqual) ∷ (place w.Less, op.Less) ∷ (place w.LessOrEqual, op.LessOrEqual)
    ∷ (place w.Greater, op.Greater) ∷ (place w.GreaterOrEqual, op.GreaterOrEqual) ∷ []

abbrev pub add_ops_table : List (ℕ × ScalarOp)
add_ops_table = (place w.Plus, op.Add) ∷ (place w.Minus, op.Subtract) ∷ (place w.Concat, op.Concat) ∷ []

abbrev pub multiply_ops_table : List (ℕ × ScalarOp)
multiply_ops_table = (place w.Star, op.Multiply) ∷ (place w.Slash, op.Divide) ∷ []

abbrev pub signs_table : List (ℕ × ScalarOp)
signs_table = (place w.Plus, op.Identity) ∷ (place w.Minus, op.Negate) ∷ []

abbrev pub functions_table : List (ℕ × ScalarOp)
functions_table =
    (place w.Abs, op.Absolute) ∷ (place w.Floor, op.Floor) ∷ (place w.Ceil, op.Ceil) ∷ (place w.Round, op.Round) ∷ (place w.Trunc, op.Truncate)
    ∷ (place w.Mod, op.Modulo) ∷ (place w.Trim, op.Trim) ∷ (place w.Ltrim, op.TrimLeft) ∷ (place w.Rtrim, op.TrimRight) ∷ (place w.Substr, op.Substring)
    ∷ (place w.Replace, op.Replace) ∷ (place w.Instr, op.Position) ∷ (place w.Length, op.Length) ∷ (place w.Coalesce, op.ValueOr) ∷ (place w.Between, op.Between)
    ∷ (place w.PeriodShift, op.PeriodShift) ∷ (place w.PeriodFrequency, op.PeriodFrequency) ∷ []

-- the aggregates but COUNT
abbrev pub aggregates_table : List (ℕ × AggKind)
aggregates_table = (place w.Sum, agg.Sum) ∷ (place w.Avg, agg.Avg) ∷ (place w.Min, agg.Min) ∷ (place w.Max, agg.Max) ∷ (place w.Median, agg.Median) ∷ []

abbrev pub window_aggregates_table : List (ℕ × AggKind)
window_aggregates_table = (place w.Sum, agg.Sum) ∷ (place w.Avg, agg.Avg) ∷ (place w.Count, agg.Count) ∷ (place w.Min, agg.Min) ∷ (place w.Max, agg.Max) ∷ []

abbrev pub value_functions_table : List (ℕ × ValueFunction)
value_functions_table = (place w.FirstValue, value.FirstValue) ∷ (place w.LastValue, value.LastValue) ∷ (place w.RatioToReport, value.RatioToReport) ∷ []

abbrev pub shift_functions_table : List (ℕ × ShiftFunction)
shift_functions_table = (place w.Lag, shift.Lag) ∷ (place w.Lead, shift.Lead) ∷ []

abbrev pub directions_table : List (ℕ × Direction)
directions_table = (place w.Asc, direction.Ascending) ∷ (place w.Desc, direction.Descending) ∷ []

abbrev pub sides_table : List (ℕ × Side)
sides_table = (place w.Preceding, side.Preceding) ∷ (place w.Following, side.Following) ∷ []

abbrev pub spans_table : List (ℕ × Span)
spans_table = (place w.Single, span.Single) ∷ (place w.All, span.All) ∷ []

abbrev pub join_kinds_table : List (ℕ × JoinKind)
join_kinds_table = (place w.Inner, joins.Inner) ∷ (place w.Left, joins.Left) ∷ (place w.Full, joins.Full) ∷ []

abbrev pub of_table : {A : Type 0} → List (ℕ × A) → SqlForm A
of_table table = words class table

-- ---- lists and brackets

-- "(" f ")"
abbrev pub in_brackets : {A : Type 0} → SqlForm A → SqlForm A
in_brackets f = after (key w.Open) (before f (key w.Close))

-- f { "," f }
abbrev pub commas : {A : Type 0} → SqlForm A → SqlForm (List A)
commas f = listed (key w.Comma) f

-- [ mark items ], no items where it does not stand
abbrev pub items_after : {O A : Type 0} → SqlForm O → SqlForm (List A) → SqlForm (List A)
items_after mark items = led mark items (λ p. Some p.1) (absent [])

abbrev pub two_keys : Word → Word → SqlForm (Unit {0})
two_keys x y = after (key x) (key y)

abbrev pub is_some : {A : Type 0} → Option A → Bool
is_some None = false
is_some (Some x) = true

abbrev pub items_or_none : {A : Type 0} → Option (List A) → List A
items_or_none None = []
items_or_none (Some items) = items

-- name { "," name }
unfoldable pub names : SqlForm (List Text)
names = commas name

-- text { "," text }
unfoldable pub texts : SqlForm (List Text)
texts = commas text

-- name "." name
unfoldable pub column : SqlForm Column
column = «as» (λ p. record { source = p.0; name = p.1 }) (seq name (after (key w.Dot) name))

-- column { "," column }
unfoldable pub columns : SqlForm (List Column)
columns = commas column

-- "ON" name [ "BY" "(" name { "," name } ")" ] ( "SINGLE" | "ALL" )
unfoldable pub series : SqlForm Series
series =
    «as» (λ p. record { on = p.0; by = p.1.0; span = p.1.1 })
    (seq (after (key w.On) name) (seq (items_after (key w.By) (in_brackets names)) (of_table spans_table)))

-- name | "SERIES" name series
unfoldable pub given : SqlForm (Text × Option Series)
given = or («as» (λ x. (x, None)) name) («as» (λ p. (p.0, Some p.1)) (after (key w.Series) (seq name series)))

-- given "AS" name
unfoldable pub source : SqlForm Source
source = «as» (λ p. record { table = p.0.0; series = p.0.1; alias = p.1 }) (seq given (after (key w.As) name))

-- ---- constants

-- int | dec
unfoldable pub number : SqlForm Numeral
number = or («as» numeral.Int int) («as» numeral.Dec dec)

abbrev pub constant_words_table : List (ℕ × Constant)
constant_words_table = (place w.True, constant.True) ∷ (place w.False, constant.False) ∷ (place w.Null, constant.Null) ∷ []

-- int | dec | text | "TRUE" | "FALSE" | "NULL" | "DATE" text | "PERIOD" text
unfoldable pub const : SqlForm Constant
const =
    or («as» constant.Number number)
    (or («as» constant.Text text)
    (or (of_table constant_words_table)
    (or («as» constant.Date (after (key w.Date) text))
    («as» constant.Period (after (key w.Period) text)))))

abbrev pub literal_words_table : List (ℕ × Literal)
literal_words_table = (place w.True, literal.True) ∷ (place w.False, literal.False) ∷ []

-- [ "-" ] ( int | dec )
unfoldable pub signed_number : SqlForm Literal
signed_number = «as» (λ p. literal.Number p.0 p.1) (seq («as» is_some (maybe (key w.Minus))) number)

-- [ "-" ] ( int | dec ) | text | "TRUE" | "FALSE" | "DATE" text | "PERIOD" text
unfoldable pub lit : SqlForm Literal
lit =
    or signed_number
    (or («as» literal.Text text)
    (or (of_table literal_words_table)
    (or («as» literal.Date (after (key w.Date) text))
    («as» literal.Period (after (key w.Period) text)))))

-- lit { "," lit }
unfoldable pub lits : SqlForm (List Literal)
lits = commas lit

-- ---- expressions, with their depths: `n` bounds the depth of the whole, and `part` reads parts of at most one less

-- the places at which an expression may stand inside another: any expression, what may follow NOT, and what may follow a sign
pub data Place : Type 0 where
  Whole : Place
  Negated : Place
  Signed : Place

abbrev pub DeepExp : Type 0
DeepExp = Deep Exp

abbrev pub Expr : Type 1
Expr = SqlForm DeepExp

abbrev pub prim_starts : List ℕ
prim_starts =
    name_class ∷ text_class ∷ int_class ∷ dec_class ∷ place w.Open ∷ place w.True ∷ place w.False ∷ place w.Null ∷ place w.Date ∷ place w.Period ∷ place w.Case ∷ place w.Exists
    ∷ place w.Count ∷ place w.Sum ∷ place w.Avg ∷ place w.Min ∷ place w.Max ∷ place w.Median
    ∷ place w.Abs ∷ place w.Floor ∷ place w.Ceil ∷ place w.Round ∷ place w.Trunc ∷ place w.Mod ∷ place w.Trim ∷ place w.Ltrim ∷ place w.Rtrim
    ∷ place w.Substr ∷ place w.Replace ∷ place w.Instr ∷ place w.Length ∷ place w.Coalesce ∷ place w.Between
    ∷ place w.PeriodShift ∷ place w.PeriodFrequency ∷ []

abbrev pub compare_more : List ℕ
compare_more =
    place w.Equal ∷ place w.NotEqual ∷ place w.Less ∷ place w.LessOrEqual ∷ place w.Greater ∷ place w.GreaterOrEqual ∷ place w.Is ∷ place w.Not ∷ place w.In
    ∷ place w.Plus ∷ place w.Minus ∷ place w.Concat ∷ place w.Star ∷ place w.Slash ∷ []

-- the classes of first tokens at a place
abbrev pub starts_of : Place → List ℕ
starts_of Whole = place w.Not ∷ place w.Plus ∷ place w.Minus ∷ prim_starts
starts_of Negated = place w.Not ∷ place w.Plus ∷ place w.Minus ∷ prim_starts
starts_of Signed = place w.Plus ∷ place w.Minus ∷ prim_starts

-- the classes of tokens that go on with it
abbrev pub more_of : Place → List ℕ
more_of Whole = place w.Or ∷ place w.Xor ∷ place w.And ∷ compare_more
more_of Negated = compare_more
more_of Signed = []

-- an operator between two operands is one deeper than the deeper one
abbrev pub joined_by : ℕ → DeepExp → ScalarOp × DeepExp → Option DeepExp
joined_by n a p = limited n (tree.binary a.tree p.0 p.1.tree) (suc (max a.depth p.1.depth))

abbrev pub operator_before : ℕ → ScalarOp → DeepExp → Option DeepExp
operator_before n o a = limited n (tree.unary o a.tree) (suc a.depth)

-- operand { op operand }, grouped to the left
abbrev pub left_grouped : ℕ → Expr → List (ℕ × ScalarOp) → Expr
left_grouped n operand ops = chain operand (seq (of_table ops) operand) (joined_by n)

-- "(" expr ")", which leaves no trace but one in the depth
unfoldable pub bracketed : ℕ → Expr → Expr
bracketed n part = made (λ a. limited n a.tree (suc a.depth)) (in_brackets part)

-- fn "(" expr { "," expr } ")"
unfoldable pub call_of : ℕ → Expr → Expr
call_of n part = made (λ p. limited n (tree.call p.0 (exps_of p.1.tree)) (suc p.1.depth)) (seq (of_table functions_table) (in_brackets (deep_listed (key w.Comma) part)))

-- "*" | expr
unfoldable pub counted : ℕ → Expr → Expr
counted n part = or («as» (λ u. deep tree.count_all 1) (key w.Star)) (made (λ a. limited n (tree.aggregate agg.Count a.tree) (suc a.depth)) part)

-- "COUNT" "(" ( "*" | expr ) ")" | ( "SUM" | "AVG" | "MIN" | "MAX" | "MEDIAN" ) "(" expr ")"
unfoldable pub aggr : ℕ → Expr → Expr
aggr n part =
    or (after (key w.Count) (in_brackets (counted n part)))
    (made (λ p. limited n (tree.aggregate p.0 p.1.tree) (suc p.1.depth)) (seq (of_table aggregates_table) (in_brackets part)))

abbrev pub deep_branch : DeepExp × DeepExp → Deep (Exp × Exp)
deep_branch p = deep (p.0.tree, p.1.tree) (max p.0.depth p.1.depth)

-- "WHEN" expr "THEN" expr
unfoldable pub branch : Expr → SqlForm (Deep (Exp × Exp))
branch part = «as» deep_branch (seq (after (key w.When) part) (after (key w.Then) part))

-- branch { branch }
unfoldable pub branches : Expr → SqlForm (Deep (List (Exp × Exp)))
branches part = chain («as» deep_one (branch part)) (branch part) deep_added

abbrev pub case_made : ℕ → Deep (List (Exp × Exp)) × DeepExp → Option DeepExp
case_made n p = limited n (tree.case_when (branches_of p.0.tree) p.1.tree) (suc (max p.0.depth p.1.depth))

-- "CASE" branches "ELSE" expr "END"
unfoldable pub case : ℕ → Expr → Expr
case n part = made (case_made n) (after (key w.Case) (seq (branches part) (before (after (key w.Else) part) (key w.End))))

-- column "=" column
unfoldable pub equality : SqlForm Equality
equality = «as» (λ p. record { left = p.0; right = p.1 }) (seq column (after (key w.Equal) column))

-- source [ "WHERE" eq { "AND" eq } ]
unfoldable pub matched : SqlForm (Source × List Equality)
matched = seq source (items_after (key w.Where) (listed (key w.And) equality))

-- "EXISTS" "(" "SELECT" "1" "FROM" matched ")", of depth 3
unfoldable pub exists : ℕ → Expr
exists n = made (λ p. limited n (tree.exists p.0 p.1) 3) (after (key w.Exists) (in_brackets (after (key w.Select) (after one (after (key w.From) matched)))))

-- const | column | "(" expr ")" | fn "(" expr { "," expr } ")" | aggr | case | exists
unfoldable pub prim : ℕ → Expr → Expr
prim n part =
    or («as» (λ c. deep (tree.constant c) 1) const)
    (or («as» (λ c. deep (tree.column c) 1) column)
    (or (bracketed n part)
    (or (call_of n part)
    (or (aggr n part)
    (or (case n part)
    (exists n))))))

-- ( "+" | "-" ) un | prim
unfoldable pub un : ℕ → (Place → Expr) → Expr
un n part = or (made (λ p. operator_before n p.0 p.1) (seq (of_table signs_table) (part Signed))) (prim n (part Whole))

-- un { ( "*" | "/" ) un }
unfoldable pub mul : ℕ → (Place → Expr) → Expr
mul n part = left_grouped n (un n part) multiply_ops_table

-- mul { ( "+" | "-" | "||" ) mul }
unfoldable pub add : ℕ → (Place → Expr) → Expr
add n part = left_grouped n (mul n part) add_ops_table

-- what may follow an operand
pub data Tail : Type 0 where
  Compared : ScalarOp → DeepExp → Tail
  IsNull : Bool → Tail
  Among : Bool → List Literal → Tail

-- [ "NOT" ]
unfoldable pub negated : SqlForm Bool
negated = «as» is_some (maybe (key w.Not))

-- "IS" [ "NOT" ] "NULL"
unfoldable pub null_test : SqlForm Bool
null_test = after (key w.Is) (before negated (key w.Null))

-- [ "NOT" ] "IN" "(" lit { "," lit } ")"
unfoldable pub membership : SqlForm (Bool × List Literal)
membership = seq negated (after (key w.In) (in_brackets lits))

-- ( "=" | "<>" | "<" | "<=" | ">" | ">=" ) add | "IS" [ "NOT" ] "NULL" | [ "NOT" ] "IN" "(" lit { "," lit } ")"
unfoldable pub tail : ℕ → (Place → Expr) → SqlForm Tail
tail n part =
    or («as» (λ p. Compared p.0 p.1) (seq (of_table compare_ops_table) (add n part)))
    (or («as» IsNull null_test)
    («as» (λ p. Among p.0 p.1) membership))

abbrev pub with_tail : ℕ → DeepExp × Option Tail → Option DeepExp
with_tail n (a, None) = Some a
with_tail n (a, Some (Compared o b)) = joined_by n a (o, b)
with_tail n (a, Some (IsNull negated)) = limited n (tree.is_null a.tree negated) (suc a.depth)
with_tail n (a, Some (Among negated ls)) = limited n (tree.in_list a.tree negated ls) (suc a.depth)

-- add [ tail ]
unfoldable pub cmp : ℕ → (Place → Expr) → Expr
cmp n part = made (with_tail n) (seq (add n part) (maybe (tail n part)))

-- "NOT" neg | cmp
unfoldable pub neg : ℕ → (Place → Expr) → Expr
neg n part = or (made (operator_before n op.Not) (after (key w.Not) (part Negated))) (cmp n part)

-- neg { "AND" neg }
unfoldable pub conjunction : ℕ → (Place → Expr) → Expr
conjunction n part = left_grouped n (neg n part) and_ops_table

-- and { ( "OR" | "XOR" ) and }
unfoldable pub disjunction : ℕ → (Place → Expr) → Expr
disjunction n part = left_grouped n (conjunction n part) or_ops_table

unfoldable pub at_place : ℕ → (Place → Expr) → Place → Expr
at_place n part Whole = disjunction n part
at_place n part Negated = neg n part
at_place n part Signed = un n part

-- of at most that depth
unfoldable pub inner : ℕ → Place → Expr
inner zero p = nothing
inner (suc n) p = at_place (suc n) (λ q. gate (starts_of q) (more_of q) (inner n q)) p

abbrev pub expr_at : ℕ → Place → Expr
expr_at n p = gate (starts_of p) (more_of p) (inner n p)

-- the most levels of an expression
abbrev pub most_levels : ℕ
most_levels = 512

unfoldable pub expr : SqlForm Exp
expr = «as» (λ g. g.tree) (expr_at most_levels Whole)

-- ---- windows

-- ( "SUM" | "AVG" | "COUNT" | "MIN" | "MAX" ) "(" column ")"
unfoldable pub column_aggregate : SqlForm WindowCall
column_aggregate = «as» (λ p. call.Aggregate p.0 p.1) (seq (of_table window_aggregates_table) (in_brackets column))

-- ( "FIRST_VALUE" | "LAST_VALUE" | "RATIO_TO_REPORT" ) "(" column ")"
unfoldable pub column_value : SqlForm WindowCall
column_value = «as» (λ p. call.Value p.0 p.1) (seq (of_table value_functions_table) (in_brackets column))

-- lit | "NULL"
unfoldable pub default : SqlForm (Option Literal)
default = or («as» (λ l. Some l) lit) («as» (λ u. None) (key w.Null))

-- ( "LAG" | "LEAD" ) "(" column "," int "," ( lit | "NULL" ) ")"
unfoldable pub column_shift : SqlForm WindowCall
column_shift =
    «as» (λ p. call.Shift p.0 p.1.0 p.1.1.0 p.1.1.1)
    (seq (of_table shift_functions_table) (in_brackets (seq column (seq (after (key w.Comma) int) (after (key w.Comma) default)))))

-- "RANK" "(" ")"
unfoldable pub rank : SqlForm WindowCall
rank = «as» (λ u. call.Rank) (after (key w.Rank) (two_keys w.Open w.Close))

unfoldable pub wcall : SqlForm WindowCall
wcall = or column_aggregate (or column_value (or column_shift rank))

-- column [ "ASC" | "DESC" ]
unfoldable pub wkey : SqlForm WindowKey
wkey = «as» (λ p. record { column = p.0; direction = p.1 }) (seq column (maybe (of_table directions_table)))

-- "UNBOUNDED" ( "PRECEDING" | "FOLLOWING" ) | int ( "PRECEDING" | "FOLLOWING" ) | "CURRENT" "ROW"
unfoldable pub bound_of : SqlForm Bound
bound_of =
    or («as» bound.Unbounded (after (key w.Unbounded) (of_table sides_table)))
    (or («as» (λ p. bound.Rows p.0 p.1) (seq int (of_table sides_table)))
    («as» (λ u. bound.CurrentRow) (two_keys w.Current w.Row)))

-- "ROWS" "BETWEEN" bound "AND" bound
unfoldable pub frame : SqlForm Frame
frame = «as» (λ p. record { first = p.0; last = p.1 }) (after (two_keys w.Rows w.Between) (seq bound_of (after (key w.And) bound_of)))

-- [ "PARTITION" "BY" column { "," column } ] [ "ORDER" "BY" wkey { "," wkey } ] [ frame ]
unfoldable pub over : SqlForm Over
over =
    «as» (λ p. record { partition = p.0; order = p.1.0; frame = p.1.1 })
    (seq (items_after (two_keys w.Partition w.By) columns) (seq (items_after (two_keys w.Order w.By) (commas wkey)) (maybe frame)))

-- ---- queries

-- wcall "OVER" "(" over ")" | expr; a call with a column may begin both, and OVER behind it tells
unfoldable pub value_of : SqlForm ValueTree
value_of = led (before wcall (key w.Over)) (in_brackets over) (λ p. Some (tree.window (record { call = p.0; over = p.1 }))) («as» tree.expression (gate (starts_of Whole) (place w.Over ∷ more_of Whole) expr))

-- value "AS" name
unfoldable pub item : SqlForm ItemTree
item = «as» (λ p. record { value = p.0; name = p.1 }) (seq value_of (after (key w.As) name))

-- ( "INNER" | "LEFT" | "FULL" ) "JOIN" source "ON" expr | "CROSS" "JOIN" source
unfoldable pub join_of : SqlForm JoinTree
join_of =
    or («as» (λ p. tree.on p.0 p.1.0 p.1.1) (seq (of_table join_kinds_table) (seq (after (key w.Join) source) (after (key w.On) expr))))
    («as» tree.cross (after (two_keys w.Cross w.Join) source))

abbrev pub join_added : Source × List JoinTree → JoinTree → Option (Source × List JoinTree)
join_added s j = Some (s.0, s.1 ++ j ∷ [])

-- source { join }
unfoldable pub sources : SqlForm (Source × List JoinTree)
sources = chain («as» (λ s. (s, [])) source) join_of join_added

-- [ "WHERE" expr ] [ "GROUP" "BY" column { "," column } ] [ "HAVING" expr ]
unfoldable pub limits : SqlForm (Option Exp × (List Column × Option Exp))
limits = seq (maybe_after (key w.Where) expr) (seq (items_after (two_keys w.Group w.By) columns) (maybe_after (key w.Having) expr))

abbrev pub select_made : List ItemTree × ((Source × List JoinTree) × (Option Exp × (List Column × Option Exp))) → SelectTree
select_made p = record { items = p.0; source = p.1.0.0; joins = p.1.0.1; condition = p.1.1.0; group = p.1.1.1.0; having = p.1.1.1.1 }

-- "SELECT" item { "," item } "FROM" sources limits
unfoldable pub select : SqlForm SelectTree
select = «as» select_made (after (key w.Select) (seq (commas item) (seq (after (key w.From) sources) limits)))

-- select { "UNION" "ALL" select }
unfoldable pub query : SqlForm QueryTree
query = listed (two_keys w.Union w.All) select

-- ---- statements

-- [ "NOT" "NULL" ]
unfoldable pub not_null : SqlForm Bool
not_null = «as» is_some (maybe (two_keys w.Not w.Null))

-- name kind [ "NOT" "NULL" ] [ "CODES" "(" text { "," text } ")" ]
unfoldable pub input_column : SqlForm InputColumn
input_column =
    «as» (λ p. record { name = p.0; kind = p.1.0; not_null = p.1.1.0; codes = p.1.1.1 })
    (seq name (seq (of_table kinds_table) (seq not_null (items_after (key w.Codes) (in_brackets texts)))))

-- "INPUT" name "(" col { "," col } ")" "KEY" "(" [ name { "," name } ] ")" ";"
unfoldable pub input : SqlForm StatementTree
input =
    «as» (λ p. tree.input (record { name = p.0; columns = p.1.0; key = p.1.1 }))
    (seq (after (key w.Input) name) (seq (in_brackets (commas input_column)) (before (after (key w.Key) (in_brackets («as» items_or_none (maybe names)))) (key w.Semicolon))))

-- "CREATE" "TABLE" name "AS" query ";"
unfoldable pub create : SqlForm StatementTree
create = «as» (λ p. tree.create p.0 p.1) (seq (after (two_keys w.Create w.Table) name) (before (after (key w.As) query) (key w.Semicolon)))

-- "EXPORT" name [ "ORDER" "BY" name { "," name } ] ";"
unfoldable pub export : SqlForm StatementTree
export = «as» (λ p. tree.export (record { name = p.0; order = p.1 })) (seq (after (key w.Export) name) (before (items_after (two_keys w.Order w.By) names) (key w.Semicolon)))

-- "SET" "SCALE" int "ROUNDING" ( "HALF_UP" | "HALF_EVEN" | "DOWN" ) ";"
unfoldable pub setting : SqlForm StatementTree
setting = «as» (λ p. tree.setting p.0 p.1) (seq (after (two_keys w.Set w.Scale) int) (before (after (key w.Rounding) (of_table roundings_table)) (key w.Semicolon)))

-- input | create | export
unfoldable pub statement : SqlForm StatementTree
statement = or input (or create export)

-- SET, then statements
unfoldable pub statement_at : ℕ → SqlForm StatementTree
statement_at zero = setting
statement_at (suc i) = statement
