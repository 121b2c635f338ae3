-- The tokens that a tree is written with: brackets stand only where the tree needs them.
use Rattle.std.specs.Prelude.{ℕ, Bool, true, false, List, [], ◌∷◌, ◌++◌, nat_le, Option, None, Some}
use Rattle.vtl_lists.specs.Options.{given}
use Rattle.grammar_forms.specs.Written.{between, run}
use Rattle.sql_lexer.specs.declared.token.TokenKind.TheVariants as t
use Rattle.sql_lexer.specs.declared.token.Word.{Word}
use Rattle.sql_lexer.specs.declared.token.Word.TheVariants as w
use Rattle.vtl_cell.specs.declared.operator.ScalarOp.{ScalarOp}
use Rattle.vtl_cell.specs.declared.operator.ScalarOp.TheVariants as op
use Rattle.vtl_cell.specs.declared.operator.AggKind.{AggKind}
use Rattle.vtl_cell.specs.declared.operator.AggKind.TheVariants as agg
use Rattle.vtl_cell.specs.declared.kind.Kind.{Kind}
use Rattle.vtl_cell.specs.declared.kind.Kind.TheVariants as kind
use Rattle.vtl_decimal.specs.declared.settings.Rounding.{Rounding}
use Rattle.vtl_decimal.specs.declared.settings.Rounding.TheVariants as rounding
use Rattle.sql_tree.specs.Grammar.{Tokens, digit_one}
use Rattle.sql_tree.specs.Trees.{Text, Exp, binary, unary, is_null, in_list, constant, column, call, count_all, aggregate, case_when, exists, Exps, no_exps, exp, Branches, no_branches, branch, ValueTree, expression, window, ItemTree, JoinTree, on, cross, SelectTree, QueryTree, StatementTree, setting, input, create, export, ScriptTree}
use Rattle.sql_tree.specs.declared.parts.Column.{Column}
use Rattle.sql_tree.specs.declared.parts.Source.{Source}
use Rattle.sql_tree.specs.declared.parts.Series.{Series}
use Rattle.sql_tree.specs.declared.parts.Equality.{Equality}
use Rattle.sql_tree.specs.declared.parts.Numeral.{Numeral}
use Rattle.sql_tree.specs.declared.parts.Numeral.TheVariants as numeral
use Rattle.sql_tree.specs.declared.parts.Constant.{Constant}
use Rattle.sql_tree.specs.declared.parts.Constant.TheVariants as c
use Rattle.sql_tree.specs.declared.parts.Literal.{Literal}
use Rattle.sql_tree.specs.declared.parts.Literal.TheVariants as l
use Rattle.sql_tree.specs.declared.windows.Window.{Window}
use Rattle.sql_tree.specs.declared.windows.WindowCall.{WindowCall}
use Rattle.sql_tree.specs.declared.windows.WindowCall.TheVariants as wcall
use Rattle.sql_tree.specs.declared.windows.Over.{Over}
use Rattle.sql_tree.specs.declared.windows.WindowKey.{WindowKey}
use Rattle.sql_tree.specs.declared.windows.Frame.{Frame}
use Rattle.sql_tree.specs.declared.windows.Bound.{Bound}
use Rattle.sql_tree.specs.declared.windows.Bound.TheVariants as bound
use Rattle.sql_tree.specs.declared.word_groups.JoinKind.{JoinKind}
use Rattle.sql_tree.specs.declared.word_groups.JoinKind.TheVariants as joins
use Rattle.sql_tree.specs.declared.word_groups.Direction.{Direction}
use Rattle.sql_tree.specs.declared.word_groups.Direction.TheVariants as direction
use Rattle.sql_tree.specs.declared.word_groups.Side.{Side}
use Rattle.sql_tree.specs.declared.word_groups.Side.TheVariants as side
use Rattle.sql_tree.specs.declared.word_groups.Span.{Span}
use Rattle.sql_tree.specs.declared.word_groups.Span.TheVariants as span
use Rattle.sql_tree.specs.declared.word_groups.ValueFunction.{ValueFunction}
use Rattle.sql_tree.specs.declared.word_groups.ValueFunction.TheVariants as value
use Rattle.sql_tree.specs.declared.word_groups.ShiftFunction.{ShiftFunction}
use Rattle.sql_tree.specs.declared.word_groups.ShiftFunction.TheVariants as shift
use Rattle.sql_tree.specs.declared.statements.InputColumn.{InputColumn}

-- ---- words

abbrev pub op_word : ScalarOp → Word
op_word op.Identity = w.Plus
op_word op.Negate = w.Minus
op_word op.Add = w.Plus
op_word op.Subtract = w.Minus
op_word op.Multiply = w.Star
op_word op.Divide = w.Slash
op_word op.Modulo = w.Mod
op_word op.Absolute = w.Abs
op_word op.Floor = w.Floor
op_word op.Ceil = w.Ceil
op_word op.Round = w.Round
op_word op.Truncate = w.Trunc
op_word op.Concat = w.Concat
op_word op.Trim = w.Trim
op_word op.TrimLeft = w.Ltrim
op_word op.TrimRight = w.Rtrim
op_word op.Substring = w.Substr
op_word op.Replace = w.Replace
op_word op.Position = w.Instr
op_word op.Length = w.Length
op_word op.Equal = w.Equal
op_word op.NotEqual = w.NotEqual
op_word op.Less = w.Less
op_word op.LessOrEqual = w.LessOrEqual
op_word op.Greater = w.Greater
op_word op.GreaterOrEqual = w.GreaterOrEqual
op_word op.Between = w.Between
op_word op.In = w.In
op_word op.NotIn = w.Not
op_word op.And = w.And
op_word op.Or = w.Or
op_word op.Xor = w.Xor
op_word op.Not = w.Not
op_word op.IsNull = w.Is
op_word op.ValueOr = w.Coalesce
op_word op.If = w.Case
op_word op.PeriodShift = w.PeriodShift
op_word op.PeriodFrequency = w.PeriodFrequency

abbrev pub aggregate_word : AggKind → Word
aggregate_word agg.Sum = w.Sum
aggregate_word agg.Avg = w.Avg
aggregate_word agg.Count = w.Count
aggregate_word agg.Min = w.Min
aggregate_word agg.Max = w.Max
aggregate_word agg.Median = w.Median

-- null is the kind of no column
abbrev pub kind_word : Kind → Word
kind_word kind.Null = w.Null
kind_word kind.Bool = w.Boolean
kind_word kind.Int = w.Integer
kind_word kind.Num = w.Number
kind_word kind.Text = w.Text
kind_word kind.Day = w.Date
kind_word kind.Period = w.Period

abbrev pub rounding_word : Rounding → Word
rounding_word rounding.HalfUp = w.HalfUp
rounding_word rounding.HalfEven = w.HalfEven
rounding_word rounding.Down = w.Down

abbrev pub join_word : JoinKind → Word
join_word joins.Inner = w.Inner
join_word joins.Left = w.Left
join_word joins.Full = w.Full

abbrev pub direction_word : Direction → Word
direction_word direction.Ascending = w.Asc
direction_word direction.Descending = w.Desc

abbrev pub side_word : Side → Word
side_word side.Preceding = w.Preceding
side_word side.Following = w.Following

abbrev pub span_word : Span → Word
span_word span.Single = w.Single
span_word span.All = w.All

abbrev pub value_word : ValueFunction → Word
value_word value.FirstValue = w.FirstValue
value_word value.LastValue = w.LastValue
value_word value.RatioToReport = w.RatioToReport

abbrev pub shift_word : ShiftFunction → Word
shift_word shift.Lag = w.Lag
shift_word shift.Lead = w.Lead

-- ---- brackets, by levels: the tightest form is 0, the loosest 7

abbrev pub op_level : ScalarOp → ℕ
op_level op.Or = 7
op_level op.Xor = 7
op_level op.And = 6
op_level op.Add = 3
op_level op.Subtract = 3
op_level op.Concat = 3
op_level op.Multiply = 2
op_level op.Divide = 2
op_level _ = 4

-- the loosest that stands before an operator without brackets
abbrev pub left_level : ScalarOp → ℕ
left_level op.Or = 7
left_level op.Xor = 7
left_level op.And = 6
left_level op.Multiply = 2
left_level op.Divide = 2
left_level _ = 3

-- and behind it
abbrev pub right_level : ScalarOp → ℕ
right_level op.Or = 6
right_level op.Xor = 6
right_level op.And = 5
right_level op.Add = 2
right_level op.Subtract = 2
right_level op.Concat = 2
right_level op.Multiply = 1
right_level op.Divide = 1
right_level _ = 3

-- of an operator before its operand, both its own level and that of what stands behind it
abbrev pub unary_level : ScalarOp → ℕ
unary_level op.Not = 5
unary_level _ = 1

abbrev pub level_of : Exp → ℕ
level_of (binary a o b) = op_level o
level_of (unary o e) = unary_level o
level_of (is_null e n) = 4
level_of (in_list e n ls) = 4
level_of _ = 0

abbrev pub just : Word → Tokens
just x = t.Word x ∷ []

abbrev pub bracketed : Tokens → Tokens
bracketed ts = t.Word w.Open ∷ (ts ++ just w.Close)

-- in brackets unless it may stand without
abbrev pub wrapped : Bool → Tokens → Tokens
wrapped true ts = ts
wrapped false ts = bracketed ts

abbrev pub not_word : Bool → Tokens
not_word true = just w.Not
not_word false = []

abbrev pub commas : {A : Type 0} → (A → Tokens) → List A → Tokens
commas f xs = between (just w.Comma) f xs

-- what stands behind some words, where there are any of it
abbrev pub items_after : {A : Type 0} → Tokens → (List A → Tokens) → List A → Tokens
items_after marks f [] = []
items_after marks f (x ∷ xs) = marks ++ f (x ∷ xs)

abbrev pub maybe_written : {A : Type 0} → (A → Tokens) → Option A → Tokens
maybe_written f o = given o f []

-- ---- parts

abbrev pub written_name : Text → Tokens
written_name x = t.Name x ∷ []

abbrev pub written_text : Text → Tokens
written_text x = t.Text x ∷ []

abbrev pub written_column : Column → Tokens
written_column x = t.Name x.source ∷ (t.Word w.Dot ∷ (t.Name x.name ∷ []))

abbrev pub written_series : Series → Tokens
written_series x = t.Word w.On ∷ (t.Name x.on ∷ (items_after (just w.By) (λ xs. bracketed (commas written_name xs)) x.by ++ just (span_word x.span)))

-- a table with its rows, or with those of its full series
abbrev pub written_given : Text → Option Series → Tokens
written_given table None = t.Name table ∷ []
written_given table (Some x) = t.Word w.Series ∷ (t.Name table ∷ written_series x)

abbrev pub written_source : Source → Tokens
written_source x = written_given x.table x.series ++ (t.Word w.As ∷ (t.Name x.alias ∷ []))

abbrev pub written_equality : Equality → Tokens
written_equality x = written_column x.left ++ (t.Word w.Equal ∷ written_column x.right)

abbrev pub written_number : Numeral → Tokens
written_number (numeral.Int x) = t.Int x ∷ []
written_number (numeral.Dec x) = t.Dec x ∷ []

abbrev pub written_constant : Constant → Tokens
written_constant (c.Number x) = written_number x
written_constant (c.Text x) = t.Text x ∷ []
written_constant c.True = just w.True
written_constant c.False = just w.False
written_constant c.Null = just w.Null
written_constant (c.Date x) = t.Word w.Date ∷ (t.Text x ∷ [])
written_constant (c.Period x) = t.Word w.Period ∷ (t.Text x ∷ [])

abbrev pub minus_word : Bool → Tokens
minus_word true = just w.Minus
minus_word false = []

abbrev pub written_literal : Literal → Tokens
written_literal (l.Number negative x) = minus_word negative ++ written_number x
written_literal (l.Text x) = t.Text x ∷ []
written_literal l.True = just w.True
written_literal l.False = just w.False
written_literal (l.Date x) = t.Word w.Date ∷ (t.Text x ∷ [])
written_literal (l.Period x) = t.Word w.Period ∷ (t.Text x ∷ [])

abbrev pub written_equalities : List Equality → Tokens
written_equalities es = items_after (just w.Where) (between (just w.And) written_equality) es

-- ---- expressions

abbrev mutual
  pub written : Exp → Tokens
  written (binary a o b) = wrapped (nat_le (level_of a) (left_level o)) (written a) ++ (t.Word (op_word o) ∷ wrapped (nat_le (level_of b) (right_level o)) (written b))
  written (unary o e) = t.Word (op_word o) ∷ wrapped (nat_le (level_of e) (unary_level o)) (written e)
  written (is_null e negated) = wrapped (nat_le (level_of e) 3) (written e) ++ (t.Word w.Is ∷ (not_word negated ++ just w.Null))
  written (in_list e negated ls) = wrapped (nat_le (level_of e) 3) (written e) ++ (not_word negated ++ (t.Word w.In ∷ bracketed (commas written_literal ls)))
  written (constant x) = written_constant x
  written (column x) = written_column x
  written (call f es) = t.Word (op_word f) ∷ bracketed (written_exps es)
  written count_all = t.Word w.Count ∷ bracketed (just w.Star)
  written (aggregate f e) = t.Word (aggregate_word f) ∷ bracketed (written e)
  written (case_when bs e) = t.Word w.Case ∷ (written_branches bs ++ (t.Word w.Else ∷ (written e ++ just w.End)))
  written (exists s es) = t.Word w.Exists ∷ bracketed (t.Word w.Select ∷ (t.Int (digit_one ∷ []) ∷ (t.Word w.From ∷ (written_source s ++ written_equalities es))))

  pub written_exps : Exps → Tokens
  written_exps no_exps = []
  written_exps (exp e es) = written e ++ more_exps es

  -- each behind a comma
  pub more_exps : Exps → Tokens
  more_exps no_exps = []
  more_exps (exp e es) = t.Word w.Comma ∷ (written e ++ more_exps es)

  pub written_branches : Branches → Tokens
  written_branches no_branches = []
  written_branches (branch e v bs) = (t.Word w.When ∷ (written e ++ (t.Word w.Then ∷ written v))) ++ written_branches bs

-- ---- windows

abbrev pub written_default : Option Literal → Tokens
written_default None = just w.Null
written_default (Some x) = written_literal x

abbrev pub written_call : WindowCall → Tokens
written_call (wcall.Aggregate f x) = t.Word (aggregate_word f) ∷ bracketed (written_column x)
written_call (wcall.Value f x) = t.Word (value_word f) ∷ bracketed (written_column x)
written_call (wcall.Shift f x rows default) = t.Word (shift_word f) ∷ bracketed (written_column x ++ (t.Word w.Comma ∷ (t.Int rows ∷ (t.Word w.Comma ∷ written_default default))))
written_call wcall.Rank = t.Word w.Rank ∷ bracketed []

abbrev pub written_key : WindowKey → Tokens
written_key x = written_column x.column ++ maybe_written (λ d. just (direction_word d)) x.direction

abbrev pub written_bound : Bound → Tokens
written_bound (bound.Unbounded s) = t.Word w.Unbounded ∷ just (side_word s)
written_bound (bound.Rows n s) = t.Int n ∷ just (side_word s)
written_bound bound.CurrentRow = t.Word w.Current ∷ just w.Row

abbrev pub written_frame : Frame → Tokens
written_frame x = t.Word w.Rows ∷ (t.Word w.Between ∷ (written_bound x.first ++ (t.Word w.And ∷ written_bound x.last)))

abbrev pub two_words : Word → Word → Tokens
two_words x y = t.Word x ∷ just y

abbrev pub written_over : Over → Tokens
written_over x =
    items_after (two_words w.Partition w.By) (commas written_column) x.partition
    ++ (items_after (two_words w.Order w.By) (commas written_key) x.order ++ maybe_written written_frame x.frame)

abbrev pub written_window : Window → Tokens
written_window x = written_call x.call ++ (t.Word w.Over ∷ bracketed (written_over x.over))

-- ---- queries

abbrev pub written_value : ValueTree → Tokens
written_value (expression e) = written e
written_value (window x) = written_window x

abbrev pub written_item : ItemTree → Tokens
written_item x = written_value x.value ++ (t.Word w.As ∷ written_name x.name)

abbrev pub written_join : JoinTree → Tokens
written_join (on k s e) = t.Word (join_word k) ∷ (t.Word w.Join ∷ (written_source s ++ (t.Word w.On ∷ written e)))
written_join (cross s) = t.Word w.Cross ∷ (t.Word w.Join ∷ written_source s)

abbrev pub written_sources : Source → List JoinTree → Tokens
written_sources s js = written_source s ++ run written_join js

abbrev pub behind_word : {A : Type 0} → Word → (A → Tokens) → A → Tokens
behind_word x f a = t.Word x ∷ f a

abbrev pub written_select : SelectTree → Tokens
written_select x =
    t.Word w.Select ∷ (commas written_item x.items ++ (t.Word w.From ∷ (written_sources x.source x.joins
    ++ (maybe_written (behind_word w.Where written) x.condition
    ++ (items_after (two_words w.Group w.By) (commas written_column) x.group
    ++ maybe_written (behind_word w.Having written) x.having)))))

abbrev pub written_query : QueryTree → Tokens
written_query q = between (two_words w.Union w.All) written_select q

-- ---- statements

abbrev pub not_null_words : Bool → Tokens
not_null_words true = two_words w.Not w.Null
not_null_words false = []

abbrev pub written_input_column : InputColumn → Tokens
written_input_column x = t.Name x.name ∷ (t.Word (kind_word x.kind) ∷ (not_null_words x.not_null ++ items_after (just w.Codes) (λ xs. bracketed (commas written_text xs)) x.codes))

abbrev pub written_statement : StatementTree → Tokens
written_statement (setting scale r) = t.Word w.Set ∷ (t.Word w.Scale ∷ (t.Int scale ∷ (t.Word w.Rounding ∷ (t.Word (rounding_word r) ∷ just w.Semicolon))))
written_statement (input s) = t.Word w.Input ∷ (t.Name s.name ∷ (bracketed (commas written_input_column s.columns) ++ (t.Word w.Key ∷ (bracketed (commas written_name s.key) ++ just w.Semicolon))))
written_statement (create name q) = t.Word w.Create ∷ (t.Word w.Table ∷ (t.Name name ∷ (t.Word w.As ∷ (written_query q ++ just w.Semicolon))))
written_statement (export s) = t.Word w.Export ∷ (t.Name s.name ∷ (items_after (two_words w.Order w.By) (commas written_name) s.order ++ just w.Semicolon))

abbrev pub written_script : ScriptTree → Tokens
written_script ss = run written_statement ss
