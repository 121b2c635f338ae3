-- The token of each word or sign of a group, and what of the group a token spells.
use Rattle.std.specs.Prelude.{ℕ, Bool, true, false, List, Option, None, Some}
use Rattle.vtl_lexer.specs.declared.keyword.Keyword.TheVariants as keyword
use Rattle.vtl_lexer.specs.declared.token.Sign.TheVariants as sign
use Rattle.vtl_lexer.specs.declared.token.TokenKind.{TokenKind}
use Rattle.vtl_lexer.specs.declared.token.TokenKind.TheVariants as token
use Rattle.vtl_syntax.specs.declared.parts.Comp.{Comp}
use Rattle.vtl_syntax.specs.declared.parts.Comp.TheVariants as comp
use Rattle.vtl_syntax.specs.declared.parts.Constant.{Constant}
use Rattle.vtl_syntax.specs.declared.parts.Constant.TheVariants as constant
use Rattle.vtl_syntax.specs.declared.parts.Numeral.{Numeral}
use Rattle.vtl_syntax.specs.declared.parts.Numeral.TheVariants as numeral
use Rattle.vtl_grammar.specs.declared.call_forms.CallForm.{CallForm}
use Rattle.vtl_grammar.specs.declared.call_forms.CallForm.TheVariants as form
use Rattle.vtl_syntax.specs.declared.word_groups.BinaryOp.{BinaryOp}
use Rattle.vtl_syntax.specs.declared.word_groups.BinaryOp.TheVariants as binary_op
use Rattle.vtl_syntax.specs.declared.word_groups.UnaryOp.{UnaryOp}
use Rattle.vtl_syntax.specs.declared.word_groups.UnaryOp.TheVariants as unary_op
use Rattle.vtl_syntax.specs.declared.word_groups.FunctionName.{FunctionName}
use Rattle.vtl_syntax.specs.declared.word_groups.FunctionName.TheVariants as function_name
use Rattle.vtl_syntax.specs.declared.word_groups.AggregateName.{AggregateName}
use Rattle.vtl_syntax.specs.declared.word_groups.AggregateName.TheVariants as aggregate_name
use Rattle.vtl_syntax.specs.declared.word_groups.Filling.{Filling}
use Rattle.vtl_syntax.specs.declared.word_groups.Filling.TheVariants as filling
use Rattle.vtl_syntax.specs.declared.word_groups.TimeName.{TimeName}
use Rattle.vtl_syntax.specs.declared.word_groups.TimeName.TheVariants as time_name
use Rattle.vtl_syntax.specs.declared.word_groups.ValueWindowName.{ValueWindowName}
use Rattle.vtl_syntax.specs.declared.word_groups.ValueWindowName.TheVariants as value_window_name
use Rattle.vtl_syntax.specs.declared.word_groups.ShiftName.{ShiftName}
use Rattle.vtl_syntax.specs.declared.word_groups.ShiftName.TheVariants as shift_name
use Rattle.vtl_syntax.specs.declared.word_groups.SetOpName.{SetOpName}
use Rattle.vtl_syntax.specs.declared.word_groups.SetOpName.TheVariants as set_op_name
use Rattle.vtl_syntax.specs.declared.word_groups.DifferenceName.{DifferenceName}
use Rattle.vtl_syntax.specs.declared.word_groups.DifferenceName.TheVariants as difference_name
use Rattle.vtl_syntax.specs.declared.word_groups.JoinKind.{JoinKind}
use Rattle.vtl_syntax.specs.declared.word_groups.JoinKind.TheVariants as join_kind
use Rattle.vtl_syntax.specs.declared.word_groups.Mode.{Mode}
use Rattle.vtl_syntax.specs.declared.word_groups.Mode.TheVariants as mode
use Rattle.vtl_syntax.specs.declared.word_groups.BasicOut.{BasicOut}
use Rattle.vtl_syntax.specs.declared.word_groups.BasicOut.TheVariants as basic_out
use Rattle.vtl_syntax.specs.declared.word_groups.CheckOut.{CheckOut}
use Rattle.vtl_syntax.specs.declared.word_groups.CheckOut.TheVariants as check_out
use Rattle.vtl_syntax.specs.declared.word_groups.HierInput.{HierInput}
use Rattle.vtl_syntax.specs.declared.word_groups.HierInput.TheVariants as hier_input
use Rattle.vtl_syntax.specs.declared.word_groups.HierOut.{HierOut}
use Rattle.vtl_syntax.specs.declared.word_groups.HierOut.TheVariants as hier_out
use Rattle.vtl_syntax.specs.declared.word_groups.Retain.{Retain}
use Rattle.vtl_syntax.specs.declared.word_groups.Retain.TheVariants as retain
use Rattle.vtl_syntax.specs.declared.word_groups.WrittenRole.{WrittenRole}
use Rattle.vtl_syntax.specs.declared.word_groups.WrittenRole.TheVariants as written_role
use Rattle.vtl_syntax.specs.declared.word_groups.GroupKind.{GroupKind}
use Rattle.vtl_syntax.specs.declared.word_groups.GroupKind.TheVariants as group_kind
use Rattle.vtl_syntax.specs.declared.word_groups.Direction.{Direction}
use Rattle.vtl_syntax.specs.declared.word_groups.Direction.TheVariants as direction
use Rattle.vtl_syntax.specs.declared.word_groups.Side.{Side}
use Rattle.vtl_syntax.specs.declared.word_groups.Side.TheVariants as side
use Rattle.vtl_syntax.specs.declared.word_groups.CastKind.{CastKind}
use Rattle.vtl_syntax.specs.declared.word_groups.CastKind.TheVariants as cast_kind
use Rattle.vtl_syntax.specs.declared.word_groups.Comparison.{Comparison}
use Rattle.vtl_syntax.specs.declared.word_groups.Comparison.TheVariants as comparison
use Rattle.vtl_syntax.specs.declared.word_groups.Addition.{Addition}
use Rattle.vtl_syntax.specs.declared.word_groups.Addition.TheVariants as addition
use Rattle.vtl_syntax.specs.declared.word_groups.AssignKind.{AssignKind}
use Rattle.vtl_syntax.specs.declared.word_groups.AssignKind.TheVariants as assign_kind

-- binary_op = "or" | "xor" | "and" | "=" | "<>" | "<" | "<=" | ">" | ">=" | "+" | "-" | "||" | "*" | "/"
abbrev pub binary_op_token : BinaryOp → TokenKind
binary_op_token binary_op.Or = token.Keyword keyword.Or
binary_op_token binary_op.Xor = token.Keyword keyword.Xor
binary_op_token binary_op.And = token.Keyword keyword.And
binary_op_token binary_op.Equal = token.Sign sign.Equal
binary_op_token binary_op.NotEqual = token.Sign sign.NotEqual
binary_op_token binary_op.Less = token.Sign sign.Less
binary_op_token binary_op.LessOrEqual = token.Sign sign.LessOrEqual
binary_op_token binary_op.Greater = token.Sign sign.Greater
binary_op_token binary_op.GreaterOrEqual = token.Sign sign.GreaterOrEqual
binary_op_token binary_op.Add = token.Sign sign.Plus
binary_op_token binary_op.Subtract = token.Sign sign.Minus
binary_op_token binary_op.Concat = token.Sign sign.Concat
binary_op_token binary_op.Multiply = token.Sign sign.Star
binary_op_token binary_op.Divide = token.Sign sign.Slash

abbrev pub binary_op_at : TokenKind → Option BinaryOp
binary_op_at (token.Keyword keyword.Or) = Some binary_op.Or
binary_op_at (token.Keyword keyword.Xor) = Some binary_op.Xor
binary_op_at (token.Keyword keyword.And) = Some binary_op.And
binary_op_at (token.Sign sign.Equal) = Some binary_op.Equal
binary_op_at (token.Sign sign.NotEqual) = Some binary_op.NotEqual
binary_op_at (token.Sign sign.Less) = Some binary_op.Less
binary_op_at (token.Sign sign.LessOrEqual) = Some binary_op.LessOrEqual
binary_op_at (token.Sign sign.Greater) = Some binary_op.Greater
binary_op_at (token.Sign sign.GreaterOrEqual) = Some binary_op.GreaterOrEqual
binary_op_at (token.Sign sign.Plus) = Some binary_op.Add
binary_op_at (token.Sign sign.Minus) = Some binary_op.Subtract
binary_op_at (token.Sign sign.Concat) = Some binary_op.Concat
binary_op_at (token.Sign sign.Star) = Some binary_op.Multiply
binary_op_at (token.Sign sign.Slash) = Some binary_op.Divide
binary_op_at _ = None

-- unary_op = "+" | "-" | "not"
abbrev pub unary_op_token : UnaryOp → TokenKind
unary_op_token unary_op.Plus = token.Sign sign.Plus
unary_op_token unary_op.Minus = token.Sign sign.Minus
unary_op_token unary_op.Not = token.Keyword keyword.Not

abbrev pub unary_op_at : TokenKind → Option UnaryOp
unary_op_at (token.Sign sign.Plus) = Some unary_op.Plus
unary_op_at (token.Sign sign.Minus) = Some unary_op.Minus
unary_op_at (token.Keyword keyword.Not) = Some unary_op.Not
unary_op_at _ = None

-- function_name = "abs" | "floor" | "ceil" | "round" | "trunc" | "mod" | "trim" | "ltrim" | "rtrim" | "substr" | "replace" | "instr" | "length" | "isnull" | "nvl" | "between"
abbrev pub function_name_token : FunctionName → TokenKind
function_name_token function_name.Abs = token.Keyword keyword.Abs
function_name_token function_name.Floor = token.Keyword keyword.Floor
function_name_token function_name.Ceil = token.Keyword keyword.Ceil
function_name_token function_name.Round = token.Keyword keyword.Round
function_name_token function_name.Trunc = token.Keyword keyword.Trunc
function_name_token function_name.Mod = token.Keyword keyword.Mod
function_name_token function_name.Trim = token.Keyword keyword.Trim
function_name_token function_name.Ltrim = token.Keyword keyword.Ltrim
function_name_token function_name.Rtrim = token.Keyword keyword.Rtrim
function_name_token function_name.Substr = token.Keyword keyword.Substr
function_name_token function_name.Replace = token.Keyword keyword.Replace
function_name_token function_name.Instr = token.Keyword keyword.Instr
function_name_token function_name.Length = token.Keyword keyword.Length
function_name_token function_name.Isnull = token.Keyword keyword.Isnull
function_name_token function_name.Nvl = token.Keyword keyword.Nvl
function_name_token function_name.Between = token.Keyword keyword.Between

-- aggregate_name = "sum" | "avg" | "count" | "min" | "max" | "median"
abbrev pub aggregate_name_token : AggregateName → TokenKind
aggregate_name_token aggregate_name.Sum = token.Keyword keyword.Sum
aggregate_name_token aggregate_name.Avg = token.Keyword keyword.Avg
aggregate_name_token aggregate_name.Count = token.Keyword keyword.Count
aggregate_name_token aggregate_name.Min = token.Keyword keyword.Min
aggregate_name_token aggregate_name.Max = token.Keyword keyword.Max
aggregate_name_token aggregate_name.Median = token.Keyword keyword.Median

-- value_window_name = "first_value" | "last_value" | "ratio_to_report"
abbrev pub value_window_name_token : ValueWindowName → TokenKind
value_window_name_token value_window_name.FirstValue = token.Keyword keyword.FirstValue
value_window_name_token value_window_name.LastValue = token.Keyword keyword.LastValue
value_window_name_token value_window_name.RatioToReport = token.Keyword keyword.RatioToReport

-- shift_name = "lag" | "lead"
abbrev pub shift_name_token : ShiftName → TokenKind
shift_name_token shift_name.Lag = token.Keyword keyword.Lag
shift_name_token shift_name.Lead = token.Keyword keyword.Lead

-- set_op_name = "union" | "intersect"
abbrev pub set_op_name_token : SetOpName → TokenKind
set_op_name_token set_op_name.Union = token.Keyword keyword.Union
set_op_name_token set_op_name.Intersect = token.Keyword keyword.Intersect

-- difference_name = "setdiff" | "symdiff"
abbrev pub difference_name_token : DifferenceName → TokenKind
difference_name_token difference_name.Setdiff = token.Keyword keyword.Setdiff
difference_name_token difference_name.Symdiff = token.Keyword keyword.Symdiff

-- join_kind = "inner_join" | "left_join" | "full_join" | "cross_join"
abbrev pub join_kind_token : JoinKind → TokenKind
join_kind_token join_kind.Inner = token.Keyword keyword.InnerJoin
join_kind_token join_kind.Left = token.Keyword keyword.LeftJoin
join_kind_token join_kind.Full = token.Keyword keyword.FullJoin
join_kind_token join_kind.Cross = token.Keyword keyword.CrossJoin

-- mode = "non_null" | "non_zero" | "partial_null" | "partial_zero" | "always_null" | "always_zero"
abbrev pub mode_token : Mode → TokenKind
mode_token mode.NonNull = token.Keyword keyword.NonNull
mode_token mode.NonZero = token.Keyword keyword.NonZero
mode_token mode.PartialNull = token.Keyword keyword.PartialNull
mode_token mode.PartialZero = token.Keyword keyword.PartialZero
mode_token mode.AlwaysNull = token.Keyword keyword.AlwaysNull
mode_token mode.AlwaysZero = token.Keyword keyword.AlwaysZero

abbrev pub mode_at : TokenKind → Option Mode
mode_at (token.Keyword keyword.NonNull) = Some mode.NonNull
mode_at (token.Keyword keyword.NonZero) = Some mode.NonZero
mode_at (token.Keyword keyword.PartialNull) = Some mode.PartialNull
mode_at (token.Keyword keyword.PartialZero) = Some mode.PartialZero
mode_at (token.Keyword keyword.AlwaysNull) = Some mode.AlwaysNull
mode_at (token.Keyword keyword.AlwaysZero) = Some mode.AlwaysZero
mode_at _ = None

-- basic_out = "invalid" | "all"
abbrev pub basic_out_token : BasicOut → TokenKind
basic_out_token basic_out.Invalid = token.Keyword keyword.Invalid
basic_out_token basic_out.All = token.Keyword keyword.All

abbrev pub basic_out_at : TokenKind → Option BasicOut
basic_out_at (token.Keyword keyword.Invalid) = Some basic_out.Invalid
basic_out_at (token.Keyword keyword.All) = Some basic_out.All
basic_out_at _ = None

-- check_out = "invalid" | "all" | "all_measures"
abbrev pub check_out_token : CheckOut → TokenKind
check_out_token check_out.Invalid = token.Keyword keyword.Invalid
check_out_token check_out.All = token.Keyword keyword.All
check_out_token check_out.AllMeasures = token.Keyword keyword.AllMeasures

abbrev pub check_out_at : TokenKind → Option CheckOut
check_out_at (token.Keyword keyword.Invalid) = Some check_out.Invalid
check_out_at (token.Keyword keyword.All) = Some check_out.All
check_out_at (token.Keyword keyword.AllMeasures) = Some check_out.AllMeasures
check_out_at _ = None

-- hier_input = "dataset" | "rule" | "rule_priority"
abbrev pub hier_input_token : HierInput → TokenKind
hier_input_token hier_input.Dataset = token.Keyword keyword.Dataset
hier_input_token hier_input.Rule = token.Keyword keyword.Rule
hier_input_token hier_input.RulePriority = token.Keyword keyword.RulePriority

abbrev pub hier_input_at : TokenKind → Option HierInput
hier_input_at (token.Keyword keyword.Dataset) = Some hier_input.Dataset
hier_input_at (token.Keyword keyword.Rule) = Some hier_input.Rule
hier_input_at (token.Keyword keyword.RulePriority) = Some hier_input.RulePriority
hier_input_at _ = None

-- hier_out = "computed" | "all"
abbrev pub hier_out_token : HierOut → TokenKind
hier_out_token hier_out.Computed = token.Keyword keyword.Computed
hier_out_token hier_out.All = token.Keyword keyword.All

abbrev pub hier_out_at : TokenKind → Option HierOut
hier_out_at (token.Keyword keyword.Computed) = Some hier_out.Computed
hier_out_at (token.Keyword keyword.All) = Some hier_out.All
hier_out_at _ = None

-- retain = "all" | "true" | "false"
abbrev pub retain_token : Retain → TokenKind
retain_token retain.All = token.Keyword keyword.All
retain_token retain.True = token.Keyword keyword.True
retain_token retain.False = token.Keyword keyword.False

abbrev pub retain_at : TokenKind → Option Retain
retain_at (token.Keyword keyword.All) = Some retain.All
retain_at (token.Keyword keyword.True) = Some retain.True
retain_at (token.Keyword keyword.False) = Some retain.False
retain_at _ = None

-- the time operators
abbrev pub time_name_token : TimeName → TokenKind
time_name_token time_name.Timeshift = token.Keyword keyword.Timeshift
time_name_token time_name.FillTimeSeries = token.Keyword keyword.FillTimeSeries
time_name_token time_name.FlowToStock = token.Keyword keyword.FlowToStock
time_name_token time_name.StockToFlow = token.Keyword keyword.StockToFlow

-- filling = "single" | "all"
abbrev pub filling_token : Filling → TokenKind
filling_token filling.Single = token.Keyword keyword.Single
filling_token filling.All = token.Keyword keyword.All

abbrev pub filling_at : TokenKind → Option Filling
filling_at (token.Keyword keyword.Single) = Some filling.Single
filling_at (token.Keyword keyword.All) = Some filling.All
filling_at _ = None

-- written_role = "measure" | "attribute"
abbrev pub written_role_token : WrittenRole → TokenKind
written_role_token written_role.Measure = token.Keyword keyword.Measure
written_role_token written_role.Attribute = token.Keyword keyword.Attribute

abbrev pub written_role_at : TokenKind → Option WrittenRole
written_role_at (token.Keyword keyword.Measure) = Some written_role.Measure
written_role_at (token.Keyword keyword.Attribute) = Some written_role.Attribute
written_role_at _ = None

-- group_kind = "by" | "except"
abbrev pub group_kind_token : GroupKind → TokenKind
group_kind_token group_kind.By = token.Keyword keyword.By
group_kind_token group_kind.Except = token.Keyword keyword.Except

abbrev pub group_kind_at : TokenKind → Option GroupKind
group_kind_at (token.Keyword keyword.By) = Some group_kind.By
group_kind_at (token.Keyword keyword.Except) = Some group_kind.Except
group_kind_at _ = None

-- direction = "asc" | "desc"
abbrev pub direction_token : Direction → TokenKind
direction_token direction.Ascending = token.Keyword keyword.Asc
direction_token direction.Descending = token.Keyword keyword.Desc

abbrev pub direction_at : TokenKind → Option Direction
direction_at (token.Keyword keyword.Asc) = Some direction.Ascending
direction_at (token.Keyword keyword.Desc) = Some direction.Descending
direction_at _ = None

-- side = "preceding" | "following"
abbrev pub side_token : Side → TokenKind
side_token side.Preceding = token.Keyword keyword.Preceding
side_token side.Following = token.Keyword keyword.Following

abbrev pub side_at : TokenKind → Option Side
side_at (token.Keyword keyword.Preceding) = Some side.Preceding
side_at (token.Keyword keyword.Following) = Some side.Following
side_at _ = None

-- cast_kind = "date" | "time_period"
abbrev pub cast_kind_token : CastKind → TokenKind
cast_kind_token cast_kind.Date = token.Keyword keyword.Date
cast_kind_token cast_kind.TimePeriod = token.Keyword keyword.TimePeriod

abbrev pub cast_kind_at : TokenKind → Option CastKind
cast_kind_at (token.Keyword keyword.Date) = Some cast_kind.Date
cast_kind_at (token.Keyword keyword.TimePeriod) = Some cast_kind.TimePeriod
cast_kind_at _ = None

-- comparison = "=" | "<" | "<=" | ">" | ">="
abbrev pub comparison_token : Comparison → TokenKind
comparison_token comparison.Equal = token.Sign sign.Equal
comparison_token comparison.Less = token.Sign sign.Less
comparison_token comparison.LessOrEqual = token.Sign sign.LessOrEqual
comparison_token comparison.Greater = token.Sign sign.Greater
comparison_token comparison.GreaterOrEqual = token.Sign sign.GreaterOrEqual

abbrev pub comparison_at : TokenKind → Option Comparison
comparison_at (token.Sign sign.Equal) = Some comparison.Equal
comparison_at (token.Sign sign.Less) = Some comparison.Less
comparison_at (token.Sign sign.LessOrEqual) = Some comparison.LessOrEqual
comparison_at (token.Sign sign.Greater) = Some comparison.Greater
comparison_at (token.Sign sign.GreaterOrEqual) = Some comparison.GreaterOrEqual
comparison_at _ = None

-- addition = "+" | "-"
abbrev pub addition_token : Addition → TokenKind
addition_token addition.Plus = token.Sign sign.Plus
addition_token addition.Minus = token.Sign sign.Minus

abbrev pub addition_at : TokenKind → Option Addition
addition_at (token.Sign sign.Plus) = Some addition.Plus
addition_at (token.Sign sign.Minus) = Some addition.Minus
addition_at _ = None

-- assign_kind = ":=" | "<-"
abbrev pub assign_kind_token : AssignKind → TokenKind
assign_kind_token assign_kind.Temporary = token.Sign sign.Assign
assign_kind_token assign_kind.Persistent = token.Sign sign.Persist

abbrev pub assign_kind_at : TokenKind → Option AssignKind
assign_kind_at (token.Sign sign.Assign) = Some assign_kind.Temporary
assign_kind_at (token.Sign sign.Persist) = Some assign_kind.Persistent
assign_kind_at _ = None

-- the word before the brackets of a call
abbrev pub form_token : CallForm → TokenKind
form_token (form.Function f) = function_name_token f
form_token (form.Aggregate f) = aggregate_name_token f
form_token (form.ValueWindow f) = value_window_name_token f
form_token (form.Shift f) = shift_name_token f
form_token form.Rank = token.Keyword keyword.Rank
form_token (form.SetOp f) = set_op_name_token f
form_token (form.Difference f) = difference_name_token f
form_token form.ExistsIn = token.Keyword keyword.ExistsIn
form_token (form.Time f) = time_name_token f
form_token form.Check = token.Keyword keyword.Check
form_token form.CheckDatapoint = token.Keyword keyword.CheckDatapoint
form_token form.CheckHierarchy = token.Keyword keyword.CheckHierarchy
form_token form.Hierarchy = token.Keyword keyword.Hierarchy
form_token (form.Join f) = join_kind_token f
form_token form.Cast = token.Keyword keyword.Cast

abbrev pub form_at : TokenKind → Option CallForm
form_at (token.Keyword keyword.Abs) = Some (form.Function function_name.Abs)
form_at (token.Keyword keyword.Floor) = Some (form.Function function_name.Floor)
form_at (token.Keyword keyword.Ceil) = Some (form.Function function_name.Ceil)
form_at (token.Keyword keyword.Round) = Some (form.Function function_name.Round)
form_at (token.Keyword keyword.Trunc) = Some (form.Function function_name.Trunc)
form_at (token.Keyword keyword.Mod) = Some (form.Function function_name.Mod)
form_at (token.Keyword keyword.Trim) = Some (form.Function function_name.Trim)
form_at (token.Keyword keyword.Ltrim) = Some (form.Function function_name.Ltrim)
form_at (token.Keyword keyword.Rtrim) = Some (form.Function function_name.Rtrim)
form_at (token.Keyword keyword.Substr) = Some (form.Function function_name.Substr)
form_at (token.Keyword keyword.Replace) = Some (form.Function function_name.Replace)
form_at (token.Keyword keyword.Instr) = Some (form.Function function_name.Instr)
form_at (token.Keyword keyword.Length) = Some (form.Function function_name.Length)
form_at (token.Keyword keyword.Isnull) = Some (form.Function function_name.Isnull)
form_at (token.Keyword keyword.Nvl) = Some (form.Function function_name.Nvl)
form_at (token.Keyword keyword.Between) = Some (form.Function function_name.Between)
form_at (token.Keyword keyword.Sum) = Some (form.Aggregate aggregate_name.Sum)
form_at (token.Keyword keyword.Avg) = Some (form.Aggregate aggregate_name.Avg)
form_at (token.Keyword keyword.Count) = Some (form.Aggregate aggregate_name.Count)
form_at (token.Keyword keyword.Min) = Some (form.Aggregate aggregate_name.Min)
form_at (token.Keyword keyword.Max) = Some (form.Aggregate aggregate_name.Max)
form_at (token.Keyword keyword.Median) = Some (form.Aggregate aggregate_name.Median)
form_at (token.Keyword keyword.FirstValue) = Some (form.ValueWindow value_window_name.FirstValue)
form_at (token.Keyword keyword.LastValue) = Some (form.ValueWindow value_window_name.LastValue)
form_at (token.Keyword keyword.RatioToReport) = Some (form.ValueWindow value_window_name.RatioToReport)
form_at (token.Keyword keyword.Lag) = Some (form.Shift shift_name.Lag)
form_at (token.Keyword keyword.Lead) = Some (form.Shift shift_name.Lead)
form_at (token.Keyword keyword.Rank) = Some form.Rank
form_at (token.Keyword keyword.Union) = Some (form.SetOp set_op_name.Union)
form_at (token.Keyword keyword.Intersect) = Some (form.SetOp set_op_name.Intersect)
form_at (token.Keyword keyword.Setdiff) = Some (form.Difference difference_name.Setdiff)
form_at (token.Keyword keyword.Symdiff) = Some (form.Difference difference_name.Symdiff)
form_at (token.Keyword keyword.ExistsIn) = Some form.ExistsIn
form_at (token.Keyword keyword.Timeshift) = Some (form.Time time_name.Timeshift)
form_at (token.Keyword keyword.FillTimeSeries) = Some (form.Time time_name.FillTimeSeries)
form_at (token.Keyword keyword.FlowToStock) = Some (form.Time time_name.FlowToStock)
form_at (token.Keyword keyword.StockToFlow) = Some (form.Time time_name.StockToFlow)
form_at (token.Keyword keyword.Check) = Some form.Check
form_at (token.Keyword keyword.CheckDatapoint) = Some form.CheckDatapoint
form_at (token.Keyword keyword.CheckHierarchy) = Some form.CheckHierarchy
form_at (token.Keyword keyword.Hierarchy) = Some form.Hierarchy
form_at (token.Keyword keyword.InnerJoin) = Some (form.Join join_kind.Inner)
form_at (token.Keyword keyword.LeftJoin) = Some (form.Join join_kind.Left)
form_at (token.Keyword keyword.FullJoin) = Some (form.Join join_kind.Full)
form_at (token.Keyword keyword.CrossJoin) = Some (form.Join join_kind.Cross)
form_at (token.Keyword keyword.Cast) = Some form.Cast
form_at _ = None

-- names, texts and numbers
abbrev pub name_at : TokenKind → Option (List ℕ)
name_at (token.Name n) = Some n
name_at _ = None

abbrev pub string_at : TokenKind → Option (List ℕ)
string_at (token.String s) = Some s
string_at _ = None

abbrev pub integer_at : TokenKind → Option (List ℕ)
integer_at (token.Integer d) = Some d
integer_at _ = None

-- comp = NAME | QUOTED_NAME
abbrev pub comp_token : Comp → TokenKind
comp_token (comp.Name n) = token.Name n
comp_token (comp.Quoted n) = token.QuotedName n

abbrev pub comp_at : TokenKind → Option Comp
comp_at (token.Name n) = Some (comp.Name n)
comp_at (token.QuotedName n) = Some (comp.Quoted n)
comp_at _ = None

abbrev pub numeral_token : Numeral → TokenKind
numeral_token (numeral.Integer d) = token.Integer d
numeral_token (numeral.Decimal d) = token.Decimal d

abbrev pub numeral_at : TokenKind → Option Numeral
numeral_at (token.Integer d) = Some (numeral.Integer d)
numeral_at (token.Decimal d) = Some (numeral.Decimal d)
numeral_at _ = None

abbrev pub boolean_token : Bool → TokenKind
boolean_token true = token.Keyword keyword.True
boolean_token false = token.Keyword keyword.False

-- a constant of one token
abbrev pub constant_at : TokenKind → Option Constant
constant_at (token.Integer d) = Some (constant.Number (numeral.Integer d))
constant_at (token.Decimal d) = Some (constant.Number (numeral.Decimal d))
constant_at (token.String s) = Some (constant.String s)
constant_at (token.Keyword keyword.True) = Some (constant.Boolean true)
constant_at (token.Keyword keyword.False) = Some (constant.Boolean false)
constant_at (token.Keyword keyword.Null) = Some constant.Null
constant_at _ = None

-- `in` and `not_in`
abbrev pub in_token : Bool → TokenKind
in_token true = token.Keyword keyword.NotIn
in_token false = token.Keyword keyword.In

abbrev pub in_at : TokenKind → Option Bool
in_at (token.Keyword keyword.NotIn) = Some true
in_at (token.Keyword keyword.In) = Some false
in_at _ = None
