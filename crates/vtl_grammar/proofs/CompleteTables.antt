-- The tables of words: each word is read as itself.
use Rattle.std.proofs.Common.{◌≡◌, Bool, false, Some, refl}
use Rattle.vtl_lexer.specs.declared.keyword.Keyword.TheVariants as keyword
use Rattle.vtl_lexer.specs.declared.token.Sign.TheVariants as sign
use Rattle.vtl_lexer.specs.declared.token.TokenKind.{TokenKind}
use Rattle.vtl_lexer.specs.declared.token.TokenKind.TheVariants as token
use Rattle.vtl_grammar.specs.declared.call_forms.CallForm.{CallForm}
use Rattle.vtl_grammar.specs.declared.call_forms.CallForm.TheVariants as form
use Rattle.vtl_syntax.specs.declared.word_groups.Addition.{Addition}
use Rattle.vtl_syntax.specs.declared.word_groups.Addition.TheVariants as addition
use Rattle.vtl_syntax.specs.declared.word_groups.AggregateName.{AggregateName}
use Rattle.vtl_syntax.specs.declared.word_groups.AggregateName.TheVariants as aggregate_name
use Rattle.vtl_syntax.specs.declared.word_groups.AssignKind.{AssignKind}
use Rattle.vtl_syntax.specs.declared.word_groups.AssignKind.TheVariants as assign_kind
use Rattle.vtl_syntax.specs.declared.word_groups.BasicOut.{BasicOut}
use Rattle.vtl_syntax.specs.declared.word_groups.BasicOut.TheVariants as basic_out
use Rattle.vtl_syntax.specs.declared.word_groups.BinaryOp.{BinaryOp}
use Rattle.vtl_syntax.specs.declared.word_groups.BinaryOp.TheVariants as binary_op
use Rattle.vtl_syntax.specs.declared.word_groups.CastKind.{CastKind}
use Rattle.vtl_syntax.specs.declared.word_groups.CastKind.TheVariants as cast_kind
use Rattle.vtl_syntax.specs.declared.word_groups.CheckOut.{CheckOut}
use Rattle.vtl_syntax.specs.declared.word_groups.CheckOut.TheVariants as check_out
use Rattle.vtl_syntax.specs.declared.word_groups.Comparison.{Comparison}
use Rattle.vtl_syntax.specs.declared.word_groups.Comparison.TheVariants as comparison
use Rattle.vtl_syntax.specs.declared.word_groups.DifferenceName.{DifferenceName}
use Rattle.vtl_syntax.specs.declared.word_groups.DifferenceName.TheVariants as difference_name
use Rattle.vtl_syntax.specs.declared.word_groups.Direction.{Direction}
use Rattle.vtl_syntax.specs.declared.word_groups.Direction.TheVariants as direction
use Rattle.vtl_syntax.specs.declared.word_groups.FunctionName.{FunctionName}
use Rattle.vtl_syntax.specs.declared.word_groups.FunctionName.TheVariants as function_name
use Rattle.vtl_syntax.specs.declared.word_groups.GroupKind.{GroupKind}
use Rattle.vtl_syntax.specs.declared.word_groups.GroupKind.TheVariants as group_kind
use Rattle.vtl_syntax.specs.declared.word_groups.HierInput.{HierInput}
use Rattle.vtl_syntax.specs.declared.word_groups.HierInput.TheVariants as hier_input
use Rattle.vtl_syntax.specs.declared.word_groups.HierOut.{HierOut}
use Rattle.vtl_syntax.specs.declared.word_groups.HierOut.TheVariants as hier_out
use Rattle.vtl_syntax.specs.declared.word_groups.JoinKind.{JoinKind}
use Rattle.vtl_syntax.specs.declared.word_groups.JoinKind.TheVariants as join_kind
use Rattle.vtl_syntax.specs.declared.word_groups.Mode.{Mode}
use Rattle.vtl_syntax.specs.declared.word_groups.Mode.TheVariants as mode
use Rattle.vtl_syntax.specs.declared.word_groups.Retain.{Retain}
use Rattle.vtl_syntax.specs.declared.word_groups.Retain.TheVariants as retain
use Rattle.vtl_syntax.specs.declared.word_groups.Filling.{Filling}
use Rattle.vtl_syntax.specs.declared.word_groups.Filling.TheVariants as filling
use Rattle.vtl_syntax.specs.declared.word_groups.TimeName.{TimeName}
use Rattle.vtl_syntax.specs.declared.word_groups.TimeName.TheVariants as time_name
use Rattle.vtl_syntax.specs.declared.word_groups.SetOpName.{SetOpName}
use Rattle.vtl_syntax.specs.declared.word_groups.SetOpName.TheVariants as set_op_name
use Rattle.vtl_syntax.specs.declared.word_groups.ShiftName.{ShiftName}
use Rattle.vtl_syntax.specs.declared.word_groups.ShiftName.TheVariants as shift_name
use Rattle.vtl_syntax.specs.declared.word_groups.Side.{Side}
use Rattle.vtl_syntax.specs.declared.word_groups.Side.TheVariants as side
use Rattle.vtl_syntax.specs.declared.word_groups.UnaryOp.{UnaryOp}
use Rattle.vtl_syntax.specs.declared.word_groups.UnaryOp.TheVariants as unary_op
use Rattle.vtl_syntax.specs.declared.word_groups.ValueWindowName.{ValueWindowName}
use Rattle.vtl_syntax.specs.declared.word_groups.ValueWindowName.TheVariants as value_window_name
use Rattle.vtl_syntax.specs.declared.word_groups.WrittenRole.{WrittenRole}
use Rattle.vtl_syntax.specs.declared.word_groups.WrittenRole.TheVariants as written_role
use Rattle.vtl_grammar.specs.Words.{binary_op_token, unary_op_token, function_name_token, aggregate_name_token, value_window_name_token, shift_name_token, set_op_name_token, difference_name_token, join_kind_token, mode_token, basic_out_token, check_out_token, hier_input_token, hier_out_token, retain_token, time_name_token, filling_token, written_role_token, group_kind_token, direction_token, side_token, cast_kind_token, comparison_token, addition_token, assign_kind_token, form_token, addition_at, assign_kind_at, basic_out_at, binary_op_at, cast_kind_at, check_out_at, comparison_at, direction_at, form_at, group_kind_at, hier_input_at, hier_out_at, filling_at, mode_at, retain_at, side_at, unary_op_at, written_role_at}

pub binary_op_read : (x : BinaryOp) → binary_op_at (binary_op_token x) ≡ Some x
binary_op_read binary_op.Or = refl
binary_op_read binary_op.Xor = refl
binary_op_read binary_op.And = refl
binary_op_read binary_op.Equal = refl
binary_op_read binary_op.NotEqual = refl
binary_op_read binary_op.Less = refl
binary_op_read binary_op.LessOrEqual = refl
binary_op_read binary_op.Greater = refl
binary_op_read binary_op.GreaterOrEqual = refl
binary_op_read binary_op.Add = refl
binary_op_read binary_op.Subtract = refl
binary_op_read binary_op.Concat = refl
binary_op_read binary_op.Multiply = refl
binary_op_read binary_op.Divide = refl

pub binary_op_lacks : (p : TokenKind → Bool) → p (token.Keyword keyword.Or) ≡ false → p (token.Keyword keyword.Xor) ≡ false → p (token.Keyword keyword.And) ≡ false → p (token.Sign sign.Equal) ≡ false → p (token.Sign sign.NotEqual) ≡ false → p (token.Sign sign.Less) ≡ false → p (token.Sign sign.LessOrEqual) ≡ false → p (token.Sign sign.Greater) ≡ false → p (token.Sign sign.GreaterOrEqual) ≡ false → p (token.Sign sign.Plus) ≡ false → p (token.Sign sign.Minus) ≡ false → p (token.Sign sign.Concat) ≡ false → p (token.Sign sign.Star) ≡ false → p (token.Sign sign.Slash) ≡ false → (x : BinaryOp) → p (binary_op_token x) ≡ false
binary_op_lacks p h0 h1 h2 h3 h4 h5 h6 h7 h8 h9 h10 h11 h12 h13 binary_op.Or = h0
binary_op_lacks p h0 h1 h2 h3 h4 h5 h6 h7 h8 h9 h10 h11 h12 h13 binary_op.Xor = h1
binary_op_lacks p h0 h1 h2 h3 h4 h5 h6 h7 h8 h9 h10 h11 h12 h13 binary_op.And = h2
binary_op_lacks p h0 h1 h2 h3 h4 h5 h6 h7 h8 h9 h10 h11 h12 h13 binary_op.Equal = h3
binary_op_lacks p h0 h1 h2 h3 h4 h5 h6 h7 h8 h9 h10 h11 h12 h13 binary_op.NotEqual = h4
binary_op_lacks p h0 h1 h2 h3 h4 h5 h6 h7 h8 h9 h10 h11 h12 h13 binary_op.Less = h5
binary_op_lacks p h0 h1 h2 h3 h4 h5 h6 h7 h8 h9 h10 h11 h12 h13 binary_op.LessOrEqual = h6
binary_op_lacks p h0 h1 h2 h3 h4 h5 h6 h7 h8 h9 h10 h11 h12 h13 binary_op.Greater = h7
binary_op_lacks p h0 h1 h2 h3 h4 h5 h6 h7 h8 h9 h10 h11 h12 h13 binary_op.GreaterOrEqual = h8
binary_op_lacks p h0 h1 h2 h3 h4 h5 h6 h7 h8 h9 h10 h11 h12 h13 binary_op.Add = h9
binary_op_lacks p h0 h1 h2 h3 h4 h5 h6 h7 h8 h9 h10 h11 h12 h13 binary_op.Subtract = h10
binary_op_lacks p h0 h1 h2 h3 h4 h5 h6 h7 h8 h9 h10 h11 h12 h13 binary_op.Concat = h11
binary_op_lacks p h0 h1 h2 h3 h4 h5 h6 h7 h8 h9 h10 h11 h12 h13 binary_op.Multiply = h12
binary_op_lacks p h0 h1 h2 h3 h4 h5 h6 h7 h8 h9 h10 h11 h12 h13 binary_op.Divide = h13

pub unary_op_read : (x : UnaryOp) → unary_op_at (unary_op_token x) ≡ Some x
unary_op_read unary_op.Plus = refl
unary_op_read unary_op.Minus = refl
unary_op_read unary_op.Not = refl

pub unary_op_lacks : (p : TokenKind → Bool) → p (token.Sign sign.Plus) ≡ false → p (token.Sign sign.Minus) ≡ false → p (token.Keyword keyword.Not) ≡ false → (x : UnaryOp) → p (unary_op_token x) ≡ false
unary_op_lacks p h0 h1 h2 unary_op.Plus = h0
unary_op_lacks p h0 h1 h2 unary_op.Minus = h1
unary_op_lacks p h0 h1 h2 unary_op.Not = h2

pub aggregate_name_lacks : (p : TokenKind → Bool) → p (token.Keyword keyword.Sum) ≡ false → p (token.Keyword keyword.Avg) ≡ false → p (token.Keyword keyword.Count) ≡ false → p (token.Keyword keyword.Min) ≡ false → p (token.Keyword keyword.Max) ≡ false → p (token.Keyword keyword.Median) ≡ false → (x : AggregateName) → p (aggregate_name_token x) ≡ false
aggregate_name_lacks p h0 h1 h2 h3 h4 h5 aggregate_name.Sum = h0
aggregate_name_lacks p h0 h1 h2 h3 h4 h5 aggregate_name.Avg = h1
aggregate_name_lacks p h0 h1 h2 h3 h4 h5 aggregate_name.Count = h2
aggregate_name_lacks p h0 h1 h2 h3 h4 h5 aggregate_name.Min = h3
aggregate_name_lacks p h0 h1 h2 h3 h4 h5 aggregate_name.Max = h4
aggregate_name_lacks p h0 h1 h2 h3 h4 h5 aggregate_name.Median = h5

pub mode_read : (x : Mode) → mode_at (mode_token x) ≡ Some x
mode_read mode.NonNull = refl
mode_read mode.NonZero = refl
mode_read mode.PartialNull = refl
mode_read mode.PartialZero = refl
mode_read mode.AlwaysNull = refl
mode_read mode.AlwaysZero = refl

pub mode_lacks : (p : TokenKind → Bool) → p (token.Keyword keyword.NonNull) ≡ false → p (token.Keyword keyword.NonZero) ≡ false → p (token.Keyword keyword.PartialNull) ≡ false → p (token.Keyword keyword.PartialZero) ≡ false → p (token.Keyword keyword.AlwaysNull) ≡ false → p (token.Keyword keyword.AlwaysZero) ≡ false → (x : Mode) → p (mode_token x) ≡ false
mode_lacks p h0 h1 h2 h3 h4 h5 mode.NonNull = h0
mode_lacks p h0 h1 h2 h3 h4 h5 mode.NonZero = h1
mode_lacks p h0 h1 h2 h3 h4 h5 mode.PartialNull = h2
mode_lacks p h0 h1 h2 h3 h4 h5 mode.PartialZero = h3
mode_lacks p h0 h1 h2 h3 h4 h5 mode.AlwaysNull = h4
mode_lacks p h0 h1 h2 h3 h4 h5 mode.AlwaysZero = h5

pub basic_out_read : (x : BasicOut) → basic_out_at (basic_out_token x) ≡ Some x
basic_out_read basic_out.Invalid = refl
basic_out_read basic_out.All = refl

pub basic_out_lacks : (p : TokenKind → Bool) → p (token.Keyword keyword.Invalid) ≡ false → p (token.Keyword keyword.All) ≡ false → (x : BasicOut) → p (basic_out_token x) ≡ false
basic_out_lacks p h0 h1 basic_out.Invalid = h0
basic_out_lacks p h0 h1 basic_out.All = h1

pub check_out_read : (x : CheckOut) → check_out_at (check_out_token x) ≡ Some x
check_out_read check_out.Invalid = refl
check_out_read check_out.All = refl
check_out_read check_out.AllMeasures = refl

pub check_out_lacks : (p : TokenKind → Bool) → p (token.Keyword keyword.Invalid) ≡ false → p (token.Keyword keyword.All) ≡ false → p (token.Keyword keyword.AllMeasures) ≡ false → (x : CheckOut) → p (check_out_token x) ≡ false
check_out_lacks p h0 h1 h2 check_out.Invalid = h0
check_out_lacks p h0 h1 h2 check_out.All = h1
check_out_lacks p h0 h1 h2 check_out.AllMeasures = h2

pub hier_input_read : (x : HierInput) → hier_input_at (hier_input_token x) ≡ Some x
hier_input_read hier_input.Dataset = refl
hier_input_read hier_input.Rule = refl
hier_input_read hier_input.RulePriority = refl

pub hier_input_lacks : (p : TokenKind → Bool) → p (token.Keyword keyword.Dataset) ≡ false → p (token.Keyword keyword.Rule) ≡ false → p (token.Keyword keyword.RulePriority) ≡ false → (x : HierInput) → p (hier_input_token x) ≡ false
hier_input_lacks p h0 h1 h2 hier_input.Dataset = h0
hier_input_lacks p h0 h1 h2 hier_input.Rule = h1
hier_input_lacks p h0 h1 h2 hier_input.RulePriority = h2

pub hier_out_read : (x : HierOut) → hier_out_at (hier_out_token x) ≡ Some x
hier_out_read hier_out.Computed = refl
hier_out_read hier_out.All = refl

pub hier_out_lacks : (p : TokenKind → Bool) → p (token.Keyword keyword.Computed) ≡ false → p (token.Keyword keyword.All) ≡ false → (x : HierOut) → p (hier_out_token x) ≡ false
hier_out_lacks p h0 h1 hier_out.Computed = h0
hier_out_lacks p h0 h1 hier_out.All = h1

pub retain_read : (x : Retain) → retain_at (retain_token x) ≡ Some x
retain_read retain.All = refl
retain_read retain.True = refl
retain_read retain.False = refl

pub filling_read : (x : Filling) → filling_at (filling_token x) ≡ Some x
filling_read filling.Single = refl
filling_read filling.All = refl

pub retain_lacks : (p : TokenKind → Bool) → p (token.Keyword keyword.All) ≡ false → p (token.Keyword keyword.True) ≡ false → p (token.Keyword keyword.False) ≡ false → (x : Retain) → p (retain_token x) ≡ false
retain_lacks p h0 h1 h2 retain.All = h0
retain_lacks p h0 h1 h2 retain.True = h1
retain_lacks p h0 h1 h2 retain.False = h2

pub written_role_read : (x : WrittenRole) → written_role_at (written_role_token x) ≡ Some x
written_role_read written_role.Measure = refl
written_role_read written_role.Attribute = refl

pub written_role_lacks : (p : TokenKind → Bool) → p (token.Keyword keyword.Measure) ≡ false → p (token.Keyword keyword.Attribute) ≡ false → (x : WrittenRole) → p (written_role_token x) ≡ false
written_role_lacks p h0 h1 written_role.Measure = h0
written_role_lacks p h0 h1 written_role.Attribute = h1

pub group_kind_read : (x : GroupKind) → group_kind_at (group_kind_token x) ≡ Some x
group_kind_read group_kind.By = refl
group_kind_read group_kind.Except = refl

pub direction_read : (x : Direction) → direction_at (direction_token x) ≡ Some x
direction_read direction.Ascending = refl
direction_read direction.Descending = refl

pub direction_lacks : (p : TokenKind → Bool) → p (token.Keyword keyword.Asc) ≡ false → p (token.Keyword keyword.Desc) ≡ false → (x : Direction) → p (direction_token x) ≡ false
direction_lacks p h0 h1 direction.Ascending = h0
direction_lacks p h0 h1 direction.Descending = h1

pub side_read : (x : Side) → side_at (side_token x) ≡ Some x
side_read side.Preceding = refl
side_read side.Following = refl

pub cast_kind_read : (x : CastKind) → cast_kind_at (cast_kind_token x) ≡ Some x
cast_kind_read cast_kind.Date = refl
cast_kind_read cast_kind.TimePeriod = refl

pub comparison_read : (x : Comparison) → comparison_at (comparison_token x) ≡ Some x
comparison_read comparison.Equal = refl
comparison_read comparison.Less = refl
comparison_read comparison.LessOrEqual = refl
comparison_read comparison.Greater = refl
comparison_read comparison.GreaterOrEqual = refl

pub comparison_lacks : (p : TokenKind → Bool) → p (token.Sign sign.Equal) ≡ false → p (token.Sign sign.Less) ≡ false → p (token.Sign sign.LessOrEqual) ≡ false → p (token.Sign sign.Greater) ≡ false → p (token.Sign sign.GreaterOrEqual) ≡ false → (x : Comparison) → p (comparison_token x) ≡ false
comparison_lacks p h0 h1 h2 h3 h4 comparison.Equal = h0
comparison_lacks p h0 h1 h2 h3 h4 comparison.Less = h1
comparison_lacks p h0 h1 h2 h3 h4 comparison.LessOrEqual = h2
comparison_lacks p h0 h1 h2 h3 h4 comparison.Greater = h3
comparison_lacks p h0 h1 h2 h3 h4 comparison.GreaterOrEqual = h4

pub addition_read : (x : Addition) → addition_at (addition_token x) ≡ Some x
addition_read addition.Plus = refl
addition_read addition.Minus = refl

pub addition_lacks : (p : TokenKind → Bool) → p (token.Sign sign.Plus) ≡ false → p (token.Sign sign.Minus) ≡ false → (x : Addition) → p (addition_token x) ≡ false
addition_lacks p h0 h1 addition.Plus = h0
addition_lacks p h0 h1 addition.Minus = h1

pub assign_kind_read : (x : AssignKind) → assign_kind_at (assign_kind_token x) ≡ Some x
assign_kind_read assign_kind.Temporary = refl
assign_kind_read assign_kind.Persistent = refl

function_name_form : (f : FunctionName) → form_at (function_name_token f) ≡ Some (form.Function f)
function_name_form function_name.Abs = refl
function_name_form function_name.Floor = refl
function_name_form function_name.Ceil = refl
function_name_form function_name.Round = refl
function_name_form function_name.Trunc = refl
function_name_form function_name.Mod = refl
function_name_form function_name.Trim = refl
function_name_form function_name.Ltrim = refl
function_name_form function_name.Rtrim = refl
function_name_form function_name.Substr = refl
function_name_form function_name.Replace = refl
function_name_form function_name.Instr = refl
function_name_form function_name.Length = refl
function_name_form function_name.Isnull = refl
function_name_form function_name.Nvl = refl
function_name_form function_name.Between = refl

aggregate_name_form : (f : AggregateName) → form_at (aggregate_name_token f) ≡ Some (form.Aggregate f)
aggregate_name_form aggregate_name.Sum = refl
aggregate_name_form aggregate_name.Avg = refl
aggregate_name_form aggregate_name.Count = refl
aggregate_name_form aggregate_name.Min = refl
aggregate_name_form aggregate_name.Max = refl
aggregate_name_form aggregate_name.Median = refl

value_window_name_form : (f : ValueWindowName) → form_at (value_window_name_token f) ≡ Some (form.ValueWindow f)
value_window_name_form value_window_name.FirstValue = refl
value_window_name_form value_window_name.LastValue = refl
value_window_name_form value_window_name.RatioToReport = refl

shift_name_form : (f : ShiftName) → form_at (shift_name_token f) ≡ Some (form.Shift f)
shift_name_form shift_name.Lag = refl
shift_name_form shift_name.Lead = refl

set_op_name_form : (f : SetOpName) → form_at (set_op_name_token f) ≡ Some (form.SetOp f)
set_op_name_form set_op_name.Union = refl
set_op_name_form set_op_name.Intersect = refl

difference_name_form : (f : DifferenceName) → form_at (difference_name_token f) ≡ Some (form.Difference f)
difference_name_form difference_name.Setdiff = refl
difference_name_form difference_name.Symdiff = refl

time_name_form : (f : TimeName) → form_at (time_name_token f) ≡ Some (form.Time f)
time_name_form time_name.Timeshift = refl
time_name_form time_name.FillTimeSeries = refl
time_name_form time_name.FlowToStock = refl
time_name_form time_name.StockToFlow = refl

join_kind_form : (f : JoinKind) → form_at (join_kind_token f) ≡ Some (form.Join f)
join_kind_form join_kind.Inner = refl
join_kind_form join_kind.Left = refl
join_kind_form join_kind.Full = refl
join_kind_form join_kind.Cross = refl

pub form_read : (f : CallForm) → form_at (form_token f) ≡ Some f
form_read (form.Function f) = function_name_form f
form_read (form.Aggregate f) = aggregate_name_form f
form_read (form.ValueWindow f) = value_window_name_form f
form_read (form.Shift f) = shift_name_form f
form_read (form.SetOp f) = set_op_name_form f
form_read (form.Difference f) = difference_name_form f
form_read (form.Time f) = time_name_form f
form_read (form.Join f) = join_kind_form f
form_read form.Rank = refl
form_read form.ExistsIn = refl
form_read form.Check = refl
form_read form.CheckDatapoint = refl
form_read form.CheckHierarchy = refl
form_read form.Hierarchy = refl
form_read form.Cast = refl
