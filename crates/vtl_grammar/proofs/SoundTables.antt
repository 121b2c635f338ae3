-- What a token is, where a table gives a word for it.
use Rattle.std.proofs.Common.{◌≡◌, ◌∷◌, true, false, refl}
use Rattle.vtl_lexer.specs.declared.keyword.Keyword.TheVariants as keyword
use Rattle.vtl_lexer.specs.declared.token.Sign.TheVariants as sign
use Rattle.vtl_lexer.specs.declared.token.TokenKind.{TokenKind}
use Rattle.vtl_lexer.specs.declared.token.TokenKind.TheVariants as token
use Rattle.vtl_syntax.specs.declared.parts.Comp.TheVariants as comp
use Rattle.vtl_syntax.specs.declared.parts.Constant.TheVariants as constant
use Rattle.vtl_syntax.specs.declared.parts.Numeral.TheVariants as numeral
use Rattle.vtl_grammar.specs.declared.call_forms.CallForm.TheVariants as form
use Rattle.vtl_syntax.specs.declared.word_groups.BinaryOp.TheVariants as binary_op
use Rattle.vtl_syntax.specs.declared.word_groups.UnaryOp.TheVariants as unary_op
use Rattle.vtl_syntax.specs.declared.word_groups.FunctionName.TheVariants as function_name
use Rattle.vtl_syntax.specs.declared.word_groups.AggregateName.TheVariants as aggregate_name
use Rattle.vtl_syntax.specs.declared.word_groups.ValueWindowName.TheVariants as value_window_name
use Rattle.vtl_syntax.specs.declared.word_groups.ShiftName.TheVariants as shift_name
use Rattle.vtl_syntax.specs.declared.word_groups.SetOpName.TheVariants as set_op_name
use Rattle.vtl_syntax.specs.declared.word_groups.DifferenceName.TheVariants as difference_name
use Rattle.vtl_syntax.specs.declared.word_groups.JoinKind.TheVariants as join_kind
use Rattle.vtl_syntax.specs.declared.word_groups.Mode.TheVariants as mode
use Rattle.vtl_syntax.specs.declared.word_groups.BasicOut.TheVariants as basic_out
use Rattle.vtl_syntax.specs.declared.word_groups.CheckOut.TheVariants as check_out
use Rattle.vtl_syntax.specs.declared.word_groups.HierInput.TheVariants as hier_input
use Rattle.vtl_syntax.specs.declared.word_groups.HierOut.TheVariants as hier_out
use Rattle.vtl_syntax.specs.declared.word_groups.Retain.TheVariants as retain
use Rattle.vtl_syntax.specs.declared.word_groups.Filling.TheVariants as filling
use Rattle.vtl_syntax.specs.declared.word_groups.TimeName.TheVariants as time_name
use Rattle.vtl_syntax.specs.declared.word_groups.WrittenRole.TheVariants as written_role
use Rattle.vtl_syntax.specs.declared.word_groups.GroupKind.TheVariants as group_kind
use Rattle.vtl_syntax.specs.declared.word_groups.Direction.TheVariants as direction
use Rattle.vtl_syntax.specs.declared.word_groups.Side.TheVariants as side
use Rattle.vtl_syntax.specs.declared.word_groups.CastKind.TheVariants as cast_kind
use Rattle.vtl_syntax.specs.declared.word_groups.Comparison.TheVariants as comparison
use Rattle.vtl_syntax.specs.declared.word_groups.Addition.TheVariants as addition
use Rattle.vtl_syntax.specs.declared.word_groups.AssignKind.TheVariants as assign_kind
use Rattle.vtl_grammar.specs.Grammar.{Tokens, constant_onto}
use Rattle.vtl_grammar.specs.Words.{addition_at, addition_token, assign_kind_at, assign_kind_token, basic_out_at, basic_out_token, binary_op_at, binary_op_token, cast_kind_at, cast_kind_token, check_out_at, check_out_token, comp_at, comp_token, comparison_at, comparison_token, constant_at, direction_at, direction_token, filling_at, filling_token, form_at, form_token, group_kind_at, group_kind_token, hier_input_at, hier_input_token, hier_out_at, hier_out_token, in_at, in_token, integer_at, mode_at, mode_token, name_at, numeral_at, numeral_token, retain_at, retain_token, side_at, side_token, string_at, unary_op_at, unary_op_token, written_role_at, written_role_token}
use Rattle.vtl_grammar.proofs.SoundSteps.{Gives, none_gives, some_gives}

pub binary_op_table : (t : TokenKind) → Gives (λ x. t ≡ binary_op_token x) (binary_op_at t)
binary_op_table (token.Keyword keyword.Or) = some_gives binary_op.Or refl
binary_op_table (token.Keyword keyword.Xor) = some_gives binary_op.Xor refl
binary_op_table (token.Keyword keyword.And) = some_gives binary_op.And refl
binary_op_table (token.Sign sign.Equal) = some_gives binary_op.Equal refl
binary_op_table (token.Sign sign.NotEqual) = some_gives binary_op.NotEqual refl
binary_op_table (token.Sign sign.Less) = some_gives binary_op.Less refl
binary_op_table (token.Sign sign.LessOrEqual) = some_gives binary_op.LessOrEqual refl
binary_op_table (token.Sign sign.Greater) = some_gives binary_op.Greater refl
binary_op_table (token.Sign sign.GreaterOrEqual) = some_gives binary_op.GreaterOrEqual refl
binary_op_table (token.Sign sign.Plus) = some_gives binary_op.Add refl
binary_op_table (token.Sign sign.Minus) = some_gives binary_op.Subtract refl
binary_op_table (token.Sign sign.Concat) = some_gives binary_op.Concat refl
binary_op_table (token.Sign sign.Star) = some_gives binary_op.Multiply refl
binary_op_table (token.Sign sign.Slash) = some_gives binary_op.Divide refl
binary_op_table _ = none_gives

pub unary_op_table : (t : TokenKind) → Gives (λ x. t ≡ unary_op_token x) (unary_op_at t)
unary_op_table (token.Sign sign.Plus) = some_gives unary_op.Plus refl
unary_op_table (token.Sign sign.Minus) = some_gives unary_op.Minus refl
unary_op_table (token.Keyword keyword.Not) = some_gives unary_op.Not refl
unary_op_table _ = none_gives

pub mode_table : (t : TokenKind) → Gives (λ x. t ≡ mode_token x) (mode_at t)
mode_table (token.Keyword keyword.NonNull) = some_gives mode.NonNull refl
mode_table (token.Keyword keyword.NonZero) = some_gives mode.NonZero refl
mode_table (token.Keyword keyword.PartialNull) = some_gives mode.PartialNull refl
mode_table (token.Keyword keyword.PartialZero) = some_gives mode.PartialZero refl
mode_table (token.Keyword keyword.AlwaysNull) = some_gives mode.AlwaysNull refl
mode_table (token.Keyword keyword.AlwaysZero) = some_gives mode.AlwaysZero refl
mode_table _ = none_gives

pub basic_out_table : (t : TokenKind) → Gives (λ x. t ≡ basic_out_token x) (basic_out_at t)
basic_out_table (token.Keyword keyword.Invalid) = some_gives basic_out.Invalid refl
basic_out_table (token.Keyword keyword.All) = some_gives basic_out.All refl
basic_out_table _ = none_gives

pub check_out_table : (t : TokenKind) → Gives (λ x. t ≡ check_out_token x) (check_out_at t)
check_out_table (token.Keyword keyword.Invalid) = some_gives check_out.Invalid refl
check_out_table (token.Keyword keyword.All) = some_gives check_out.All refl
check_out_table (token.Keyword keyword.AllMeasures) = some_gives check_out.AllMeasures refl
check_out_table _ = none_gives

pub hier_input_table : (t : TokenKind) → Gives (λ x. t ≡ hier_input_token x) (hier_input_at t)
hier_input_table (token.Keyword keyword.Dataset) = some_gives hier_input.Dataset refl
hier_input_table (token.Keyword keyword.Rule) = some_gives hier_input.Rule refl
hier_input_table (token.Keyword keyword.RulePriority) = some_gives hier_input.RulePriority refl
hier_input_table _ = none_gives

pub hier_out_table : (t : TokenKind) → Gives (λ x. t ≡ hier_out_token x) (hier_out_at t)
hier_out_table (token.Keyword keyword.Computed) = some_gives hier_out.Computed refl
hier_out_table (token.Keyword keyword.All) = some_gives hier_out.All refl
hier_out_table _ = none_gives

pub filling_table : (t : TokenKind) → Gives (λ x. t ≡ filling_token x) (filling_at t)
filling_table (token.Keyword keyword.Single) = some_gives filling.Single refl
filling_table (token.Keyword keyword.All) = some_gives filling.All refl
filling_table _ = none_gives

pub retain_table : (t : TokenKind) → Gives (λ x. t ≡ retain_token x) (retain_at t)
retain_table (token.Keyword keyword.All) = some_gives retain.All refl
retain_table (token.Keyword keyword.True) = some_gives retain.True refl
retain_table (token.Keyword keyword.False) = some_gives retain.False refl
retain_table _ = none_gives

pub written_role_table : (t : TokenKind) → Gives (λ x. t ≡ written_role_token x) (written_role_at t)
written_role_table (token.Keyword keyword.Measure) = some_gives written_role.Measure refl
written_role_table (token.Keyword keyword.Attribute) = some_gives written_role.Attribute refl
written_role_table _ = none_gives

pub group_kind_table : (t : TokenKind) → Gives (λ x. t ≡ group_kind_token x) (group_kind_at t)
group_kind_table (token.Keyword keyword.By) = some_gives group_kind.By refl
group_kind_table (token.Keyword keyword.Except) = some_gives group_kind.Except refl
group_kind_table _ = none_gives

pub direction_table : (t : TokenKind) → Gives (λ x. t ≡ direction_token x) (direction_at t)
direction_table (token.Keyword keyword.Asc) = some_gives direction.Ascending refl
direction_table (token.Keyword keyword.Desc) = some_gives direction.Descending refl
direction_table _ = none_gives

pub side_table : (t : TokenKind) → Gives (λ x. t ≡ side_token x) (side_at t)
side_table (token.Keyword keyword.Preceding) = some_gives side.Preceding refl
side_table (token.Keyword keyword.Following) = some_gives side.Following refl
side_table _ = none_gives

pub cast_kind_table : (t : TokenKind) → Gives (λ x. t ≡ cast_kind_token x) (cast_kind_at t)
cast_kind_table (token.Keyword keyword.Date) = some_gives cast_kind.Date refl
cast_kind_table (token.Keyword keyword.TimePeriod) = some_gives cast_kind.TimePeriod refl
cast_kind_table _ = none_gives

pub comparison_table : (t : TokenKind) → Gives (λ x. t ≡ comparison_token x) (comparison_at t)
comparison_table (token.Sign sign.Equal) = some_gives comparison.Equal refl
comparison_table (token.Sign sign.Less) = some_gives comparison.Less refl
comparison_table (token.Sign sign.LessOrEqual) = some_gives comparison.LessOrEqual refl
comparison_table (token.Sign sign.Greater) = some_gives comparison.Greater refl
comparison_table (token.Sign sign.GreaterOrEqual) = some_gives comparison.GreaterOrEqual refl
comparison_table _ = none_gives

pub addition_table : (t : TokenKind) → Gives (λ x. t ≡ addition_token x) (addition_at t)
addition_table (token.Sign sign.Plus) = some_gives addition.Plus refl
addition_table (token.Sign sign.Minus) = some_gives addition.Minus refl
addition_table _ = none_gives

pub assign_kind_table : (t : TokenKind) → Gives (λ x. t ≡ assign_kind_token x) (assign_kind_at t)
assign_kind_table (token.Sign sign.Assign) = some_gives assign_kind.Temporary refl
assign_kind_table (token.Sign sign.Persist) = some_gives assign_kind.Persistent refl
assign_kind_table _ = none_gives

pub form_table : (t : TokenKind) → Gives (λ x. t ≡ form_token x) (form_at t)
form_table (token.Keyword keyword.Abs) = some_gives (form.Function function_name.Abs) refl
form_table (token.Keyword keyword.Floor) = some_gives (form.Function function_name.Floor) refl
form_table (token.Keyword keyword.Ceil) = some_gives (form.Function function_name.Ceil) refl
form_table (token.Keyword keyword.Round) = some_gives (form.Function function_name.Round) refl
form_table (token.Keyword keyword.Trunc) = some_gives (form.Function function_name.Trunc) refl
form_table (token.Keyword keyword.Mod) = some_gives (form.Function function_name.Mod) refl
form_table (token.Keyword keyword.Trim) = some_gives (form.Function function_name.Trim) refl
form_table (token.Keyword keyword.Ltrim) = some_gives (form.Function function_name.Ltrim) refl
form_table (token.Keyword keyword.Rtrim) = some_gives (form.Function function_name.Rtrim) refl
form_table (token.Keyword keyword.Substr) = some_gives (form.Function function_name.Substr) refl
form_table (token.Keyword keyword.Replace) = some_gives (form.Function function_name.Replace) refl
form_table (token.Keyword keyword.Instr) = some_gives (form.Function function_name.Instr) refl
form_table (token.Keyword keyword.Length) = some_gives (form.Function function_name.Length) refl
form_table (token.Keyword keyword.Isnull) = some_gives (form.Function function_name.Isnull) refl
form_table (token.Keyword keyword.Nvl) = some_gives (form.Function function_name.Nvl) refl
form_table (token.Keyword keyword.Between) = some_gives (form.Function function_name.Between) refl
form_table (token.Keyword keyword.Sum) = some_gives (form.Aggregate aggregate_name.Sum) refl
form_table (token.Keyword keyword.Avg) = some_gives (form.Aggregate aggregate_name.Avg) refl
form_table (token.Keyword keyword.Count) = some_gives (form.Aggregate aggregate_name.Count) refl
form_table (token.Keyword keyword.Min) = some_gives (form.Aggregate aggregate_name.Min) refl
form_table (token.Keyword keyword.Max) = some_gives (form.Aggregate aggregate_name.Max) refl
form_table (token.Keyword keyword.Median) = some_gives (form.Aggregate aggregate_name.Median) refl
form_table (token.Keyword keyword.FirstValue) = some_gives (form.ValueWindow value_window_name.FirstValue) refl
form_table (token.Keyword keyword.LastValue) = some_gives (form.ValueWindow value_window_name.LastValue) refl
form_table (token.Keyword keyword.RatioToReport) = some_gives (form.ValueWindow value_window_name.RatioToReport) refl
form_table (token.Keyword keyword.Lag) = some_gives (form.Shift shift_name.Lag) refl
form_table (token.Keyword keyword.Lead) = some_gives (form.Shift shift_name.Lead) refl
form_table (token.Keyword keyword.Rank) = some_gives form.Rank refl
form_table (token.Keyword keyword.Union) = some_gives (form.SetOp set_op_name.Union) refl
form_table (token.Keyword keyword.Intersect) = some_gives (form.SetOp set_op_name.Intersect) refl
form_table (token.Keyword keyword.Setdiff) = some_gives (form.Difference difference_name.Setdiff) refl
form_table (token.Keyword keyword.Symdiff) = some_gives (form.Difference difference_name.Symdiff) refl
form_table (token.Keyword keyword.ExistsIn) = some_gives form.ExistsIn refl
form_table (token.Keyword keyword.Timeshift) = some_gives (form.Time time_name.Timeshift) refl
form_table (token.Keyword keyword.FillTimeSeries) = some_gives (form.Time time_name.FillTimeSeries) refl
form_table (token.Keyword keyword.FlowToStock) = some_gives (form.Time time_name.FlowToStock) refl
form_table (token.Keyword keyword.StockToFlow) = some_gives (form.Time time_name.StockToFlow) refl
form_table (token.Keyword keyword.Check) = some_gives form.Check refl
form_table (token.Keyword keyword.CheckDatapoint) = some_gives form.CheckDatapoint refl
form_table (token.Keyword keyword.CheckHierarchy) = some_gives form.CheckHierarchy refl
form_table (token.Keyword keyword.Hierarchy) = some_gives form.Hierarchy refl
form_table (token.Keyword keyword.InnerJoin) = some_gives (form.Join join_kind.Inner) refl
form_table (token.Keyword keyword.LeftJoin) = some_gives (form.Join join_kind.Left) refl
form_table (token.Keyword keyword.FullJoin) = some_gives (form.Join join_kind.Full) refl
form_table (token.Keyword keyword.CrossJoin) = some_gives (form.Join join_kind.Cross) refl
form_table (token.Keyword keyword.Cast) = some_gives form.Cast refl
form_table _ = none_gives

pub comp_table : (t : TokenKind) → Gives (λ x. t ≡ comp_token x) (comp_at t)
comp_table (token.Name n) = some_gives (comp.Name n) refl
comp_table (token.QuotedName n) = some_gives (comp.Quoted n) refl
comp_table _ = none_gives

pub numeral_table : (t : TokenKind) → Gives (λ x. t ≡ numeral_token x) (numeral_at t)
numeral_table (token.Integer d) = some_gives (numeral.Integer d) refl
numeral_table (token.Decimal d) = some_gives (numeral.Decimal d) refl
numeral_table _ = none_gives

pub in_table : (t : TokenKind) → Gives (λ x. t ≡ in_token x) (in_at t)
in_table (token.Keyword keyword.NotIn) = some_gives true refl
in_table (token.Keyword keyword.In) = some_gives false refl
in_table _ = none_gives

pub name_table : (t : TokenKind) → Gives (λ n. t ≡ token.Name n) (name_at t)
name_table (token.Name n) = some_gives n refl
name_table _ = none_gives

pub string_table : (t : TokenKind) → Gives (λ s. t ≡ token.String s) (string_at t)
string_table (token.String s) = some_gives s refl
string_table _ = none_gives

pub integer_table : (t : TokenKind) → Gives (λ d. t ≡ token.Integer d) (integer_at t)
integer_table (token.Integer d) = some_gives d refl
integer_table _ = none_gives

-- a constant of one token
pub constant_table : (t : TokenKind) → Gives (λ c. (us : Tokens) → t ∷ us ≡ constant_onto c us) (constant_at t)
constant_table (token.Integer d) = some_gives (constant.Number (numeral.Integer d)) (λ us. refl)
constant_table (token.Decimal d) = some_gives (constant.Number (numeral.Decimal d)) (λ us. refl)
constant_table (token.String s) = some_gives (constant.String s) (λ us. refl)
constant_table (token.Keyword keyword.True) = some_gives (constant.Boolean true) (λ us. refl)
constant_table (token.Keyword keyword.False) = some_gives (constant.Boolean false) (λ us. refl)
constant_table (token.Keyword keyword.Null) = some_gives constant.Null (λ us. refl)
constant_table _ = none_gives
