-- Which trees are scripts: the names and literals have their forms, the operators stand at their places, each list has at least the items that it needs, and no expression is too deep. A script is printable up to depth 256, since its text has at most one pair of brackets round each part.
use Rattle.std.specs.Prelude.{◌≡◌, ◌≤◌, ℕ, suc, max, Bool, true, false, ◌∷◌, length, Option, None, Some}
use Rattle.grammar_forms.specs.Written.{Each}
use Rattle.sql_lexer.specs.Spelling.{IsDecimal, IsDigits, is_name}
use Rattle.vtl_cell.specs.declared.operator.ScalarOp.{ScalarOp}
use Rattle.vtl_cell.specs.declared.operator.ScalarOp.TheVariants as op
use Rattle.vtl_cell.specs.declared.operator.AggKind.{AggKind}
use Rattle.vtl_cell.specs.declared.operator.AggKind.TheVariants as agg
use Rattle.vtl_cell.specs.declared.kind.Kind.{Kind}
use Rattle.vtl_cell.specs.declared.kind.Kind.TheVariants as kind
use Rattle.sql_tree.specs.Grammar.{most_levels}
use Rattle.sql_tree.specs.Trees.{Text, Exp, binary, unary, is_null, in_list, constant, column, call, count_all, aggregate, case_when, exists, Exps, no_exps, exp, Branches, no_branches, branch, ValueTree, expression, window, ItemTree, JoinTree, on, cross, SelectTree, QueryTree, StatementTree, setting, input, create, export, ScriptTree}
use Rattle.sql_tree.specs.declared.parts.Column.{Column}
use Rattle.sql_tree.specs.declared.parts.Source.{Source}
use Rattle.sql_tree.specs.declared.parts.Series.{Series}
use Rattle.sql_tree.specs.declared.parts.Equality.{Equality}
use Rattle.sql_tree.specs.declared.parts.Numeral.{Numeral}
use Rattle.sql_tree.specs.declared.parts.Numeral.TheVariants as numeral
use Rattle.sql_tree.specs.declared.parts.Constant.{Constant}
use Rattle.sql_tree.specs.declared.parts.Constant.TheVariants as c
use Rattle.sql_tree.specs.declared.parts.Literal.{Literal}
use Rattle.sql_tree.specs.declared.parts.Literal.TheVariants as l
use Rattle.sql_tree.specs.declared.windows.Window.{Window}
use Rattle.sql_tree.specs.declared.windows.WindowCall.{WindowCall}
use Rattle.sql_tree.specs.declared.windows.WindowCall.TheVariants as wcall
use Rattle.sql_tree.specs.declared.windows.WindowKey.{WindowKey}
use Rattle.sql_tree.specs.declared.windows.Over.{Over}
use Rattle.sql_tree.specs.declared.windows.Frame.{Frame}
use Rattle.sql_tree.specs.declared.windows.Bound.{Bound}
use Rattle.sql_tree.specs.declared.windows.Bound.TheVariants as bound
use Rattle.sql_tree.specs.declared.statements.InputColumn.{InputColumn}
use Rattle.sql_tree.specs.declared.statements.SqlInput.{SqlInput}
use Rattle.sql_tree.specs.declared.statements.SqlExport.{SqlExport}

-- ---- operators

-- stands between two operands
abbrev pub is_binary : ScalarOp → Bool
is_binary op.Or = true
is_binary op.Xor = true
is_binary op.And = true
is_binary op.Equal = true
is_binary op.NotEqual = true
is_binary op.Less = true
is_binary op.LessOrEqual = true
is_binary op.Greater = true
is_binary op.GreaterOrEqual = true
is_binary op.Add = true
is_binary op.Subtract = true
is_binary op.Concat = true
is_binary op.Multiply = true
is_binary op.Divide = true
is_binary _ = false

-- stands before one
abbrev pub is_unary : ScalarOp → Bool
is_unary op.Not = true
is_unary op.Identity = true
is_unary op.Negate = true
is_unary _ = false

-- stands before operands in brackets
abbrev pub is_function : ScalarOp → Bool
is_function op.Absolute = true
is_function op.Floor = true
is_function op.Ceil = true
is_function op.Round = true
is_function op.Truncate = true
is_function op.Modulo = true
is_function op.Trim = true
is_function op.TrimLeft = true
is_function op.TrimRight = true
is_function op.Substring = true
is_function op.Replace = true
is_function op.Position = true
is_function op.Length = true
is_function op.ValueOr = true
is_function op.Between = true
is_function op.PeriodShift = true
is_function op.PeriodFrequency = true
is_function _ = false

-- may stand over a window
abbrev pub is_window_aggregate : AggKind → Bool
is_window_aggregate agg.Median = false
is_window_aggregate _ = true

abbrev pub is_column_kind : Kind → Bool
is_column_kind kind.Null = false
is_column_kind _ = true

-- ---- parts

abbrev pub IsName : Text → Type 0
IsName x = is_name x ≡ true

abbrev pub IsColumn : Column → Type 0
IsColumn x = IsName x.source × IsName x.name

abbrev pub IsMaybeSeries : Option Series → Type 0
IsMaybeSeries None = Unit {0}
IsMaybeSeries (Some x) = IsName x.on × Each IsName x.by

abbrev pub IsSource : Source → Type 0
IsSource x = IsName x.table × IsMaybeSeries x.series × IsName x.alias

abbrev pub IsEquality : Equality → Type 0
IsEquality x = IsColumn x.left × IsColumn x.right

abbrev pub IsNumber : Numeral → Type 0
IsNumber (numeral.Int x) = IsDigits x
IsNumber (numeral.Dec x) = IsDecimal x

abbrev pub IsConstant : Constant → Type 0
IsConstant (c.Number x) = IsNumber x
IsConstant _ = Unit {0}

abbrev pub IsLiteral : Literal → Type 0
IsLiteral (l.Number negative x) = IsNumber x
IsLiteral _ = Unit {0}

-- ---- expressions

abbrev pub SomeExps : Exps → Type 0
SomeExps no_exps = ⊥
SomeExps (exp e es) = Unit {0}

abbrev pub SomeBranches : Branches → Type 0
SomeBranches no_branches = ⊥
SomeBranches (branch e v bs) = Unit {0}

abbrev mutual
  pub Formed : Exp → Type 0
  Formed (binary a o b) = (is_binary o ≡ true) × Formed a × Formed b
  Formed (unary o e) = (is_unary o ≡ true) × Formed e
  Formed (is_null e negated) = Formed e
  Formed (in_list e negated ls) = Formed e × (1 ≤ length ls) × Each IsLiteral ls
  Formed (constant x) = IsConstant x
  Formed (column x) = IsColumn x
  Formed (call f es) = (is_function f ≡ true) × SomeExps es × EachFormed es
  Formed count_all = Unit {0}
  Formed (aggregate f e) = Formed e
  Formed (case_when bs e) = SomeBranches bs × BranchesFormed bs × Formed e
  Formed (exists s es) = IsSource s × Each IsEquality es

  pub EachFormed : Exps → Type 0
  EachFormed no_exps = Unit {0}
  EachFormed (exp e es) = Formed e × EachFormed es

  pub BranchesFormed : Branches → Type 0
  BranchesFormed no_branches = Unit {0}
  BranchesFormed (branch e v bs) = Formed e × Formed v × BranchesFormed bs

-- the depth of a tree; brackets have left no trace in it
abbrev mutual
  pub exp_depth : Exp → ℕ
  exp_depth (binary a o b) = suc (max (exp_depth a) (exp_depth b))
  exp_depth (unary o e) = suc (exp_depth e)
  exp_depth (is_null e negated) = suc (exp_depth e)
  exp_depth (in_list e negated ls) = suc (exp_depth e)
  exp_depth (constant x) = 1
  exp_depth (column x) = 1
  exp_depth (call f es) = suc (exps_depth es)
  exp_depth count_all = 1
  exp_depth (aggregate f e) = suc (exp_depth e)
  exp_depth (case_when bs e) = suc (max (branches_depth bs) (exp_depth e))
  exp_depth (exists s es) = 3

  pub exps_depth : Exps → ℕ
  exps_depth no_exps = 0
  exps_depth (exp e es) = max (exp_depth e) (exps_depth es)

  pub branches_depth : Branches → ℕ
  branches_depth no_branches = 0
  branches_depth (branch e v bs) = max (max (exp_depth e) (exp_depth v)) (branches_depth bs)

-- formed, and no deeper than the limit
abbrev pub IsExp : ℕ → Exp → Type 0
IsExp limit e = Formed e × (exp_depth e ≤ limit)

abbrev pub IsMaybeExp : ℕ → Option Exp → Type 0
IsMaybeExp limit None = Unit {0}
IsMaybeExp limit (Some e) = IsExp limit e

-- ---- windows

abbrev pub IsDefault : Option Literal → Type 0
IsDefault None = Unit {0}
IsDefault (Some x) = IsLiteral x

abbrev pub IsCall : WindowCall → Type 0
IsCall (wcall.Aggregate f x) = (is_window_aggregate f ≡ true) × IsColumn x
IsCall (wcall.Value f x) = IsColumn x
IsCall (wcall.Shift f x rows default) = IsColumn x × IsDigits rows × IsDefault default
IsCall wcall.Rank = Unit {0}

abbrev pub IsWindowKey : WindowKey → Type 0
IsWindowKey x = IsColumn x.column

abbrev pub IsBound : Bound → Type 0
IsBound (bound.Rows n s) = IsDigits n
IsBound _ = Unit {0}

abbrev pub IsMaybeFrame : Option Frame → Type 0
IsMaybeFrame None = Unit {0}
IsMaybeFrame (Some x) = IsBound x.first × IsBound x.last

abbrev pub IsOver : Over → Type 0
IsOver x = Each IsColumn x.partition × Each IsWindowKey x.order × IsMaybeFrame x.frame

abbrev pub IsWindow : Window → Type 0
IsWindow x = IsCall x.call × IsOver x.over

-- ---- queries

abbrev pub IsValue : ℕ → ValueTree → Type 0
IsValue limit (expression e) = IsExp limit e
IsValue limit (window x) = IsWindow x

abbrev pub IsItem : ℕ → ItemTree → Type 0
IsItem limit x = IsValue limit x.value × IsName x.name

abbrev pub IsJoin : ℕ → JoinTree → Type 0
IsJoin limit (on k s e) = IsSource s × IsExp limit e
IsJoin limit (cross s) = IsSource s

pub record IsSelect (limit : ℕ) (x : SelectTree) : Type 0 where
  pub some : 1 ≤ length x.items
  pub items : Each (IsItem limit) x.items
  pub source : IsSource x.source
  pub joins : Each (IsJoin limit) x.joins
  pub condition : IsMaybeExp limit x.condition
  pub group : Each IsColumn x.group
  pub having : IsMaybeExp limit x.having

abbrev pub IsQuery : ℕ → QueryTree → Type 0
IsQuery limit q = (1 ≤ length q) × Each (IsSelect limit) q

-- ---- statements

abbrev pub IsInputColumn : InputColumn → Type 0
IsInputColumn x = IsName x.name × (is_column_kind x.kind ≡ true)

abbrev pub IsInput : SqlInput → Type 0
IsInput s = IsName s.name × (1 ≤ length s.columns) × Each IsInputColumn s.columns × Each IsName s.key

abbrev pub IsExport : SqlExport → Type 0
IsExport s = IsName s.name × Each IsName s.order

-- a statement behind SET
abbrev pub IsStatement : ℕ → StatementTree → Type 0
IsStatement limit (setting scale r) = ⊥
IsStatement limit (input s) = IsInput s
IsStatement limit (create name q) = IsName name × IsQuery limit q
IsStatement limit (export s) = IsExport s

-- SET, then statements
abbrev pub IsFormed : ℕ → ScriptTree → Type 0
IsFormed limit (setting scale r ∷ ss) = IsDigits scale × Each (IsStatement limit) ss
IsFormed limit _ = ⊥

-- what the grammar spells
abbrev pub FormedScript : ScriptTree → Type 0
FormedScript s = IsFormed most_levels s

-- what `print` writes so that it reads back
abbrev pub PrintableScript : ScriptTree → Type 0
PrintableScript s = IsFormed 256 s
