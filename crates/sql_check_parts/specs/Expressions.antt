-- The rules that expressions break: at rows, where no aggregate stands and any column may be named, and at groups, where the columns outside of aggregates are those of GROUP BY.
use Rattle.std.specs.Prelude.{Bool, true, false, not, ◌||◌, List, [], ◌∷◌, ◌++◌, map, Option, None}
use Rattle.std.specs.List.{list_any}
use Rattle.std.specs.Option.{is_none}
use Rattle.vtl_decimal.specs.Settings.{Settings}
use Rattle.vtl_cell.specs.ScalarKinds.{common_kind, meets}
use Rattle.vtl_cell.specs.declared.kind.Kind.{Kind}
use Rattle.vtl_cell.specs.declared.kind.Kind.TheVariants as k
use Rattle.vtl_cell.specs.declared.operator.ScalarOp.{ScalarOp}
use Rattle.vtl_cell.specs.declared.operator.ScalarOp.TheVariants as op
use Rattle.vtl_cell.specs.AggregateKinds.{aggregate_kind}
use Rattle.sql_tree.specs.Trees as tree
use Rattle.sql_tree.specs.Trees.{Text, Exp, Exps, Branches}
use Rattle.sql_tree.specs.declared.parts.Constant.{Constant}
use Rattle.sql_tree.specs.declared.parts.Literal.{Literal}
use Rattle.sql_check_parts.specs.Exists.{exists_breaks}
use Rattle.sql_check_parts.specs.Kinds.{kind_in, kinds_in, operator_kind, value_kinds}
use Rattle.sql_check_parts.specs.Literals.{constant_value, has_no_value, literal_kind, literals_fit}
use Rattle.sql_check_parts.specs.Rules.{broken}
use Rattle.sql_check_parts.specs.Scopes.{Grouping, Scope, Tables}
use Rattle.sql_check_parts.specs.Windows.{column_breaks}
use Rattle.sql_check_parts.specs.declared.rules.SqlRule.{SqlRule}
use Rattle.sql_check_parts.specs.declared.rules.SqlRule.TheVariants as rule

-- where expressions stand: the settings, the tables before the statement, and the sources that may be named
pub record Site : Type 0 where
  pub settings : Settings
  pub tables : Tables
  pub scope : Scope

abbrev pub site : Settings → Tables → Scope → Site
site p tables scope = record { settings = p; tables = tables; scope = scope }

-- ---- parts

-- a constant has a value
abbrev pub constant_breaks : Settings → Constant → List SqlRule
constant_breaks p c = broken ((rule.UnfitLiteral, is_none (constant_value p c)) ∷ [])

-- operands meet their operator
abbrev pub operator_breaks : ScalarOp → List Kind → List SqlRule
operator_breaks o kinds = broken ((rule.UnfitKind, is_none (operator_kind o kinds)) ∷ [])

-- operands meet their function, and those that have to be literals are literals in their intervals
abbrev pub call_breaks : Settings → ScalarOp → Exps → List Kind → List SqlRule
call_breaks p f es kinds = broken ((rule.UnfitKind, is_none (operator_kind f kinds)) ∷ (rule.UnfitLiteral, not (literals_fit p f es)) ∷ [])

-- operand and literals meet IN, and the literals have values
abbrev pub list_breaks : Settings → Kind → List Literal → List SqlRule
list_breaks p kind ls = broken ((rule.UnfitKind, is_none (operator_kind op.In (kind ∷ map literal_kind ls))) ∷ (rule.UnfitLiteral, list_any (has_no_value p) ls) ∷ [])

-- an aggregate takes the kind of its operand, and stands in a group
abbrev pub aggregate_breaks : Option Kind → Option Grouping → List SqlRule
aggregate_breaks given g = broken ((rule.UnfitKind, is_none given) ∷ (rule.OutsideGroup, is_none g) ∷ [])

-- a condition is boolean; null counts as that
abbrev pub condition_breaks : Kind → List SqlRule
condition_breaks kind = broken ((rule.UnfitKind, not (meets k.Bool kind)) ∷ [])

-- the values of CASE share a kind
abbrev pub case_breaks : List Kind → List SqlRule
case_breaks kinds = broken ((rule.UnfitKind, is_none (common_kind kinds)) ∷ [])

-- ---- expressions

abbrev mutual
  pub breaks : Site → Option Grouping → Exp → List SqlRule
  breaks at g (tree.binary a o b) = breaks at g a ++ breaks at g b ++ operator_breaks o (kind_in at.scope a ∷ kind_in at.scope b ∷ [])
  breaks at g (tree.unary o e) = breaks at g e ++ operator_breaks o (kind_in at.scope e ∷ [])
  breaks at g (tree.is_null e negated) = breaks at g e
  breaks at g (tree.in_list e negated ls) = breaks at g e ++ list_breaks at.settings (kind_in at.scope e) ls
  breaks at g (tree.constant c) = constant_breaks at.settings c
  breaks at g (tree.column c) = column_breaks at.scope g c
  breaks at g (tree.call f es) = all_break at g es ++ call_breaks at.settings f es (kinds_in at.scope es)
  breaks at g tree.count_all = broken ((rule.OutsideGroup, is_none g) ∷ [])
  breaks at g (tree.aggregate f e) = breaks at None e ++ aggregate_breaks (aggregate_kind f (kind_in at.scope e)) g
  breaks at g (tree.case_when bs e) = branches_break at g bs ++ breaks at g e ++ case_breaks (value_kinds at.scope bs (kind_in at.scope e ∷ []))
  breaks at g (tree.exists s es) = exists_breaks at.tables at.scope g s es

  pub all_break : Site → Option Grouping → Exps → List SqlRule
  all_break at g tree.no_exps = []
  all_break at g (tree.exp e es) = breaks at g e ++ all_break at g es

  pub branches_break : Site → Option Grouping → Branches → List SqlRule
  branches_break at g tree.no_branches = []
  branches_break at g (tree.branch c v bs) = breaks at g c ++ condition_breaks (kind_in at.scope c) ++ breaks at g v ++ branches_break at g bs

-- ---- aggregates

abbrev mutual
  pub has_aggregate : Exp → Bool
  has_aggregate (tree.binary a o b) = has_aggregate a || has_aggregate b
  has_aggregate (tree.unary o e) = has_aggregate e
  has_aggregate (tree.is_null e negated) = has_aggregate e
  has_aggregate (tree.in_list e negated ls) = has_aggregate e
  has_aggregate (tree.constant c) = false
  has_aggregate (tree.column c) = false
  has_aggregate (tree.call f es) = some_aggregate es
  has_aggregate tree.count_all = true
  has_aggregate (tree.aggregate f e) = true
  has_aggregate (tree.case_when bs e) = branches_aggregate bs || has_aggregate e
  has_aggregate (tree.exists s es) = false

  pub some_aggregate : Exps → Bool
  some_aggregate tree.no_exps = false
  some_aggregate (tree.exp e es) = has_aggregate e || some_aggregate es

  pub branches_aggregate : Branches → Bool
  branches_aggregate tree.no_branches = false
  branches_aggregate (tree.branch c v bs) = has_aggregate c || has_aggregate v || branches_aggregate bs
