-- Component expressions in SQL: each operator is one operator.
use Rattle.std.specs.Prelude.{ℕ, Bool, true, false, List, [], ◌∷◌, map, Option, Some, None}
use Rattle.vtl_decimal.specs.Settings.{Settings}
use Rattle.vtl_cell.specs.declared.operator.AggKind.{AggKind}
use Rattle.vtl_cell.specs.declared.operator.ScalarOp.{ScalarOp}
use Rattle.vtl_cell.specs.declared.operator.ScalarOp.TheVariants as op
use Rattle.vtl_tree.specs.CompExp as comp
use Rattle.vtl_tree.specs.CompExp.{CompExp, CompExps}
use Rattle.sql_tree.specs.Formed.{is_binary, is_unary}
use Rattle.sql_tree.specs.Trees as tree
use Rattle.sql_tree.specs.Trees.{Exp, Exps, Text}
use Rattle.sql_tree.specs.declared.parts.Column.{Column}
use Rattle.sql_tree.specs.declared.parts.Constant.TheVariants as constant
use Rattle.sql_tree.specs.declared.parts.Literal.{Literal}
use Rattle.sql_tree.specs.declared.parts.Literal.TheVariants as literal
use Rattle.expressions_to_sql.specs.Constants.{const_to_sql, literal_to_sql}

-- ---- names

-- the column of SQL for the component at a place, of a name
abbrev pub Naming : Type 0
Naming = ℕ → Text → Column

abbrev pub column_of : (alias name : Text) → Column
column_of alias name = record { source = alias; name = name }

-- one source, of which a component is the column of its name
abbrev pub of_source : Text → Naming
of_source alias place name = column_of alias name

-- the columns of GROUP BY of one source
abbrev pub group_columns : (alias : Text) → List Text → List Column
group_columns alias names = map (column_of alias) names

-- ---- operators

-- an operator where the grammar of SQL has it: between its operands, before its operand, or before operands in brackets
abbrev pub placed : (between before : Bool) → ScalarOp → Exps → Exp
placed true before o (tree.exp a (tree.exp b tree.no_exps)) = tree.binary a o b
placed false true o (tree.exp a tree.no_exps) = tree.unary o a
placed between before o es = tree.call o es

abbrev pub empty_text : Exp
empty_text = tree.constant (constant.Text [])

-- an operator on operands that are in SQL; `members` are those behind the first one as literals
abbrev pub operator_to_sql : ScalarOp → (members : List Literal) → Exps → Exp
operator_to_sql op.IsNull ls (tree.exp a tree.no_exps) = tree.is_null a false
operator_to_sql op.In ls (tree.exp a es) = tree.in_list a false ls
operator_to_sql op.NotIn ls (tree.exp a es) = tree.in_list a true ls
operator_to_sql op.If ls (tree.exp t (tree.exp a (tree.exp b tree.no_exps))) = tree.case_when (tree.branch t a tree.no_branches) b
operator_to_sql op.Replace ls (tree.exp a (tree.exp b tree.no_exps)) = tree.call op.Replace (tree.exp a (tree.exp b (tree.exp empty_text tree.no_exps)))
operator_to_sql o ls es = placed (is_binary o) (is_unary o) o es

-- ---- members of sets

-- a member of a set is a constant
abbrev pub member_to_sql : Settings → CompExp → Literal
member_to_sql p (comp.const v) = literal_to_sql p v
member_to_sql p e = literal.False

abbrev pub members_to_sql : Settings → CompExps → List Literal
members_to_sql p comp.no_comp_exps = []
members_to_sql p (comp.comp_exp e es) = member_to_sql p e ∷ members_to_sql p es

-- what stands behind the first operand
abbrev pub members_behind : Settings → CompExps → List Literal
members_behind p comp.no_comp_exps = []
members_behind p (comp.comp_exp e es) = members_to_sql p es

-- ---- aggregates

-- an aggregate stands over one source, where a column goes by its name alone
abbrev pub any_place : ℕ
any_place = 0

abbrev pub aggregate_to_sql : Naming → AggKind → (component : Option Text) → Exp
aggregate_to_sql at f None = tree.count_all
aggregate_to_sql at f (Some name) = tree.aggregate f (tree.column (at any_place name))

-- ---- expressions

abbrev mutual
  pub to_sql : Settings → Naming → CompExp → Exp
  to_sql p at (comp.column place name kind) = tree.column (at place name)
  to_sql p at (comp.const v) = const_to_sql p v
  to_sql p at (comp.call o kind args) = operator_to_sql o (members_behind p args) (all_to_sql p at args)
  to_sql p at (comp.aggregate a kind) = aggregate_to_sql at a.kind a.component

  pub all_to_sql : Settings → Naming → CompExps → Exps
  all_to_sql p at comp.no_comp_exps = tree.no_exps
  all_to_sql p at (comp.comp_exp e es) = tree.exp (to_sql p at e) (all_to_sql p at es)

-- a call of an operator on operands
abbrev pub call_to_sql : Settings → Naming → ScalarOp → CompExps → Exp
call_to_sql p at o args = operator_to_sql o (members_behind p args) (all_to_sql p at args)
