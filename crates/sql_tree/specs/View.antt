-- The trees that the program's trees stand for.
use Rattle.std.specs.Prelude.{◌∷◌, map, option_map}
use Rattle.sql_tree.specs.Trees as tree
use Rattle.sql_tree.specs.Trees.{Exp, exps_of, branches_of, ValueTree, ItemTree, JoinTree, SelectTree, QueryTree, StatementTree, ScriptTree}
use Rattle.sql_tree.specs.declared.expressions.SqlExpr.{SqlExpr, fold-SqlExpr}
use Rattle.sql_tree.specs.declared.expressions.Branch.{Branch, fold-Branch}
use Rattle.sql_tree.specs.declared.expressions.SqlExpr.TheOpen.{SqlExpr-F, Branch-F}
use Rattle.sql_tree.specs.declared.statements.ItemValue.{ItemValue}
use Rattle.sql_tree.specs.declared.statements.ItemValue.TheVariants as value
use Rattle.sql_tree.specs.declared.statements.Item.{Item}
use Rattle.sql_tree.specs.declared.statements.Join.{Join}
use Rattle.sql_tree.specs.declared.statements.Join.TheVariants as join
use Rattle.sql_tree.specs.declared.statements.Select.{Select}
use Rattle.sql_tree.specs.declared.statements.Query.{Query}
use Rattle.sql_tree.specs.declared.statements.Statement.{Statement}
use Rattle.sql_tree.specs.declared.statements.Statement.TheVariants as statement
use Rattle.sql_tree.specs.declared.statements.SqlScript.{SqlScript}

-- one level of each type, with each part already seen as its tree
abbrev pub expr_step : SqlExpr-F Exp (Exp × Exp) → Exp
expr_step (SqlExpr-F.Binary l op r) = tree.binary l.value op r.value
expr_step (SqlExpr-F.Unary op e) = tree.unary op e.value
expr_step (SqlExpr-F.IsNull e negated) = tree.is_null e.value negated
expr_step (SqlExpr-F.InList e negated ls) = tree.in_list e.value negated ls
expr_step (SqlExpr-F.Constant c) = tree.constant c
expr_step (SqlExpr-F.Column c) = tree.column c
expr_step (SqlExpr-F.Call f es) = tree.call f (exps_of es.items)
expr_step SqlExpr-F.CountAll = tree.count_all
expr_step (SqlExpr-F.Aggregate f e) = tree.aggregate f e.value
expr_step (SqlExpr-F.Case bs e) = tree.case_when (branches_of bs.items) e.value
expr_step (SqlExpr-F.Exists s es) = tree.exists s es

abbrev pub branch_step : Branch-F Exp (Exp × Exp) → Exp × Exp
branch_step b = (b.condition, b.value)

abbrev pub expr_tree : SqlExpr → Exp
expr_tree = fold-SqlExpr Exp (Exp × Exp) expr_step branch_step

abbrev pub branch_tree : Branch → Exp × Exp
branch_tree = fold-Branch Exp (Exp × Exp) expr_step branch_step

abbrev pub value_tree : ItemValue → ValueTree
value_tree (value.Expr e) = tree.expression (expr_tree e)
value_tree (value.Window w) = tree.window w

abbrev pub item_tree : Item → ItemTree
item_tree i = record { value = value_tree i.value; name = i.name }

abbrev pub join_tree : Join → JoinTree
join_tree (join.On k s e) = tree.on k s (expr_tree e)
join_tree (join.Cross s) = tree.cross s

abbrev pub select_tree : Select → SelectTree
select_tree s = record {
  items = map item_tree s.items;
  source = s.from;
  joins = map join_tree s.joins;
  condition = option_map expr_tree s.condition;
  group = s.group;
  having = option_map expr_tree s.having;
}

abbrev pub query_tree : Query → QueryTree
query_tree q = map select_tree q.selects

abbrev pub statement_tree : Statement → StatementTree
statement_tree (statement.Input s) = tree.input s
statement_tree (statement.Create s) = tree.create s.name (query_tree s.query)
statement_tree (statement.Export s) = tree.export s

abbrev pub script_tree : SqlScript → ScriptTree
script_tree s = tree.setting s.scale s.rounding ∷ map statement_tree s.statements
