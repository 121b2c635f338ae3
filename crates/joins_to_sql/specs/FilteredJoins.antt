-- Joins of which a filter leaves some points: the one select of the join tries the condition at its rows.
use Rattle.std.specs.Prelude.{List, map, Option, Some, None, option_map}
use Rattle.std.specs.Borrow.{Bor}
use Rattle.vtl_decimal.specs.Settings.{Settings}
use Rattle.vtl_tree.specs.CompExp.{CompExp}
use Rattle.vtl_tree.specs.View.{comp_exp_of}
use Rattle.vtl_tree.specs.declared.expression.CompExpr.{CompExpr}
use Rattle.sql_tree.specs.Trees as tree
use Rattle.sql_tree.specs.Trees.{ItemTree, QueryTree, SelectTree, Text, ValueTree}
use Rattle.sql_tree.specs.declared.parts.Column.{Column}
use Rattle.expressions_to_sql.specs.Aliases.{column_at}
use Rattle.expressions_to_sql.specs.ToSql.{Naming, column_of, to_sql}
use Rattle.selects_to_sql.specs.Tables.{Made}

-- the column that an item of this name shows; one that is no column shows none of any source
abbrev pub column_shown : (name : Text) → ValueTree → Column
column_shown name (tree.expression (tree.column c)) = c
column_shown name other = column_of name name

abbrev pub shown_column : ItemTree → Column
shown_column i = column_shown i.name i.value

-- components by the columns that the items show, in their order
abbrev pub shown_by : List ItemTree → Naming
shown_by items = column_at (map shown_column items)

-- a select without a condition, at the rows whose points pass this one
abbrev pub tried_with : Settings → CompExp → SelectTree → SelectTree
tried_with p e q = record { items = q.items; source = q.source; joins = q.joins; condition = Some (to_sql p (shown_by q.items) e); group = q.group; having = q.having }

abbrev pub filtered_by : Settings → Option CompExp → QueryTree → QueryTree
filtered_by p None q = q
filtered_by p (Some e) q = map (tried_with p e) q

-- the tables of a join, and its query with its filter, where it has one
abbrev pub filtered_made : Settings → Option CompExp → Made → Made
filtered_made p c m = record { tables = m.tables; query = filtered_by p c m.query; next = m.next }

-- the condition of a program, where there is one
abbrev pub condition_of : Option (Bor CompExpr) → Option CompExp
condition_of c = option_map (λ e. comp_exp_of e.now) c
