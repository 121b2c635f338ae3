-- The trees that parts of a select stand for.
use Rattle.std.specs.Prelude.{List, Option, map, option_map, Vec}
use Rattle.std.specs.declared.alloc.Global.{Global}
use Rattle.vtl_decimal.specs.declared.settings.Rounding.{Rounding}
use Rattle.sql_tree.specs.Trees.{Exp, JoinTree, StatementTree, Text, setting}
use Rattle.sql_tree.specs.View.{expr_tree, join_tree}
use Rattle.sql_tree.specs.declared.expressions.SqlExpr.{SqlExpr}
use Rattle.sql_tree.specs.declared.parts.Column.{Column}
use Rattle.sql_tree.specs.declared.parts.Source.{Source}
use Rattle.sql_tree.specs.declared.statements.Join.{Join}

abbrev pub joins_view : Source × Vec Join Global → Source × List JoinTree
joins_view p = (p.0, map join_tree p.1.items)

abbrev pub option_view : Option SqlExpr → Option Exp
option_view o = option_map expr_tree o

abbrev pub group_view : Vec Column Global × Option SqlExpr → List Column × Option Exp
group_view p = (p.0.items, option_view p.1)

abbrev pub limits_view : Option SqlExpr × (Vec Column Global × Option SqlExpr) → Option Exp × (List Column × Option Exp)
limits_view p = (option_view p.0, group_view p.1)

abbrev pub body_view : (Source × Vec Join Global) × (Option SqlExpr × (Vec Column Global × Option SqlExpr)) → (Source × List JoinTree) × (Option Exp × (List Column × Option Exp))
body_view p = (joins_view p.0, limits_view p.1)

abbrev pub setting_view : Text × Rounding → StatementTree
setting_view p = setting p.0 p.1
