-- The trees that the program's trees stand for.
use Rattle.std.specs.Prelude.{map, Option, Box}
use Rattle.std.specs.Option.{option_map}
use Rattle.std.specs.declared.alloc.Global.{Global}
use Rattle.vtl_syntax.specs.Trees as tree
use Rattle.vtl_syntax.specs.Trees.{Exp, ClauseTree, TargetsTree, MaybeExp, CalcTree, PartTree, PointRuleTree, StatementTree, ScriptTree, exps_of, calcs_of, parts_of, maybe_exp, maybe_targets}
use Rattle.vtl_syntax.specs.declared.expressions.Expr.{Expr, fold-Expr}
use Rattle.vtl_syntax.specs.declared.expressions.Clause.{Clause, fold-Clause}
use Rattle.vtl_syntax.specs.declared.expressions.Targets.{Targets, fold-Targets}
use Rattle.vtl_syntax.specs.declared.expressions.CalcPart.{CalcPart, fold-CalcPart}
use Rattle.vtl_syntax.specs.declared.expressions.JoinPart.{JoinPart, fold-JoinPart}
use Rattle.vtl_syntax.specs.declared.expressions.Clause.TheOpen.{Clause-F, Expr-F, Targets-F, CalcPart-F, JoinPart-F}
use Rattle.vtl_syntax.specs.declared.statements.PointRule.{PointRule}
use Rattle.vtl_syntax.specs.declared.statements.Statement.{Statement}
use Rattle.vtl_syntax.specs.declared.statements.Statement.TheVariants as statement
use Rattle.vtl_syntax.specs.declared.statements.Script.{Script}

-- a part in a box that may be absent
abbrev pub boxed : Option (Box Exp Global) → MaybeExp
boxed b = maybe_exp (option_map (λ x. x.value) b)

-- one level of each type, with each part already seen as its tree
abbrev pub clause_step : Clause-F ClauseTree Exp TargetsTree CalcTree PartTree → ClauseTree
clause_step (Clause-F.Filter e) = tree.filter e.value
clause_step (Clause-F.Targets m) = tree.targets m
clause_step (Clause-F.Keeping k) = tree.keeping k
clause_step (Clause-F.Rename rs) = tree.rename rs
clause_step (Clause-F.Sub ss) = tree.sub ss
clause_step (Clause-F.Pivot a b) = tree.pivot a b
clause_step (Clause-F.Unpivot a b) = tree.unpivot a b

abbrev pub expr_step : Expr-F ClauseTree Exp TargetsTree CalcTree PartTree → Exp
expr_step (Expr-F.If c a b) = tree.if_then c.value a.value b.value
expr_step (Expr-F.Binary l op r) = tree.binary l.value op r.value
expr_step (Expr-F.InSet e negated ls) = tree.in_set e.value negated ls
expr_step (Expr-F.Unary op e) = tree.unary op e.value
expr_step (Expr-F.WithClause e c) = tree.with_clause e.value c.value
expr_step (Expr-F.Member e c) = tree.member e.value c
expr_step (Expr-F.Component c) = tree.component c
expr_step (Expr-F.Constant c) = tree.constant c
expr_step (Expr-F.Brackets e) = tree.brackets e.value
expr_step (Expr-F.Function f es) = tree.function f (exps_of es.items)
expr_step (Expr-F.Aggregate f e g h) = tree.aggregate f (boxed e) g (boxed h)
expr_step (Expr-F.AggregateOver f e o) = tree.aggregate_over f (boxed e) o
expr_step (Expr-F.ValueWindow f e o) = tree.value_window f e.value o
expr_step (Expr-F.Shift f e n l o) = tree.shift f e.value n l o
expr_step (Expr-F.Rank o) = tree.rank o
expr_step (Expr-F.SetOp f es) = tree.set_op f (exps_of es.items)
expr_step (Expr-F.Difference f a b) = tree.difference f a.value b.value
expr_step (Expr-F.ExistsIn a b r) = tree.exists_in a.value b.value r
expr_step (Expr-F.Time e call) = tree.time e.value call
expr_step (Expr-F.Check e err i o) = tree.check e.value err (boxed i) o
expr_step (Expr-F.CheckDatapoint e n o) = tree.check_datapoint e.value n o
expr_step (Expr-F.CheckHierarchy e n r m d o) = tree.check_hierarchy e.value n r m d o
expr_step (Expr-F.Hierarchy e n r m i o) = tree.hierarchy e.value n r m i o
expr_step (Expr-F.Join k ps u f m kept rs) = tree.join k (parts_of ps.items) u (boxed f) (maybe_targets m) kept rs

abbrev pub targets_step : Targets-F ClauseTree Exp TargetsTree CalcTree PartTree → TargetsTree
targets_step (Targets-F.Calc cs) = tree.calc (calcs_of cs.items)
targets_step (Targets-F.Aggr cs g h) = tree.aggr (calcs_of cs.items) g (boxed h)

abbrev pub calc_step : CalcPart-F ClauseTree Exp TargetsTree CalcTree PartTree → CalcTree
calc_step c = record { role = c.role; component = c.component; value = c.value.value }

abbrev pub part_step : JoinPart-F ClauseTree Exp TargetsTree CalcTree PartTree → PartTree
part_step p = record { operand = p.operand.value; alias = p.alias }

abbrev pub clause_tree : Clause → ClauseTree
clause_tree = fold-Clause ClauseTree Exp TargetsTree CalcTree PartTree clause_step expr_step targets_step calc_step part_step

abbrev pub expr_tree : Expr → Exp
expr_tree = fold-Expr ClauseTree Exp TargetsTree CalcTree PartTree clause_step expr_step targets_step calc_step part_step

abbrev pub targets_tree : Targets → TargetsTree
targets_tree = fold-Targets ClauseTree Exp TargetsTree CalcTree PartTree clause_step expr_step targets_step calc_step part_step

abbrev pub calc_tree : CalcPart → CalcTree
calc_tree = fold-CalcPart ClauseTree Exp TargetsTree CalcTree PartTree clause_step expr_step targets_step calc_step part_step

abbrev pub part_tree : JoinPart → PartTree
part_tree = fold-JoinPart ClauseTree Exp TargetsTree CalcTree PartTree clause_step expr_step targets_step calc_step part_step

abbrev pub point_rule_tree : PointRule → PointRuleTree
point_rule_tree r = tree.point_rule r.name (option_map expr_tree r.when) (expr_tree r.holds) r.error

abbrev pub statement_tree : Statement → StatementTree
statement_tree (statement.Assignment n k e) = tree.assignment n k (expr_tree e)
statement_tree (statement.Datapoint n vs rs last) = tree.datapoint n vs (map point_rule_tree rs) last
statement_tree (statement.Hierarchical n i rs last) = tree.hierarchical n i rs last

abbrev pub script_tree : Script → ScriptTree
script_tree s = map statement_tree s.statements
