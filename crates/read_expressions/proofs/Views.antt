-- One level of the view from the program's trees.
use Rattle.vtl_syntax.specs.declared.expressions.CalcPart as calc
use Rattle.vtl_syntax.specs.declared.expressions.Clause as clause
use Rattle.vtl_syntax.specs.declared.expressions.Expr as expr
use Rattle.vtl_syntax.specs.declared.expressions.JoinPart as join
use Rattle.vtl_syntax.specs.declared.expressions.Targets as targets

pub ruleset views = (expr.the_lemmas, clause.the_lemmas, targets.the_lemmas, calc.the_lemmas, join.the_lemmas)
