-- One level of the view from the program's trees, and what is written behind tokens.
use Rattle.sql_tree.specs.declared.expressions.SqlExpr as expr
use Rattle.sql_tree.specs.declared.expressions.Branch as branch
use Rattle.sql_print.proofs.OntoLaws.{onto-is}

pub ruleset views = (expr.the_lemmas, branch.the_lemmas)

pub ruleset whole = (onto-is)
