-- One level of the view from the program's trees.
use Rattle.std.proofs.Common.{◌≡◌, List, rules}
use Rattle.sql_tree.specs.Trees as tree
use Rattle.sql_tree.specs.View.{expr_tree}
use Rattle.sql_tree.specs.declared.expressions.SqlExpr as expr
use Rattle.sql_tree.specs.declared.expressions.SqlExpr.TheVariants as made
use Rattle.sql_tree.specs.declared.parts.Equality.{Equality}
use Rattle.sql_tree.specs.declared.parts.Source.{Source}

pub ruleset views = (expr.the_lemmas)

pub exists_seen : (s : Source) (es fs : List Equality) → es ≡ fs → expr_tree (made.Exists s es) ≡ tree.exists s fs
exists_seen s es fs e = search (rules, views)
