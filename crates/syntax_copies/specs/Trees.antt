-- The trees of expressions in boxes.
use Rattle.std.specs.Prelude.{Box, Option}
use Rattle.std.specs.Option.{option_map}
use Rattle.std.specs.declared.alloc.Global.{Global}
use Rattle.vtl_syntax.specs.Trees.{Exp, MaybeExp, maybe_exp}
use Rattle.vtl_syntax.specs.View.{expr_tree}
use Rattle.vtl_syntax.specs.declared.expressions.Expr.{Expr}

-- the tree in a box
abbrev pub box_tree : Box Expr Global → Exp
box_tree b = expr_tree b.value

-- an expression that may be absent
abbrev pub maybe_tree : Option (Box Expr Global) → MaybeExp
maybe_tree o = maybe_exp (option_map box_tree o)
