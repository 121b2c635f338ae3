-- What the walk holds, without where it lies in memory.
use Rattle.std.specs.Prelude.{Box, Option}
use Rattle.std.specs.Option.{option_map}
use Rattle.std.specs.declared.alloc.Global.{Global}
use Rattle.vtl_syntax.specs.Trees.{MaybeExp, maybe_exp}
use Rattle.vtl_syntax.specs.View.{expr_tree}
use Rattle.vtl_syntax.specs.declared.expressions.Expr.{Expr}

-- an expression that may be absent
abbrev pub maybe_tree : Option (Box Expr Global) → MaybeExp
maybe_tree o = maybe_exp (option_map (λ b. expr_tree b.value) o)
