-- The scalar operators that signs and functions are.
use Rattle.std.specs.Prelude.{ℕ, suc, ◌==◌, Bool, ◌||◌}
use Rattle.vtl_cell.specs.declared.operator.ScalarOp.{ScalarOp}
use Rattle.vtl_cell.specs.declared.operator.ScalarOp.TheVariants as op
use Rattle.vtl_syntax.specs.Trees as tree
use Rattle.vtl_syntax.specs.Trees.{Exps}
use Rattle.vtl_syntax.specs.declared.word_groups.BinaryOp.{BinaryOp}
use Rattle.vtl_syntax.specs.declared.word_groups.BinaryOp.TheVariants as sign
use Rattle.vtl_syntax.specs.declared.word_groups.FunctionName.{FunctionName}
use Rattle.vtl_syntax.specs.declared.word_groups.FunctionName.TheVariants as function
use Rattle.vtl_syntax.specs.declared.word_groups.UnaryOp.{UnaryOp}
use Rattle.vtl_syntax.specs.declared.word_groups.UnaryOp.TheVariants as one_sign

abbrev pub of_binary : BinaryOp → ScalarOp
of_binary sign.Or = op.Or
of_binary sign.Xor = op.Xor
of_binary sign.And = op.And
of_binary sign.Equal = op.Equal
of_binary sign.NotEqual = op.NotEqual
of_binary sign.Less = op.Less
of_binary sign.LessOrEqual = op.LessOrEqual
of_binary sign.Greater = op.Greater
of_binary sign.GreaterOrEqual = op.GreaterOrEqual
of_binary sign.Add = op.Add
of_binary sign.Subtract = op.Subtract
of_binary sign.Concat = op.Concat
of_binary sign.Multiply = op.Multiply
of_binary sign.Divide = op.Divide

abbrev pub of_unary : UnaryOp → ScalarOp
of_unary one_sign.Plus = op.Identity
of_unary one_sign.Minus = op.Negate
of_unary one_sign.Not = op.Not

abbrev pub of_function : FunctionName → ScalarOp
of_function function.Abs = op.Absolute
of_function function.Floor = op.Floor
of_function function.Ceil = op.Ceil
of_function function.Round = op.Round
of_function function.Trunc = op.Truncate
of_function function.Mod = op.Modulo
of_function function.Trim = op.Trim
of_function function.Ltrim = op.TrimLeft
of_function function.Rtrim = op.TrimRight
of_function function.Substr = op.Substring
of_function function.Replace = op.Replace
of_function function.Instr = op.Position
of_function function.Length = op.Length
of_function function.Isnull = op.IsNull
of_function function.Nvl = op.ValueOr
of_function function.Between = op.Between

abbrev pub exps_length : Exps → ℕ
exps_length tree.no_exps = 0
exps_length (tree.exp e es) = suc (exps_length es)

-- whether a function takes so many operands
abbrev pub takes : FunctionName → ℕ → Bool
takes function.Abs n = n == 1
takes function.Floor n = n == 1
takes function.Ceil n = n == 1
takes function.Round n = n == 2
takes function.Trunc n = n == 2
takes function.Mod n = n == 2
takes function.Trim n = n == 1
takes function.Ltrim n = n == 1
takes function.Rtrim n = n == 1
takes function.Substr n = (n == 2) || (n == 3)
takes function.Replace n = (n == 2) || (n == 3)
takes function.Instr n = n == 2
takes function.Length n = n == 1
takes function.Isnull n = n == 1
takes function.Nvl n = n == 2
takes function.Between n = n == 3
