-- The places of the grammar where an expression may stand, and how tight each expression is.
use Rattle.std.specs.Prelude.{ℕ, ◌≤◌}
use Rattle.vtl_grammar.specs.declared.levels.Level.{Level}
use Rattle.vtl_grammar.specs.declared.levels.Level.TheVariants as level
use Rattle.vtl_syntax.specs.Trees.{Exp, if_then, binary, in_set, unary, with_clause, member}
use Rattle.vtl_syntax.specs.declared.word_groups.BinaryOp.{BinaryOp}
use Rattle.vtl_syntax.specs.declared.word_groups.BinaryOp.TheVariants as op

-- the tightest has the least
abbrev pub looseness : Level → ℕ
looseness level.Primary = 0
looseness level.Postfix = 1
looseness level.Unary = 2
looseness level.Multiply = 3
looseness level.Add = 4
looseness level.Compare = 5
looseness level.And = 6
looseness level.Or = 7
looseness level.Expression = 8

-- the next tighter place
abbrev pub tighter : Level → Level
tighter level.Primary = level.Primary
tighter level.Postfix = level.Primary
tighter level.Unary = level.Postfix
tighter level.Multiply = level.Unary
tighter level.Add = level.Multiply
tighter level.Compare = level.Add
tighter level.And = level.Compare
tighter level.Or = level.And
tighter level.Expression = level.Or

abbrev pub operator_level : BinaryOp → Level
operator_level op.Or = level.Or
operator_level op.Xor = level.Or
operator_level op.And = level.And
operator_level op.Equal = level.Compare
operator_level op.NotEqual = level.Compare
operator_level op.Less = level.Compare
operator_level op.LessOrEqual = level.Compare
operator_level op.Greater = level.Compare
operator_level op.GreaterOrEqual = level.Compare
operator_level op.Add = level.Add
operator_level op.Subtract = level.Add
operator_level op.Concat = level.Add
operator_level op.Multiply = level.Multiply
operator_level op.Divide = level.Multiply

-- the tightest place at which an expression may stand
abbrev pub level_of : Exp → Level
level_of (if_then c a b) = level.Expression
level_of (binary l o r) = operator_level o
level_of (in_set e negated ls) = level.Compare
level_of (unary o e) = level.Unary
level_of (with_clause e c) = level.Postfix
level_of (member e c) = level.Postfix
level_of _ = level.Primary

-- the expression may stand there
abbrev pub Within : Level → Exp → Type 0
Within place e = looseness (level_of e) ≤ looseness place
