-- The kinds of expressions. Where operands do not meet their operator, its value counts as null.
use Rattle.std.specs.Prelude.{List, [], ◌∷◌, Option, None}
use Rattle.vtl_cell.specs.ScalarKinds.{common_kind}
use Rattle.vtl_cell.specs.declared.kind.Kind.{Kind}
use Rattle.vtl_cell.specs.declared.kind.Kind.TheVariants as k
use Rattle.vtl_cell.specs.declared.operator.ScalarOp.{ScalarOp}
use Rattle.vtl_cell.specs.declared.operator.ScalarOp.TheVariants as op
use Rattle.vtl_cell.specs.AggregateKinds.{aggregate_kind}
use Rattle.vtl_cell.specs.OperatorKinds.{kind_by_operands}
use Rattle.sql_tree.specs.Trees as tree
use Rattle.sql_tree.specs.Trees.{Exp, Exps, Branches}
use Rattle.sql_check_parts.specs.Literals.{constant_kind}
use Rattle.sql_check_parts.specs.Scopes.{Scope, column_kind, or_null}

-- the kind that an operator gives of operands of these kinds, where they meet it: as in VTL, but that REPLACE takes exactly
-- three; what has to be a literal is not asked for its kind
abbrev pub operator_kind : ScalarOp → List Kind → Option Kind
operator_kind op.Replace (a ∷ p ∷ []) = None
operator_kind o kinds = kind_by_operands o kinds

abbrev pub given_kind : ScalarOp → List Kind → Kind
given_kind o kinds = or_null (operator_kind o kinds)

abbrev mutual
  pub kind_in : Scope → Exp → Kind
  kind_in s (tree.binary a o b) = given_kind o (kind_in s a ∷ kind_in s b ∷ [])
  kind_in s (tree.unary o e) = given_kind o (kind_in s e ∷ [])
  kind_in s (tree.is_null e negated) = k.Bool
  kind_in s (tree.in_list e negated ls) = k.Bool
  kind_in s (tree.constant c) = constant_kind c
  kind_in s (tree.column c) = column_kind s c
  kind_in s (tree.call f es) = given_kind f (kinds_in s es)
  kind_in s tree.count_all = k.Int
  kind_in s (tree.aggregate f e) = or_null (aggregate_kind f (kind_in s e))
  kind_in s (tree.case_when bs e) = or_null (common_kind (value_kinds s bs (kind_in s e ∷ [])))
  kind_in s (tree.exists source es) = k.Bool

  pub kinds_in : Scope → Exps → List Kind
  kinds_in s tree.no_exps = []
  kinds_in s (tree.exp e es) = kind_in s e ∷ kinds_in s es

  -- the kinds of the values of CASE, before these
  pub value_kinds : Scope → Branches → List Kind → List Kind
  value_kinds s tree.no_branches behind = behind
  value_kinds s (tree.branch c v bs) behind = kind_in s v ∷ value_kinds s bs behind
