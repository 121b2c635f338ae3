-- What operators give of operands that are typed.
use Rattle.std.specs.Prelude.{Bool, not, List, [], ◌∷◌, map, Option, Some, None, Result}
use Rattle.std.specs.Option.{is_none}
use Rattle.vtl_cell.specs.ScalarKinds.{kinds_of}
use Rattle.vtl_cell.specs.declared.kind.Kind.{Kind}
use Rattle.vtl_cell.specs.declared.kind.Kind.TheVariants as k
use Rattle.vtl_cell.specs.declared.operator.ScalarOp.{ScalarOp}
use Rattle.vtl_tree.specs.CompExp.{CompExp, call}
use Rattle.vtl_tree.specs.View.{comp_exps_of}
use Rattle.vtl_tree.specs.Kinds.{exp_kind}
use Rattle.vtl_cell.specs.OperatorKinds.{kind_by_operands}
use Rattle.check_faults.specs.Rules.{ruled}
use Rattle.check_faults.specs.declared.rules.Rule.{Rule}
use Rattle.check_faults.specs.declared.rules.Rule.TheVariants as rule

-- the kind of an operator's value, where the operands meet its row
abbrev pub call_kind : ScalarOp → List CompExp → Option Kind
call_kind op args = kinds_of op (map exp_kind args)

abbrev pub or_null : Option Kind → Kind
or_null (Some kind) = kind
or_null None = k.Null

-- An operator on values: the operands that need not be literals meet its row, and so do the others, which are literals in their
-- intervals.
abbrev pub call_form : ScalarOp → (literals : Bool) → List CompExp → Result CompExp Rule
call_form op literals args =
    ruled
    ((rule.WrongKind, is_none (kind_by_operands op (map exp_kind args)))
    ∷ (rule.WrongLiteral, is_none (call_kind op args))
    ∷ (rule.WrongLiteral, not literals) ∷ [])
    (call op (or_null (call_kind op args)) (comp_exps_of args))
