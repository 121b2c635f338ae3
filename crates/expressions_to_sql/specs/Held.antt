-- Expressions of a program: their constants are values that a program holds. Of what stands as a member of a set, constants are asked
-- alone, since a typed set has no other members.
use Rattle.std.specs.Prelude.{Bool, true, false}
use Rattle.vtl_cell.specs.Held.{IsHeld}
use Rattle.vtl_cell.specs.declared.operator.ScalarOp.{ScalarOp}
use Rattle.vtl_cell.specs.declared.operator.ScalarOp.TheVariants as op
use Rattle.vtl_tree.specs.CompExp.{CompExp, CompExps, column, const, call, aggregate, no_comp_exps, comp_exp}

-- whether the operands behind the first are members of a set
abbrev pub asks_a_set : ScalarOp → Bool
asks_a_set op.In = true
asks_a_set op.NotIn = true
asks_a_set o = false

abbrev pub IsMemberHeld : CompExp → Type 0
IsMemberHeld (const v) = IsHeld v
IsMemberHeld e = Unit {0}

abbrev mutual
  pub HoldsValues : CompExp → Type 0
  HoldsValues (column place name kind) = Unit {0}
  HoldsValues (const v) = IsHeld v
  HoldsValues (call o kind args) = OperandsHold (asks_a_set o) args
  HoldsValues (aggregate a kind) = Unit {0}

  pub OperandsHold : (set : Bool) → CompExps → Type 0
  OperandsHold set no_comp_exps = Unit {0}
  OperandsHold set (comp_exp e es) = HoldsValues e × AllHold set es

  pub AllHold : (set : Bool) → CompExps → Type 0
  AllHold set no_comp_exps = Unit {0}
  AllHold true (comp_exp e es) = IsMemberHeld e × AllHold true es
  AllHold false (comp_exp e es) = HoldsValues e × AllHold false es

abbrev pub AllHoldValues : CompExps → Type 0
AllHoldValues es = AllHold false es
