-- Trees of scripts without the places where their parts lie in memory. Parts that hold no expression are the program's own.
use Rattle.std.specs.Prelude.{ℕ, Bool, List, [], ◌∷◌, Option, None, Some}
use Rattle.vtl_syntax.specs.declared.parts.Comp.{Comp}
use Rattle.vtl_syntax.specs.declared.parts.Constant.{Constant}
use Rattle.vtl_syntax.specs.declared.parts.ErrorPart.{ErrorPart}
use Rattle.vtl_syntax.specs.declared.parts.GroupPart.{GroupPart}
use Rattle.vtl_syntax.specs.declared.parts.Keeping.{Keeping}
use Rattle.vtl_syntax.specs.declared.parts.Literal.{Literal}
use Rattle.vtl_syntax.specs.declared.parts.OverPart.{OverPart}
use Rattle.vtl_syntax.specs.declared.parts.RenamePart.{RenamePart}
use Rattle.vtl_syntax.specs.declared.parts.SubPart.{SubPart}
use Rattle.vtl_syntax.specs.declared.parts.TimeCall.{TimeCall}
use Rattle.vtl_syntax.specs.declared.statements.HierRule.{HierRule}
use Rattle.vtl_syntax.specs.declared.word_groups.AggregateName.{AggregateName}
use Rattle.vtl_syntax.specs.declared.word_groups.AssignKind.{AssignKind}
use Rattle.vtl_syntax.specs.declared.word_groups.BasicOut.{BasicOut}
use Rattle.vtl_syntax.specs.declared.word_groups.BinaryOp.{BinaryOp}
use Rattle.vtl_syntax.specs.declared.word_groups.CheckOut.{CheckOut}
use Rattle.vtl_syntax.specs.declared.word_groups.DifferenceName.{DifferenceName}
use Rattle.vtl_syntax.specs.declared.word_groups.FunctionName.{FunctionName}
use Rattle.vtl_syntax.specs.declared.word_groups.HierInput.{HierInput}
use Rattle.vtl_syntax.specs.declared.word_groups.HierOut.{HierOut}
use Rattle.vtl_syntax.specs.declared.word_groups.JoinKind.{JoinKind}
use Rattle.vtl_syntax.specs.declared.word_groups.Mode.{Mode}
use Rattle.vtl_syntax.specs.declared.word_groups.Retain.{Retain}
use Rattle.vtl_syntax.specs.declared.word_groups.SetOpName.{SetOpName}
use Rattle.vtl_syntax.specs.declared.word_groups.ShiftName.{ShiftName}
use Rattle.vtl_syntax.specs.declared.word_groups.UnaryOp.{UnaryOp}
use Rattle.vtl_syntax.specs.declared.word_groups.ValueWindowName.{ValueWindowName}
use Rattle.vtl_syntax.specs.declared.word_groups.WrittenRole.{WrittenRole}

mutual
  pub data Exp : Type 0 where
    if_then : Exp → Exp → Exp → Exp
    binary : Exp → BinaryOp → Exp → Exp
    in_set : Exp → Bool → List Literal → Exp
    unary : UnaryOp → Exp → Exp
    with_clause : Exp → ClauseTree → Exp
    member : Exp → Comp → Exp
    component : Comp → Exp
    constant : Constant → Exp
    brackets : Exp → Exp
    function : FunctionName → Exps → Exp
    aggregate : AggregateName → MaybeExp → Option GroupPart → MaybeExp → Exp
    aggregate_over : AggregateName → MaybeExp → OverPart → Exp
    value_window : ValueWindowName → Exp → OverPart → Exp
    shift : ShiftName → Exp → List ℕ → Option Literal → OverPart → Exp
    rank : OverPart → Exp
    set_op : SetOpName → Exps → Exp
    difference : DifferenceName → Exp → Exp → Exp
    exists_in : Exp → Exp → Option Retain → Exp
    time : Exp → TimeCall → Exp
    check : Exp → ErrorPart → MaybeExp → Option BasicOut → Exp
    check_datapoint : Exp → List ℕ → Option CheckOut → Exp
    check_hierarchy : Exp → List ℕ → Option Comp → Option Mode → Bool → Option CheckOut → Exp
    hierarchy : Exp → List ℕ → Option Comp → Option Mode → Option HierInput → Option HierOut → Exp
    join : JoinKind → Parts → Option (List Comp) → MaybeExp → MaybeTargets → Option Keeping → Option (List RenamePart) → Exp

  pub data Exps : Type 0 where
    no_exps : Exps
    exp : Exp → Exps → Exps

  pub data MaybeExp : Type 0 where
    no_exp : MaybeExp
    some_exp : Exp → MaybeExp

  -- what stands between `[` and `]`
  pub data ClauseTree : Type 0 where
    filter : Exp → ClauseTree
    targets : TargetsTree → ClauseTree
    keeping : Keeping → ClauseTree
    rename : List RenamePart → ClauseTree
    sub : List SubPart → ClauseTree
    pivot : Comp → Comp → ClauseTree
    unpivot : Comp → Comp → ClauseTree

  -- what `calc` or `aggr` makes
  pub data TargetsTree : Type 0 where
    calc : Calcs → TargetsTree
    aggr : Calcs → Option GroupPart → MaybeExp → TargetsTree

  pub data MaybeTargets : Type 0 where
    no_targets : MaybeTargets
    some_targets : TargetsTree → MaybeTargets

  pub data Calcs : Type 0 where
    no_calcs : Calcs
    calc_part : Option WrittenRole → Comp → Exp → Calcs → Calcs

  -- the operands of a join, each with its alias
  pub data Parts : Type 0 where
    no_parts : Parts
    join_part : Exp → Option (List ℕ) → Parts → Parts

-- a rule of a datapoint ruleset: its name, its condition, what has to hold, its error
pub data PointRuleTree : Type 0 where
  point_rule : Option (List ℕ) → Option Exp → Exp → ErrorPart → PointRuleTree

pub data StatementTree : Type 0 where
  assignment : List ℕ → AssignKind → Exp → StatementTree
  datapoint : List ℕ → List Comp → List PointRuleTree → Bool → StatementTree
  hierarchical : List ℕ → Comp → List HierRule → Bool → StatementTree

-- a script is the list of its statements
abbrev pub ScriptTree : Type 0
ScriptTree = List StatementTree

-- an item of `calc` or `aggr` alone
pub record CalcTree : Type 0 where
  pub role : Option WrittenRole
  pub component : Comp
  pub value : Exp

-- an operand of a join alone
pub record PartTree : Type 0 where
  pub operand : Exp
  pub alias : Option (List ℕ)

-- lists and choices of trees, as trees hold them
abbrev pub exps_of : List Exp → Exps
exps_of [] = no_exps
exps_of (e ∷ es) = exp e (exps_of es)

abbrev pub calcs_of : List CalcTree → Calcs
calcs_of [] = no_calcs
calcs_of (c ∷ cs) = calc_part c.role c.component c.value (calcs_of cs)

abbrev pub parts_of : List PartTree → Parts
parts_of [] = no_parts
parts_of (p ∷ ps) = join_part p.operand p.alias (parts_of ps)

abbrev pub maybe_exp : Option Exp → MaybeExp
maybe_exp None = no_exp
maybe_exp (Some e) = some_exp e

abbrev pub maybe_targets : Option TargetsTree → MaybeTargets
maybe_targets None = no_targets
maybe_targets (Some m) = some_targets m
