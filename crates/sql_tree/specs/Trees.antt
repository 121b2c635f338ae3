-- Trees of scripts without the places where their parts lie in memory.
use Rattle.std.specs.Prelude.{ℕ, Bool, List, [], ◌∷◌, Option}
use Rattle.vtl_cell.specs.declared.operator.ScalarOp.{ScalarOp}
use Rattle.vtl_cell.specs.declared.operator.AggKind.{AggKind}
use Rattle.vtl_decimal.specs.declared.settings.Rounding.{Rounding}
use Rattle.sql_tree.specs.declared.parts.Column.{Column}
use Rattle.sql_tree.specs.declared.parts.Source.{Source}
use Rattle.sql_tree.specs.declared.parts.Equality.{Equality}
use Rattle.sql_tree.specs.declared.parts.Constant.{Constant}
use Rattle.sql_tree.specs.declared.parts.Literal.{Literal}
use Rattle.sql_tree.specs.declared.windows.Window.{Window}
use Rattle.sql_tree.specs.declared.word_groups.JoinKind.{JoinKind}
use Rattle.sql_tree.specs.declared.statements.SqlInput.{SqlInput}
use Rattle.sql_tree.specs.declared.statements.SqlExport.{SqlExport}

abbrev pub Text : Type 0
Text = List ℕ

mutual
  pub data Exp : Type 0 where
    binary : Exp → ScalarOp → Exp → Exp
    unary : ScalarOp → Exp → Exp
    is_null : Exp → Bool → Exp
    in_list : Exp → Bool → List Literal → Exp
    constant : Constant → Exp
    column : Column → Exp
    call : ScalarOp → Exps → Exp
    count_all : Exp
    aggregate : AggKind → Exp → Exp
    case_when : Branches → Exp → Exp
    exists : Source → List Equality → Exp

  pub data Exps : Type 0 where
    no_exps : Exps
    exp : Exp → Exps → Exps

  -- conditions and values
  pub data Branches : Type 0 where
    no_branches : Branches
    branch : Exp → Exp → Branches → Branches

abbrev pub exps_of : List Exp → Exps
exps_of [] = no_exps
exps_of (e ∷ es) = exp e (exps_of es)

abbrev pub branches_of : List (Exp × Exp) → Branches
branches_of [] = no_branches
branches_of (b ∷ bs) = branch b.0 b.1 (branches_of bs)

pub data ValueTree : Type 0 where
  expression : Exp → ValueTree
  window : Window → ValueTree

pub record ItemTree : Type 0 where
  pub value : ValueTree
  pub name : Text

pub data JoinTree : Type 0 where
  on : JoinKind → Source → Exp → JoinTree
  cross : Source → JoinTree

pub record SelectTree : Type 0 where
  pub items : List ItemTree
  pub source : Source
  pub joins : List JoinTree
  pub condition : Option Exp
  pub group : List Column
  pub having : Option Exp

abbrev pub QueryTree : Type 0
QueryTree = List SelectTree

-- SET is the first statement of a script
pub data StatementTree : Type 0 where
  setting : Text → Rounding → StatementTree
  input : SqlInput → StatementTree
  create : Text → QueryTree → StatementTree
  export : SqlExport → StatementTree

abbrev pub ScriptTree : Type 0
ScriptTree = List StatementTree
