-- A component expression, without the places where its parts lie in memory.
use Rattle.std.specs.Prelude.{ℕ, List}
use Rattle.vtl_cell.specs.declared.cell.Cell.{Cell}
use Rattle.vtl_cell.specs.declared.kind.Kind.{Kind}
use Rattle.vtl_cell.specs.declared.operator.ScalarOp.{ScalarOp}
use Rattle.vtl_tree.specs.declared.expression.AggCall.{AggCall}

mutual
  pub data CompExp : Type 0 where
    column : (place : ℕ) (name : List ℕ) → Kind → CompExp
    const : Cell → CompExp
    call : ScalarOp → Kind → CompExps → CompExp
    -- of the points of a group
    aggregate : AggCall → Kind → CompExp

  pub data CompExps : Type 0 where
    no_comp_exps : CompExps
    comp_exp : CompExp → CompExps → CompExps
