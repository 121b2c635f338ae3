use Rattle.vtl_scalar.specs.Given.{given_cell}
use Rattle.sql_eval.proofs.Answered.{AnswersBy_same}
use Rattle.sql_eval.proofs.Operands.{three_value, two_value}
use Rattle.sql_eval.proofs.evaluation.+evaluation.Goals as goal

pub called-returns-in-2 : goal.called-returns-in-2
called-returns-in-2 g t c =
    let r = c.args.at.now in
    AnswersBy_same given_cell _ _ _
    (two_value c.args.p.now (g.R.Cells.tables r) (g.R.Cells.cells r) (g.R.Cells.group r) c.args.kind c.args.op c.args.args.now c.in-2.is c.index-args-0-in-2.result c.index-args-0-in-2.is c.index-args-1.result c.index-args-1.is)
    (c.value_of_two.ensures _ _ c.value_at-a-in-2.ensures c.value_at-b.ensures)

pub called-returns-in-3 : goal.called-returns-in-3
called-returns-in-3 g t c =
    let r = c.args.at.now in
    AnswersBy_same given_cell _ _ _
    (three_value c.args.p.now (g.R.Cells.tables r) (g.R.Cells.cells r) (g.R.Cells.group r) c.args.kind c.args.op c.args.args.now c.in-3.is c.index-args-0-in-3.result c.index-args-0-in-3.is c.index-args-1-in-3.result c.index-args-1-in-3.is c.index-args-2.result c.index-args-2.is)
    (c.value_of_three.ensures _ _ _ c.value_at-a-in-3.ensures c.value_at-b-in-3.ensures c.value_at-c.ensures)
