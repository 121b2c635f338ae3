use Rattle.std.proofs.Common.{◌∙◌, ◌++◌, ap, sym, subst, take, Bor}
use Rattle.std.specs.List.{flat_map}
use Rattle.vtl_tree.specs.Environment.{DataSet}
use Rattle.vtl_meaning.specs.Operators.{left_of}
use Rattle.vtl_combine.specs.Operands.{HasColumns}
use Rattle.vtl_combine.proofs.ChosenLemmas.{each_more}
use Rattle.vtl_combine.proofs.unions.all_points.Goals as goal

pub all_rows-requires : goal.all_rows-requires
all_rows-requires c = subst (λ (z : Bor DataSet). HasColumns c.args.made.now z.now.structure) (sym c.operand-item.is) (c.requires.columns c.loop-operand.operand-index c.operand-item.result c.loop-operand-test.true)

pub loop-operand-preserved : goal.loop-operand-preserved
loop-operand-preserved c =
    let s = c.args.made.now in
    let f = λ (d : Bor DataSet). left_of d.now s in
    record {
      columns = c.in_ok-append.ensures.columns ∙ c.loop-operand.invariant.columns;
      rows =
          c.in_ok-append.ensures.rows ∙ ap (λ l. l ++ c.in_ok-all_rows.field-0.rows) c.loop-operand.invariant.rows ∙ ap (λ l. flat_map f (take c.loop-operand.operand-index c.args.operands.now) ++ l) c.in_ok-all_rows.ensures.rows
          ∙ sym (each_more f c.args.operands.now c.loop-operand.operand-index c.operand-item.result c.loop-operand-test.true c.operand-item.is);
    }
