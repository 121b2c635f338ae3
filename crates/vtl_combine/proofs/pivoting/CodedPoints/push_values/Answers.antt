use Rattle.std.proofs.Common.{◌∙◌}
use Rattle.vtl_combine.proofs.PivotLemmas.{coded_more}
use Rattle.vtl_combine.proofs.pivoting.CodedPoints.push_values.Goals as goal

pub loop-code-preserved : goal.loop-code-preserved
loop-code-preserved g c = record {
  cells =
      coded_more c.args.self.now c.args.key.now.items c.loop-code.key.items c.loop-code.code-index c.code-item.result c.args.cells.now.items c.loop-code.cells.items c.push_value.new.cells.items
      c.loop-code-test.true c.code-item.is c.loop-code.invariant.key c.loop-code.invariant.cells c.in_ok-push_value.ensures.cells;
  key = c.in_ok-push_value.ensures.key ∙ c.loop-code.invariant.key;
}
