use Rattle.std.proofs.Common.{arith, ◌∙◌, ap}
use Rattle.std.proofs.lemmas.Grind.{common_steps}
use Rattle.std.proofs.lemmas.List.{take_all}
use Rattle.vtl_combine.specs.Operands.{retained_by}
use Rattle.vtl_combine.proofs.retaining.retained_of_few.Goals as goal

pub loop-row-preserved : goal.loop-row-preserved
loop-row-preserved g c = grind (arith, common_steps)

pub returns : goal.returns
returns g c = c.loop-row.invariant ∙ ap (retained_by c.args.retain c.args.seeker.now c.args.table.now.rows) (take_all c.loop-row.row-index c.args.rows.now c.loop-row-test.false)
