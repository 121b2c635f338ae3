use Rattle.std.proofs.Common.{subst}
use Rattle.vtl_scalar.specs.Answers.{Answers}
use Rattle.sql_eval.specs.Placed.{aggregate_value}
use Rattle.sql_eval.specs.View.{placed_of}
use Rattle.sql_from.specs.Held.{rows_held}
use Rattle.sql_groups.specs.Grouped.{Group}
use Rattle.sql_groups.proofs.group_row.GroupRowCells.aggregate.Goals as goal

pub returns : goal.returns
returns c =
    subst (λ (v : Group). Answers c.aggregate.result (aggregate_value c.args.p.now (rows_held v.held) c.args.function (placed_of c.args.operand.now) v.rows))
    c.self.view_is c.aggregate.ensures
