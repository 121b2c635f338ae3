use Rattle.std.proofs.Common.{◌≡◌, List, ap, subst, ◌∙◌}
use Rattle.std.specs.Prelude.{IfOk}
use Rattle.vtl_cell.specs.Row.{Row}
use Rattle.vtl_rows.specs.Tables.{listed}
use Rattle.vtl_join.specs.Gatherings.{points_of}
use Rattle.vtl_join.specs.Joining.{sets_of}
use Rattle.vtl_join.proofs.Gatherings.{rows_gathered}
use Rattle.vtl_join.proofs.gathering.gathered.Goals as goal

pub returns-clause-rows : goal.returns-clause-rows
returns-clause-rows c =
    let rows = ap (λ g. points_of g c.args.tuples.now) c.in_ok-gathering.ensures ∙ rows_gathered (listed c.args.lead.now) (sets_of c.args.operands.now) c.args.identifiers.items c.args.made.now c.args.tuples.now in
    subst (λ (l : List Row). IfOk c.points.result (λ t. t.rows ≡ l)) rows c.points.ensures.rows
