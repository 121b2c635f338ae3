use Rattle.std.proofs.Common.{◌++◌, ap, ◌∙◌}
use Rattle.std.proofs.lemmas.Result.{on_ok_weaker}
use Rattle.sql_from.specs.Standing.{sight_of}
use Rattle.vtl_frames.specs.Lanes.{lane_cells}
use Rattle.vtl_frames.specs.Lent.{cells_in}
use Rattle.sql_window.proofs.CallLemmas.{aggregate_values}
use Rattle.sql_window.proofs.calls.push_aggregate.Goals as goal

pub returns : goal.returns
returns c =
    let v = sight_of c.args.p.now c.args.sources.now in
    let rows = c.args.table.now.rows in
    let run = c.args.run.now in
    let lane = c.of-lane.ensures ∙ ap (lane_cells rows run) c.place.ensures in
    on_ok_weaker c.push_aggregates.result
    (λ e. e ∙ ap (λ l. c.args.out.now.items ++ l) (aggregate_values v c.args.column.now c.args.over.now rows run (cells_in c.of-lane.result) lane c.args.function c.frame_of.result c.frame_of.ensures))
    c.push_aggregates.ensures.ok
