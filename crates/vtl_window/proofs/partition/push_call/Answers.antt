use Rattle.std.proofs.Common.{◌≡◌, ◌++◌, Ok, length, map, refl, ap, sym, ◌∙◌}
use Rattle.std.specs.List.{range_with_len}
use Rattle.std.proofs.lemmas.Result.{on_ok_weaker}
use Rattle.vtl_cell.specs.Frames.{first_cell, lag_of, last_cell, lead_of}
use Rattle.vtl_cell.specs.Groups.{group_value, ratio_of}
use Rattle.vtl_cell.specs.Row.{column_of}
use Rattle.vtl_cell.specs.Sorted.{row_rank}
use Rattle.vtl_rows.specs.Places.{row_at}
use Rattle.vtl_cell.specs.declared.operator.AggKind.TheVariants as agg
use Rattle.vtl_frames.specs.Framed as frames
use Rattle.vtl_tree.specs.Structure.{columns_of}
use Rattle.vtl_tree.specs.declared.calls.AnalyticOp.TheVariants as op
use Rattle.vtl_meaning.specs.Windows.{argument, keys_in, op_value}
use Rattle.vtl_window.specs.Calls.{lent}
use Rattle.vtl_frames.specs.Lanes.{lane_cells}
use Rattle.vtl_frames.specs.Lent.{cells_in}
use Rattle.vtl_frames.specs.Ranked.{ranks_in}
use Rattle.vtl_frames.proofs.ListLemmas.{listed}
use Rattle.vtl_window.specs.Runs.{stand_at}
use Rattle.vtl_window.proofs.CallLemmas.{frame_is, lent_cells, op_values, own_cell}
use Rattle.vtl_window.proofs.partition.push_call.Goals as goal

pub returns-in-Sum : goal.returns-in-Sum
returns-in-Sum c =
    let p = c.args.p.now in
    let xs = columns_of c.args.a.now.structure in
    let call = lent c.args.call in
    let rows = c.args.a.now.points in
    let run = c.args.run.now in
    let column = c.args.column in
    let lane : cells_in c.of-lane.result ≡ lane_cells rows run column = c.of-lane.ensures ∙ ap (λ rs. lane_cells rs run column) c.table-table.ensures.points in
    let frame = c.frame_of-frame.result in
    on_ok_weaker c.push_aggregates.result
    (λ e. e ∙ ap (λ l. c.args.out.now.items ++ l) (op_values p xs call rows run column c.requires.column op.Sum c.in-Sum.is (λ i cs. group_value p agg.Sum (frames.framed frame i cs))
    (λ i h. ap (group_value p agg.Sum) (ap (λ f. frames.framed f i (lent_cells p xs call rows run column c.requires.column)) c.frame_of-frame.ensures ∙ frame_is call.window i (lent_cells p xs call rows run column c.requires.column)))
    (cells_in c.of-lane.result) lane))
    c.push_aggregates.ensures.ok

pub returns-in-Avg : goal.returns-in-Avg
returns-in-Avg c =
    let p = c.args.p.now in
    let xs = columns_of c.args.a.now.structure in
    let call = lent c.args.call in
    let rows = c.args.a.now.points in
    let run = c.args.run.now in
    let column = c.args.column in
    let lane : cells_in c.of-lane.result ≡ lane_cells rows run column = c.of-lane.ensures ∙ ap (λ rs. lane_cells rs run column) c.table-table.ensures.points in
    let frame = c.frame_of-frame.result in
    on_ok_weaker c.push_aggregates-in-Avg.result
    (λ e. e ∙ ap (λ l. c.args.out.now.items ++ l) (op_values p xs call rows run column c.requires.column op.Avg c.in-Avg.is (λ i cs. group_value p agg.Avg (frames.framed frame i cs))
    (λ i h. ap (group_value p agg.Avg) (ap (λ f. frames.framed f i (lent_cells p xs call rows run column c.requires.column)) c.frame_of-frame.ensures ∙ frame_is call.window i (lent_cells p xs call rows run column c.requires.column)))
    (cells_in c.of-lane.result) lane))
    c.push_aggregates-in-Avg.ensures.ok

pub returns-in-Count : goal.returns-in-Count
returns-in-Count c =
    let p = c.args.p.now in
    let xs = columns_of c.args.a.now.structure in
    let call = lent c.args.call in
    let rows = c.args.a.now.points in
    let run = c.args.run.now in
    let column = c.args.column in
    let lane : cells_in c.of-lane.result ≡ lane_cells rows run column = c.of-lane.ensures ∙ ap (λ rs. lane_cells rs run column) c.table-table.ensures.points in
    let frame = c.frame_of-frame.result in
    on_ok_weaker c.push_aggregates-in-Count.result
    (λ e. e ∙ ap (λ l. c.args.out.now.items ++ l) (op_values p xs call rows run column c.requires.column op.Count c.in-Count.is (λ i cs. group_value p agg.Count (frames.framed frame i cs))
    (λ i h. ap (group_value p agg.Count) (ap (λ f. frames.framed f i (lent_cells p xs call rows run column c.requires.column)) c.frame_of-frame.ensures ∙ frame_is call.window i (lent_cells p xs call rows run column c.requires.column)))
    (cells_in c.of-lane.result) lane))
    c.push_aggregates-in-Count.ensures.ok

pub returns-in-Min : goal.returns-in-Min
returns-in-Min c =
    let p = c.args.p.now in
    let xs = columns_of c.args.a.now.structure in
    let call = lent c.args.call in
    let rows = c.args.a.now.points in
    let run = c.args.run.now in
    let column = c.args.column in
    let lane : cells_in c.of-lane.result ≡ lane_cells rows run column = c.of-lane.ensures ∙ ap (λ rs. lane_cells rs run column) c.table-table.ensures.points in
    let frame = c.frame_of-frame.result in
    on_ok_weaker c.push_aggregates-in-Min.result
    (λ e. e ∙ ap (λ l. c.args.out.now.items ++ l) (op_values p xs call rows run column c.requires.column op.Min c.in-Min.is (λ i cs. group_value p agg.Min (frames.framed frame i cs))
    (λ i h. ap (group_value p agg.Min) (ap (λ f. frames.framed f i (lent_cells p xs call rows run column c.requires.column)) c.frame_of-frame.ensures ∙ frame_is call.window i (lent_cells p xs call rows run column c.requires.column)))
    (cells_in c.of-lane.result) lane))
    c.push_aggregates-in-Min.ensures.ok

pub returns-in-Max : goal.returns-in-Max
returns-in-Max c =
    let p = c.args.p.now in
    let xs = columns_of c.args.a.now.structure in
    let call = lent c.args.call in
    let rows = c.args.a.now.points in
    let run = c.args.run.now in
    let column = c.args.column in
    let lane : cells_in c.of-lane.result ≡ lane_cells rows run column = c.of-lane.ensures ∙ ap (λ rs. lane_cells rs run column) c.table-table.ensures.points in
    let frame = c.frame_of-frame.result in
    on_ok_weaker c.push_aggregates-in-Max.result
    (λ e. e ∙ ap (λ l. c.args.out.now.items ++ l) (op_values p xs call rows run column c.requires.column op.Max c.in-Max.is (λ i cs. group_value p agg.Max (frames.framed frame i cs))
    (λ i h. ap (group_value p agg.Max) (ap (λ f. frames.framed f i (lent_cells p xs call rows run column c.requires.column)) c.frame_of-frame.ensures ∙ frame_is call.window i (lent_cells p xs call rows run column c.requires.column)))
    (cells_in c.of-lane.result) lane))
    c.push_aggregates-in-Max.ensures.ok

pub returns-in-FirstValue : goal.returns-in-FirstValue
returns-in-FirstValue c =
    let p = c.args.p.now in
    let xs = columns_of c.args.a.now.structure in
    let call = lent c.args.call in
    let rows = c.args.a.now.points in
    let run = c.args.run.now in
    let column = c.args.column in
    let lane : cells_in c.of-lane.result ≡ lane_cells rows run column = c.of-lane.ensures ∙ ap (λ rs. lane_cells rs run column) c.table-table.ensures.points in
    let frame = c.frame_of-frame.result in
    on_ok_weaker c.push_ends.result
    (λ e. e ∙ ap (λ l. c.args.out.now.items ++ l) (op_values p xs call rows run column c.requires.column op.FirstValue c.in-FirstValue.is (λ i cs. Ok (first_cell (frames.framed frame i cs)))
    (λ i h. ap (λ l. Ok (first_cell l)) (ap (λ f. frames.framed f i (lent_cells p xs call rows run column c.requires.column)) c.frame_of-frame.ensures ∙ frame_is call.window i (lent_cells p xs call rows run column c.requires.column)))
    (cells_in c.of-lane.result) lane))
    c.push_ends.ensures.ok

pub returns-in-LastValue : goal.returns-in-LastValue
returns-in-LastValue c =
    let p = c.args.p.now in
    let xs = columns_of c.args.a.now.structure in
    let call = lent c.args.call in
    let rows = c.args.a.now.points in
    let run = c.args.run.now in
    let column = c.args.column in
    let lane : cells_in c.of-lane.result ≡ lane_cells rows run column = c.of-lane.ensures ∙ ap (λ rs. lane_cells rs run column) c.table-table.ensures.points in
    let frame = c.frame_of-frame.result in
    on_ok_weaker c.push_ends-in-LastValue.result
    (λ e. e ∙ ap (λ l. c.args.out.now.items ++ l) (op_values p xs call rows run column c.requires.column op.LastValue c.in-LastValue.is (λ i cs. Ok (last_cell (frames.framed frame i cs)))
    (λ i h. ap (λ l. Ok (last_cell l)) (ap (λ f. frames.framed f i (lent_cells p xs call rows run column c.requires.column)) c.frame_of-frame.ensures ∙ frame_is call.window i (lent_cells p xs call rows run column c.requires.column)))
    (cells_in c.of-lane.result) lane))
    c.push_ends-in-LastValue.ensures.ok

pub returns-in-RatioToReport : goal.returns-in-RatioToReport
returns-in-RatioToReport c =
    let p = c.args.p.now in
    let xs = columns_of c.args.a.now.structure in
    let call = lent c.args.call in
    let rows = c.args.a.now.points in
    let run = c.args.run.now in
    let column = c.args.column in
    let lane : cells_in c.of-lane.result ≡ lane_cells rows run column = c.of-lane.ensures ∙ ap (λ rs. lane_cells rs run column) c.table-table.ensures.points in
    on_ok_weaker c.push_ratios.result
    (λ e. e ∙ ap (λ l. c.args.out.now.items ++ l) (op_values p xs call rows run column c.requires.column op.RatioToReport c.in-RatioToReport.is (λ i cs. ratio_of p (column_of i cs) cs)
    (λ i h. ap (λ v. ratio_of p v (lent_cells p xs call rows run column c.requires.column)) (own_cell p xs call rows run column c.requires.column i h))
    (cells_in c.of-lane.result) lane))
    c.push_ratios.ensures.ok

pub returns-in-Lag : goal.returns-in-Lag
returns-in-Lag c =
    let p = c.args.p.now in
    let xs = columns_of c.args.a.now.structure in
    let call = lent c.args.call in
    let rows = c.args.a.now.points in
    let run = c.args.run.now in
    let column = c.args.column in
    let lane : cells_in c.of-lane.result ≡ lane_cells rows run column = c.of-lane.ensures ∙ ap (λ rs. lane_cells rs run column) c.table-table.ensures.points in
    on_ok_weaker c.push_shifted.result
    (λ e. e ∙ ap (λ l. c.args.out.now.items ++ l) (op_values p xs call rows run column c.requires.column (op.Lag c.in-Lag.offset c.in-Lag.default) c.in-Lag.is (λ i cs. Ok (lag_of c.in-Lag.offset c.in-Lag.default i cs))
    (λ i h. refl)
    (cells_in c.of-lane.result) lane))
    c.push_shifted.ensures.ok

pub returns-in-Rank : goal.returns-in-Rank
returns-in-Rank c =
    let p = c.args.p.now in
    let xs = columns_of c.args.a.now.structure in
    let call = lent c.args.call in
    let rows = c.args.a.now.points in
    let run = c.args.run.now in
    on_ok_weaker c.push_ranks.result
    (λ e. e ∙ ap (λ l. c.args.out.now.items ++ l) (ap (λ rs. ranks_in p c.args.keys.now rs run) c.table-table.ensures.points
    ∙ ap (λ ks. map (λ k. row_rank p ks (row_at rows k) (map (row_at rows) run)) run) c.requires.keys
    ∙ sym (listed (λ k. row_rank p (keys_in xs call.window) (row_at rows k) (map (row_at rows) run)) run 0)
    ∙ ap (λ o. map (λ i. op_value p xs call.window (argument xs call.component) o (stand_at rows run i)) (range_with_len 0 (length run))) (sym c.in-Rank.is)))
    c.push_ranks.ensures.ok

pub returns : goal.returns
returns c =
    let p = c.args.p.now in
    let xs = columns_of c.args.a.now.structure in
    let call = lent c.args.call in
    let rows = c.args.a.now.points in
    let run = c.args.run.now in
    let column = c.args.column in
    let lane : cells_in c.of-lane.result ≡ lane_cells rows run column = c.of-lane.ensures ∙ ap (λ rs. lane_cells rs run column) c.table-table.ensures.points in
    on_ok_weaker c.push_shifted-in-Lead.result
    (λ e. e ∙ ap (λ l. c.args.out.now.items ++ l) (op_values p xs call rows run column c.requires.column (op.Lead c.in-Lead.offset c.in-Lead.default) c.in-Lead.is (λ i cs. Ok (lead_of c.in-Lead.offset c.in-Lead.default i cs))
    (λ i h. refl)
    (cells_in c.of-lane.result) lane))
    c.push_shifted-in-Lead.ensures.ok
