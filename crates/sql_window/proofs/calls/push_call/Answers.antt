use Rattle.std.proofs.Common.{◌++◌, map, ap, sym, ◌∙◌}
use Rattle.std.proofs.lemmas.Result.{on_ok_weaker}
use Rattle.vtl_cell.specs.Sorted.{row_rank}
use Rattle.vtl_rows.specs.Places.{row_at}
use Rattle.sql_from.specs.Standing.{sight_of}
use Rattle.sql_meaning.specs.Windows.{keys_of}
use Rattle.vtl_frames.specs.Lanes.{lane_cells}
use Rattle.vtl_frames.specs.Lent.{cells_in}
use Rattle.vtl_frames.proofs.ListLemmas.{listed}
use Rattle.sql_window.specs.Runs.{run_values}
use Rattle.sql_window.proofs.CallLemmas.{shift_values, value_values}
use Rattle.sql_window.proofs.calls.push_call.Goals as goal

pub returns-in-Value : goal.returns-in-Value
returns-in-Value c =
    let v = sight_of c.args.p.now c.args.sources.now in
    let o = c.args.window.now.over in
    let rows = c.args.table.now.rows in
    let run = c.args.run.now in
    let lane = c.of-lane.ensures ∙ ap (lane_cells rows run) c.place.ensures in
    on_ok_weaker c.push_value.result
    (λ e. e ∙ ap (λ l. c.args.out.now.items ++ l) (value_values v c.in-Value.column o rows run (cells_in c.of-lane.result) lane c.in-Value.function ∙ ap (λ w. run_values v w o rows run) (sym c.in-Value.is)))
    c.push_value.ensures

pub returns-in-Shift : goal.returns-in-Shift
returns-in-Shift c =
    let v = sight_of c.args.p.now c.args.sources.now in
    let o = c.args.window.now.over in
    let rows = c.args.table.now.rows in
    let run = c.args.run.now in
    let lane = c.of-lane-in-Shift.ensures ∙ ap (lane_cells rows run) c.place-in-Shift.ensures in
    on_ok_weaker c.push_shift.result
    (λ e. e ∙ ap (λ l. c.args.out.now.items ++ l) (shift_values v c.in-Shift.column o rows run (cells_in c.of-lane-in-Shift.result) lane c.in-Shift.function c.in-Shift.rows c.in-Shift.default ∙ ap (λ w. run_values v w o rows run) (sym c.in-Shift.is)))
    c.push_shift.ensures

pub returns-in-Rank : goal.returns-in-Rank
returns-in-Rank c =
    let v = sight_of c.args.p.now c.args.sources.now in
    let o = c.args.window.now.over in
    let rows = c.args.table.now.rows in
    let run = c.args.run.now in
    on_ok_weaker c.push_ranks.result
    (λ e. e ∙ ap (λ l. c.args.out.now.items ++ l) (ap (λ ks. map (λ k. row_rank v.base.settings ks (row_at rows k) (map (row_at rows) run)) run) c.requires.keys
    ∙ sym (listed (λ k. row_rank v.base.settings (keys_of v o) (row_at rows k) (map (row_at rows) run)) run 0) ∙ ap (λ w. run_values v w o rows run) (sym c.in-Rank.is)))
    c.push_ranks.ensures.ok
