use Rattle.std.proofs.Common.{option_map, ap, ◌∙◌}
use Rattle.vtl_csv.specs.InputSteps.{flaw_of, rows_outcome}
use Rattle.vtl_csv.proofs.RepeatLemmas.{outcome_is}
use Rattle.vtl_csv.proofs.dataset.read_rows.Goals as goal

pub returns-clause-rows : goal.returns-clause-rows
returns-clause-rows c =
    ap (rows_outcome c.in_ok-table.table.rows) c.first_fault-fault.ensures
    ∙ outcome_is c.args.profile.now c.args.columns.now c.args.keys.now c.args.reader.now c.in_ok-table.table.rows (option_map flaw_of c.in_ok-table.flaw) c.in_ok-repeat.repeat c.in_ok-table.ensures.rows c.in_ok-repeat.ensures
