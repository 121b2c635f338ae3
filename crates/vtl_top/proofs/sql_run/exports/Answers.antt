use Rattle.std.proofs.Common.{ap, ◌∙◌, map}
use Rattle.sql_engine.specs.InputTables.{rows_given}
use Rattle.sql_meaning.specs.Scripts.{script_value}
use Rattle.sql_tree.specs.View.{script_tree}
use Rattle.vtl_top.specs.OutputView.{outputs_view}
use Rattle.vtl_top.specs.SqlRun.{table_file}
use Rattle.vtl_top.proofs.SqlLemmas.{exports_shown}
use Rattle.vtl_top.proofs.sql_run.exports.Goals as goal

pub returns-in-Ok-clause-view : goal.returns-in-Ok-clause-view
returns-in-Ok-clause-view c =
    exports_shown c.args.folder.now c.args.checked.now.settings outputs_view (script_value (script_tree c.args.checked.now.script) (rows_given c.args.inputs)) c.run_uncounted-ran.new.tables c.in_ok-make_exports-in-Ok.field-0 c.in-Ok.ensures
    (c.in_ok-make_exports-in-Ok.ensures.view ∙ ap (λ p. map (table_file c.args.folder.now p) c.run_uncounted-ran.new.tables) c.profile.ensures.settings)
