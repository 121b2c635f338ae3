use Rattle.std.proofs.Common.{map, subst, Ok}
use Rattle.sql_tree.specs.View.{script_tree}
use Rattle.sql_check_parts.specs.Statements.{script_settings}
use Rattle.sql_engine.specs.InputTables.{rows_given}
use Rattle.sql_meaning.specs.Scripts.{script_value}
use Rattle.vtl_backend.specs.Inputs.{input_of}
use Rattle.vtl_top.specs.Answered.{Takes}
use Rattle.vtl_top.specs.Expected.{wanted_step}
use Rattle.vtl_top.specs.OutputView.{outputs_view}
use Rattle.vtl_top.specs.Refusal.{SettlesBy}
use Rattle.vtl_top.specs.RunView.{engine_view}
use Rattle.vtl_top.specs.SqlInputs.{input_structures, inputs_wanted}
use Rattle.vtl_top.specs.SqlRun.{exports_of}
use Rattle.vtl_top.proofs.SqlLemmas.{then_exports}
use Rattle.vtl_top.proofs.sql_run.prepare_exports.Goals as goal

pub returns-clause-takes : goal.returns-clause-takes
returns-clause-takes g c =
    let e = engine_view c.args.engine.now in
    let k = c.in_ok-checked.checked in
    let tree = script_tree k.script in
    let view = subst (λ p. SettlesBy outputs_view (exports_of e.output p (script_value tree (rows_given c.in_ok-inputs.inputs))) c.exports.result) c.in_ok-checked.ensures.settings c.exports.ensures.view in
    then_exports g.F.Files e outputs_view c.args.files.now c.read_checked.new.files k c.in_ok-checked.ensures.takes (λ t. map (input_of t) (input_structures tree)) c.read_sql_inputs.new.files c.in_ok-inputs.inputs c.exports.result
    (subst (λ p. Takes g.F.Files c.read_checked.new.files c.read_sql_inputs.new.files (wanted_step e.input p (inputs_wanted tree)) (λ t. map (input_of t) (input_structures tree)) (Ok c.in_ok-inputs.inputs)) c.in_ok-checked.ensures.settings c.in_ok-inputs.ensures.takes)
    (subst (λ rows. SettlesBy outputs_view (exports_of e.output (script_settings tree) (script_value tree rows)) c.exports.result) c.in_ok-inputs.ensures.rows view)
