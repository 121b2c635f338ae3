use Rattle.std.proofs.Common.{◌≡◌, ◌∙◌, ◌≤◌, List, map, ap, sym, subst}
use Rattle.vtl_decimal.specs.Settings.{Settings}
use Rattle.vtl_rows.specs.Named.{NamedTables}
use Rattle.sql_tree.specs.View.{script_tree, statement_tree}
use Rattle.sql_tree.specs.declared.statements.SqlScript.{SqlScript}
use Rattle.sql_tree.specs.declared.statements.Statement.{Statement}
use Rattle.sql_check_parts.specs.Statements.{nothing, scale_written, script_settings, settings_of}
use Rattle.sql_check_laws.specs.Statements.{AreTyped}
use Rattle.sql_check_laws.proofs.TypedStatements.{script_typed}
use Rattle.sql_meaning.specs.Scripts.{script_value}
use Rattle.sql_engine.specs.Exported.{exported_of, exports_in}
use Rattle.sql_engine.specs.InputTables.{AreInputsInRange, rows_given}
use Rattle.sql_engine.specs.Runs.{Shows}
use Rattle.sql_engine.proofs.AtEnd.{are_exported, exports_of, exports_shown}
use Rattle.sql_engine.proofs.Scales.{scale_small}
use Rattle.sql_engine.proofs.engine.script_exports.Goals as goal

pub made_tables-requires-clause-scale : goal.made_tables-requires-clause-scale
made_tables-requires-clause-scale g c =
    let script = c.script.result.now in
    let p : c.profile-p.result.now ≡ settings_of script.scale script.rounding = c.profile-p.ensures.set ∙ ap (λ (s : SqlScript). script_settings (script_tree s)) (sym c.script.ensures.script) in
    let typed = (script_typed script.scale script.rounding (map statement_tree script.statements)).to c.script.ensures.typed in
    subst (λ (q : Settings). q.scale ≤ 9) (sym p) (scale_small (scale_written script.scale) typed.0)

pub made_tables-requires-clause-typed : goal.made_tables-requires-clause-typed
made_tables-requires-clause-typed g c =
    let script = c.script.result.now in
    let p : c.profile-p.result.now ≡ settings_of script.scale script.rounding = c.profile-p.ensures.set ∙ ap (λ (s : SqlScript). script_settings (script_tree s)) (sym c.script.ensures.script) in
    let typed = (script_typed script.scale script.rounding (map statement_tree script.statements)).to c.script.ensures.typed in
    subst (λ (l : List Statement). AreTyped c.profile-p.result.now nothing (map statement_tree l)) (sym c.as_slice-statements.ensures)
    (subst (λ (q : Settings). AreTyped q nothing (map statement_tree script.statements)) (sym p) typed.1)

pub made_tables-requires-clause-in_range : goal.made_tables-requires-clause-in_range
made_tables-requires-clause-in_range g c =
    let inputs = c.args.inputs.now in
    let here : c.as_slice-statements.result.now ≡ c.args.script.now.script.statements = c.as_slice-statements.ensures ∙ ap (λ (s : SqlScript). s.statements) c.script.ensures.script in
    subst (λ (l : List Statement). AreInputsInRange c.profile-p.result.now inputs (map statement_tree l)) (sym here)
    (subst (λ (q : Settings). AreInputsInRange q inputs (map statement_tree c.args.script.now.script.statements)) (sym c.profile-p.ensures.settings) c.requires.in_range.1)

pub exported-requires : goal.exported-requires
exported-requires g c =
    let script = c.script.result.now in
    let p : c.profile-p.result.now ≡ settings_of script.scale script.rounding = c.profile-p.ensures.set ∙ ap (λ (s : SqlScript). script_settings (script_tree s)) (sym c.script.ensures.script) in
    let typed = (script_typed script.scale script.rounding (map statement_tree script.statements)).to c.script.ensures.typed in
    let here = subst (λ (l : List Statement). AreTyped c.profile-p.result.now nothing (map statement_tree l)) (sym c.as_slice-statements.ensures)
    (subst (λ (q : Settings). AreTyped q nothing (map statement_tree script.statements)) (sym p) typed.1) in
    are_exported c.profile-p.result.now c.args.inputs.now (map statement_tree c.as_slice-statements.result.now) here c.in_ok-tables.tables c.in_ok-tables.ensures

pub returns : goal.returns
returns g c =
    let script = c.script.result.now in
    let inputs = c.args.inputs.now in
    let p = c.profile-p.result.now in
    let ss = c.as_slice-statements.result.now in
    let settings : p ≡ settings_of script.scale script.rounding = c.profile-p.ensures.set ∙ ap (λ (s : SqlScript). script_settings (script_tree s)) (sym c.script.ensures.script) in
    let typed = (script_typed script.scale script.rounding (map statement_tree script.statements)).to c.script.ensures.typed in
    let here = subst (λ (l : List Statement). AreTyped p nothing (map statement_tree l)) (sym c.as_slice-statements.ensures)
    (subst (λ (q : Settings). AreTyped q nothing (map statement_tree script.statements)) (sym settings) typed.1) in
    let shows = exports_shown p inputs (map statement_tree ss) here c.args.order c.in_ok-tables.tables c.in_ok-tables.ensures in
    let same : ss ≡ c.args.script.now.script.statements = c.as_slice-statements.ensures ∙ ap (λ (s : SqlScript). s.statements) c.script.ensures.script in
    let meant : exports_of p inputs (map statement_tree ss) ≡ script_value (script_tree c.args.script.now.script) (rows_given inputs) =
    ap (λ (q : Settings). exports_of q inputs (map statement_tree ss)) c.profile-p.ensures.set
    ∙ ap (λ (l : List Statement). exports_of (script_settings (script_tree c.args.script.now.script)) inputs (map statement_tree l)) same in
    subst (λ (t : NamedTables). Shows c.args.order (script_value (script_tree c.args.script.now.script) (rows_given inputs)) t) (sym c.in_ok-exported.ensures)
    (subst (λ r. Shows c.args.order r (map (exported_of c.args.order c.in_ok-tables.tables) (exports_in (map statement_tree ss)))) meant shows)
