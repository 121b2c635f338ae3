use Rattle.std.proofs.Common.{ap, sym, subst, ◌∙◌}
use Rattle.sql_tree.specs.View.{script_tree}
use Rattle.sql_engine.specs.InputTables.{AreInputsInRange, HaveInputTables}
use Rattle.sql_engine.specs.Runs.{RunsAsMade}
use Rattle.sql_check_parts.specs.Statements.{IsTypedScript, script_settings}
use Rattle.sql_back.proofs.EngineRuns.{run_told}
use Rattle.sql_back.proofs.text_runs.run_text.Goals as goal

pub of-checked-requires-clause-typed : goal.of-checked-requires-clause-typed
of-checked-requires-clause-typed c = subst IsTypedScript (sym (c.in_ok-script.ensures.script c.requires.script c.requires.spelled)) c.requires.typed

pub run_uncounted-requires-clause-there : goal.run_uncounted-requires-clause-there
run_uncounted-requires-clause-there c =
    let same = ap script_tree c.of-checked.ensures.script ∙ c.in_ok-script.ensures.script c.requires.script c.requires.spelled in
    subst (HaveInputTables c.args.inputs.now) (sym same) c.requires.there

pub run_uncounted-requires-clause-in_range : goal.run_uncounted-requires-clause-in_range
run_uncounted-requires-clause-in_range c =
    let read = c.in_ok-script.ensures.script c.requires.script c.requires.spelled in
    let same = ap script_tree c.of-checked.ensures.script ∙ read in
    subst (λ p. AreInputsInRange p c.args.inputs.now (script_tree c.of-checked.result.script)) (ap script_settings (sym read) ∙ sym c.of-checked.ensures.settings)
    (subst (AreInputsInRange (script_settings c.requires.script) c.args.inputs.now) (sym same) c.requires.in_range)

-- whatever script the text spells, it is the one that was read
pub returns : goal.returns
returns c script spelled =
    let same = ap script_tree c.of-checked.ensures.script ∙ c.in_ok-script.ensures.script script spelled in
    let inputs = c.args.inputs.now in
    let before = c.args.out.now in
    let now = c.run_uncounted.new.out in
    let r = c.run_uncounted.result in
    run_told script inputs before now r (subst (λ s. RunsAsMade s inputs before now r) same c.run_uncounted.ensures)
