use Rattle.std.specs.Prelude.{string_bytes}
use Rattle.sql_back.proofs.BackRuns.{text_can_run, text_runs}
use Rattle.sql_back.proofs.backend.SqlBackBackend.run.Goals as goal

pub run_text-requires : goal.run_text-requires
run_text-requires g c = text_can_run c.args.script.now (string_bytes c.in_ok-text.text) c.args.inputs.now c.in_ok-text.ensures.text c.requires.inputs c.requires.ranges

pub returns-clause-run : goal.returns-clause-run
returns-clause-run g c =
    text_runs c.args.script.now c.args.inputs.now c.in_ok-text.ensures.accepted c.requires.inputs c.requires.ranges (string_bytes c.in_ok-text.text) c.in_ok-text.ensures.script c.args.out.now c.run_text.new.out c.run_text.result
    c.run_text.ensures.run
