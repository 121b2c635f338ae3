use Rattle.std.proofs.Common.{Ok, ap, sym}
use Rattle.vtl_demo.specs.Said.{said}
use Rattle.vtl_top.specs.MadeView.{made_view}
use Rattle.vtl_top.specs.RunView.{command_view, engine_view, migration_view, replay_view, run_view, source_view}
use Rattle.vtl_top.specs.Steps.{only_text}
use Rattle.vtl_top.specs.Words.{demo, engine, format, lineage, migrate, replay, run, sql, sqlrun}
use Rattle.vtl_top.proofs.MadeLemmas.{of_command}
use Rattle.vtl_top.proofs.ReadScripts.{settled_given}
use Rattle.vtl_top.proofs.made.make.Goals as goal

pub returns-in-Run-clause-takes : goal.returns-in-Run-clause-takes
returns-in-Run-clause-takes g c =
    of_command g.F.Files c.args.files.now c.make_run.new.files (run (run_view c.in-Run.run')) (command_view c.args.command.now) c.make_run.result c.make_run.ensures.takes (sym (ap command_view c.in-Run.is))

pub returns-in-SqlRun-clause-takes : goal.returns-in-SqlRun-clause-takes
returns-in-SqlRun-clause-takes g c =
    of_command g.F.Files c.args.files.now c.make_run-in-SqlRun.new.files (sqlrun (run_view c.in-SqlRun.run')) (command_view c.args.command.now) c.make_run-in-SqlRun.result c.make_run-in-SqlRun.ensures.takes (sym (ap command_view c.in-SqlRun.is))

pub returns-in-Sql-clause-takes : goal.returns-in-Sql-clause-takes
returns-in-Sql-clause-takes g c =
    of_command g.F.Files c.args.files.now c.make_text.new.files (sql (source_view c.in-Sql.source)) (command_view c.args.command.now) c.make_text.result c.make_text.ensures.takes (sym (ap command_view c.in-Sql.is))

pub returns-in-Engine-clause-takes : goal.returns-in-Engine-clause-takes
returns-in-Engine-clause-takes g c =
    of_command g.F.Files c.args.files.now c.make_exports.new.files (engine (engine_view c.in-Engine.engine)) (command_view c.args.command.now) c.make_exports.result c.make_exports.ensures.takes (sym (ap command_view c.in-Engine.is))

pub returns-in-Replay-clause-takes : goal.returns-in-Replay-clause-takes
returns-in-Replay-clause-takes g c =
    of_command g.F.Files c.args.files.now c.make_replay.new.files (replay (replay_view c.in-Replay.replay)) (command_view c.args.command.now) c.make_replay.result c.make_replay.ensures.takes (sym (ap command_view c.in-Replay.is))

pub returns-in-Lineage-clause-takes : goal.returns-in-Lineage-clause-takes
returns-in-Lineage-clause-takes g c =
    of_command g.F.Files c.args.files.now c.make_links.new.files (lineage (source_view c.in-Lineage.source)) (command_view c.args.command.now) c.make_links.result c.make_links.ensures.takes (sym (ap command_view c.in-Lineage.is))

pub returns-in-Format-clause-takes : goal.returns-in-Format-clause-takes
returns-in-Format-clause-takes g c =
    of_command g.F.Files c.args.files.now c.make_form.new.files (format c.in-Format.path.now) (command_view c.args.command.now) c.make_form.result c.make_form.ensures.takes (sym (ap command_view c.in-Format.is))

pub returns-in-Migrate-clause-takes : goal.returns-in-Migrate-clause-takes
returns-in-Migrate-clause-takes g c =
    of_command g.F.Files c.args.files.now c.make_migration.new.files (migrate (migration_view c.in-Migrate.migration)) (command_view c.args.command.now) c.make_migration.result c.make_migration.ensures.takes (sym (ap command_view c.in-Migrate.is))

pub returns-in-Demo-clause-takes : goal.returns-in-Demo-clause-takes
returns-in-Demo-clause-takes g c =
    of_command g.F.Files c.args.files.now c.args.files.now (demo c.in-Demo.points) (command_view c.args.command.now) c.make_lines.result
    (settled_given g.F.Files c.args.files.now made_view (Ok (only_text (said c.in-Demo.points))) (λ status e. cc) c.make_lines.result c.make_lines.ensures.made) (sym (ap command_view c.in-Demo.is))
